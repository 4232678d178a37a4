-- Spellings by parts of a token list.
use Rattle.std.proofs.Common.{◌≡◌, ℕ, ◌+◌, ◌-◌, List, [], ◌∷◌, ◌++◌, refl, sym, ap, ◌∙◌, append_assoc}
use Rattle.go_ast.specs.declared.token.Token.{Token}
use Rattle.go_grammar.specs.Words.{words_of}
use Rattle.cov_tokens.specs.Spellings.{Spelling, spelling_of, spellings_of}
use Rattle.cov_tokens.specs.Joining.{put_along, spelled_from, spelled_upto, offset_behind}
use Rattle.cov_tokens.specs.Grammar.{spellings_in}

pub parted : (text : List ℕ) (put : ℕ → List Spelling) (at : ℕ) (ts us : List Token) → spelled_from text put at (ts ++ us) ≡ spelled_upto text put at ts ++ spelled_from text put (offset_behind at ts) us
parted text put at [] us = refl
parted text put at (t ∷ ts) us =
    ap (λ (x : List Spelling). put_along put at ((t.span.start + 1) - at) ++ spelling_of text t ∷ x) (parted text put (t.span.start + 1) ts us)
    ∙ sym (append_assoc (put_along put at ((t.span.start + 1) - at)) (spelling_of text t ∷ spelled_upto text put (t.span.start + 1) ts) (spelled_from text put (offset_behind (t.span.start + 1) ts) us))

pub of_words : (text : List ℕ) (ts : List Token) → spellings_in (words_of text ts) ≡ spellings_of text ts
of_words text [] = refl
of_words text (t ∷ ts) = ap (λ (x : List Spelling). spelling_of text t ∷ x) (of_words text ts)
