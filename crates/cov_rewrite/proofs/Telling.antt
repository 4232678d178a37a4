-- What rewriting answers is what the text comes to.
use Rattle.std.proofs.Common.{◌≡◌, ℕ, ◌≤◌, Bool, true, false, cond, List, [], ◌∷◌, length, Option, Some, None, Result, Ok, Err, inl, inr, refl, sym, ap, subst, arith}
use Rattle.std.specs.Prelude.{All, find}
use Rattle.std.proofs.lemmas.List.Elements.{All-head, All-tail}
use Rattle.go_ast.specs.declared.file.File.{File}
use Rattle.go_ast.specs.declared.kind.LexKind.{LexKind}
use Rattle.go_ast.specs.declared.kind.SourceKind.TheVariants.{CoverName}
use Rattle.go_ast.specs.declared.token.Token.{Token}
use Rattle.go_ast.specs.Faults.{HasFault}
use Rattle.go_ast.specs.Tokens.{HasTokens}
use Rattle.go_grammar.specs.Blocks.{source}
use Rattle.go_grammar.specs.Files.{SpellsWithin}
use Rattle.go_grammar.specs.Words.{words_of}
use Rattle.go_lex.specs.declared.fault.LexFault.{LexFault}
use Rattle.go_lex.specs.declared.fault.LexFault.TheVariants as lex
use Rattle.go_lex.specs.Verdicts.{Fails}
use Rattle.go_parse.specs.declared.fault.SourceFault.{SourceFault}
use Rattle.go_parse.specs.declared.fault.SourceFault.TheVariants as fault
use Rattle.go_parse.specs.Answers.{IsFaultOf, IsWithin}
use Rattle.cov_outside.specs.declared.mode.Mode.{Mode}
use Rattle.cov_rewrite.specs.Coming.{ComesTo, Tells, rewritten}
use Rattle.go_spans.specs.Spans.{IsUpTo}
use Rattle.cov_rewrite.specs.Reserved.{first_reserved, is_reserved_token}
use Rattle.cov_rewrite.specs.Rewriting.{IsRewriting, Refuses, RefusesTokens, lexical_fault}
use Rattle.cov_rewrite.specs.declared.covered.Rewritten.{Rewritten}

-- ---- a token that is found

found_by : (P : Token → Type 0) (b : Bool) (first : Token) (later : Option Token) (t : Token) → cond b (Some first) later ≡ Some t → P first → (later ≡ Some t → P t) → P t
found_by P true first later t e here there = let same : first ≡ t = cc in subst P same here
found_by P false first later t e here there = there e

found : (P : Token → Type 0) (p : Token → Bool) (ts : List Token) (t : Token) → find p ts ≡ Some t → All P ts → P t
found P p [] t e all = absurd cc
found P p (first ∷ ts) t e all = found_by P (p first) first (find p ts) t e (All-head P first ts all) (λ k. found P p ts t k (All-tail P first ts all))

module _ (text name var : List ℕ) (m : Mode) where
  abbrev Comes : Result Rewritten SourceFault → Type 0
  Comes x = ComesTo text name var m x

  -- ---- lexical faults

  pub lexical_told : (e : LexFault) → Fails text e → Tells (Err (lexical_fault e)) Comes
  unfolding ComesTo
  lexical_told (lex.At offset kind) h = inl (kind, refl, h)
  lexical_told lex.NoMemory h = tt

  pub lexical_within : ((text : List ℕ) (at : ℕ) (kind : LexKind) → HasFault text at kind → at ≤ length text) → (e : LexFault) → Fails text e → IsWithin (length text) (lexical_fault e)
  lexical_within stand (lex.At offset kind) h = stand text offset kind h.has
  lexical_within stand lex.NoMemory h = tt

  -- ---- tokens

  pub name_within : ((text : List ℕ) (tokens : List Token) → HasTokens text tokens → All (IsUpTo (length text)) tokens) → (tokens : List Token) → HasTokens text tokens → (token : Token) → first_reserved var text tokens ≡ Some token
      → token.span.start ≤ length text
  name_within stand tokens has token is = let h = found (IsUpTo (length text)) (is_reserved_token var text) tokens token is (stand text tokens has) in let a = h.0 in let b = h.1 in omega arith

  module _ (tokens : List Token) (has : HasTokens text tokens) where
    pub name_told : (token : Token) → first_reserved var text tokens ≡ Some token → Comes (Err (fault.At token.span.start CoverName))
    unfolding ComesTo
    name_told token is = inr (tokens, has, subst (λ (o : Option Token). RefusesTokens text var tokens o (fault.At token.span.start CoverName)) (sym is) (refl, refl))

    pub fault_told : (e : SourceFault) → first_reserved var text tokens ≡ None → IsFaultOf text tokens e → Tells (Err e) Comes
    unfolding ComesTo
    fault_told (fault.At offset kind) none h = inr (tokens, has, subst (λ (o : Option Token). RefusesTokens text var tokens o (fault.At offset kind)) (sym none) h)
    fault_told (fault.Limit which) none h = inr (tokens, has, subst (λ (o : Option Token). RefusesTokens text var tokens o (fault.Limit which)) (sym none) h)
    fault_told fault.NoMemory none h = tt

    pub text_told : (file : File) (all : Rewritten) → first_reserved var text tokens ≡ None → SpellsWithin source 1000 1000 file (words_of text tokens) → all ≡ rewritten text file name var m → Comes (Ok all)
    unfolding ComesTo
    text_told file all none spells is = (tokens, file, has, none, spells, is)

  -- ---- answers of rewrite

  pub rewriting : (all : Rewritten) → Comes (Ok all) → IsRewriting text name var m all.text
  unfolding ComesTo
  rewriting all h = (h.0, h.1, h.2, h.3, h.4, ap (λ (r : Rewritten). r.text) h.5)

  pub refused : (e : SourceFault) → Tells (Err e) Comes → Refuses text var e
  unfolding ComesTo
  refused (fault.At offset kind) h = h
  refused (fault.Limit which) h = h
  refused fault.NoMemory h = inl tt

  of_text : (all : List ℕ) (r : IsRewriting text name var m all) → Comes (Ok (rewritten text r.1 name var m))
  unfolding ComesTo
  of_text all r = (r.0, r.1, r.2, r.3, r.4, refl)

  -- a text that has a covered text has no fault
  pub only_memory : ((x y : Result Rewritten SourceFault) → Comes x → Comes y → x ≡ y) → (all : List ℕ) → IsRewriting text name var m all → (e : SourceFault) → Tells (Err e) Comes → e ≡ fault.NoMemory
  only_memory one all r (fault.At offset kind) h = let k = one (Ok (rewritten text r.1 name var m)) (Err (fault.At offset kind)) (of_text all r) h in absurd cc
  only_memory one all r (fault.Limit which) h = let k = one (Ok (rewritten text r.1 name var m)) (Err (fault.Limit which)) (of_text all r) h in absurd cc
  only_memory one all r fault.NoMemory h = refl
