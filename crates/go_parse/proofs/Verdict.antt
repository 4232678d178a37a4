-- From what the reader of files gives to what a source is answered with.
use Rattle.std.proofs.Common.{◌≡◌, ℕ, List, length, Result, Ok, Err, inl, inr, refl, subst}
use Rattle.go_ast.specs.declared.file.File.{File}
use Rattle.go_ast.specs.declared.token.Token.{Token}
use Rattle.go_ast.specs.declared.kind.LexKind.{LexKind}
use Rattle.go_ast.specs.Tokens.{HasTokens}
use Rattle.go_ast.specs.Faults.{HasFault}
use Rattle.go_grammar.specs.Words.{words_of}
use Rattle.go_grammar.specs.Blocks.{source}
use Rattle.go_grammar.specs.Files.{SpellsWithin}
use Rattle.go_reading.specs.declared.fault.Fault.TheVariants as f
use Rattle.go_reading.specs.Outcomes.{TreeHasNoFault}
use Rattle.go_parse.specs.declared.fault.SourceFault.{SourceFault}
use Rattle.go_parse.specs.declared.fault.SourceFault.TheVariants as fault
use Rattle.go_parse.specs.declared.fault.WhichSource.TheVariants as limit
use Rattle.go_parse.specs.Answers.{IsSource, IsFaultOf, IsLexFault, IsWithin, Fails, source_fault}
use Rattle.go_parse.proofs.Offsets.{fault_within}
use Rattle.std.specs.Prelude.{MatchResult, IfOk, IfErr}
use Rattle.go_lex.specs.declared.fault.LexFault.{LexFault}
use Rattle.go_lex.specs.declared.fault.LexFault.TheVariants as lexical
use Rattle.go_lex.specs.Verdicts.{Fails as LexFails}

abbrev pub OneList : Type 0
OneList = (text : List ℕ) (tokens others : List Token) → HasTokens text tokens → HasTokens text others → tokens ≡ others

abbrev pub NotBoth : Type 0
NotBoth = (text : List ℕ) (tokens : List Token) (at : ℕ) (kind : LexKind) → HasTokens text tokens → HasFault text at kind → ⊥

no_fault : TreeHasNoFault source → (text : List ℕ) (tokens : List Token) (tree : File) (e : SourceFault) → SpellsWithin source 1000 1000 tree (words_of text tokens) → IsFaultOf text tokens e → e ≡ fault.NoMemory
no_fault apart text tokens tree (fault.At offset kind) s h = absurd (apart 1000 1000 h.1.0 (words_of text tokens) tree f.Unexpected s h.1.1)
no_fault apart text tokens tree (fault.Limit limit.Depth) s h = absurd (apart 1000 1000 h.0 (words_of text tokens) tree f.TooDeep s h.1)
no_fault apart text tokens tree (fault.Limit limit.SelectClauses) s h = absurd (apart 1000 1000 h.0 (words_of text tokens) tree f.TooMany s h.1)
no_fault apart text tokens tree fault.NoMemory s h = refl

no_lex_fault : NotBoth → (text : List ℕ) (tokens : List Token) (e : SourceFault) → HasTokens text tokens → IsLexFault text e → e ≡ fault.NoMemory
no_lex_fault both text tokens (fault.At offset kind) t h = absurd (both text tokens offset h.0 t h.2.has)
no_lex_fault both text tokens (fault.Limit which) t h = absurd h
no_lex_fault both text tokens fault.NoMemory t h = refl

-- a source fails for want of memory alone
pub only_memory : OneList → NotBoth → TreeHasNoFault source → (text : List ℕ) (tree : File) (e : SourceFault) → IsSource text tree → Fails text e → e ≡ fault.NoMemory
only_memory one both apart text tree e s (inl h) = no_lex_fault both text s.0 e s.1 h
only_memory one both apart text tree e s (inr h) = no_fault apart text s.0 tree e s.2 (subst (λ (ts : List Token). IsFaultOf text ts e) (one text h.0 s.0 h.1 s.1) h.2)

-- what the readers of tokens tell
abbrev pub Told : List ℕ → List Token → Result File SourceFault → Type 0
Told text tokens r = MatchResult r (λ x. SpellsWithin source 1000 1000 x (words_of text tokens)) (IsFaultOf text tokens)

pub only_told : TreeHasNoFault source → (text : List ℕ) (tokens : List Token) (r : Result File SourceFault) (tree : File) → Told text tokens r
    → SpellsWithin source 1000 1000 tree (words_of text tokens) → IfErr r (λ e. e ≡ fault.NoMemory)
only_told apart text tokens (Ok x) tree told s = tt
only_told apart text tokens (Err e) tree told s = no_fault apart text tokens tree e s told

pub within_told : (text : List ℕ) (tokens : List Token) (r : Result File SourceFault) → HasTokens text tokens → Told text tokens r → IfErr r (IsWithin (length text))
within_told text tokens (Ok x) has told = tt
within_told text tokens (Err e) has told = fault_within text tokens e has told

-- the same of tokens that are those of the text
module _ (text : List ℕ) (tokens others : List Token) (r : Result File SourceFault) (has : HasTokens text tokens) (are : others ≡ tokens) (told : Told text others r) where
  same : Told text tokens r
  same = subst (λ (ts : List Token). Told text ts r) are told

  source_by : (r : Result File SourceFault) → Told text tokens r → IfOk r (IsSource text)
  source_by (Ok x) h = (tokens, has, h)
  source_by (Err e) h = tt

  fails_by : (r : Result File SourceFault) → Told text tokens r → IfErr r (Fails text)
  fails_by (Ok x) h = tt
  fails_by (Err e) h = inr (tokens, has, h)

  only_by : OneList → NotBoth → TreeHasNoFault source → (tree : File) → IsSource text tree → (r : Result File SourceFault) → Told text tokens r → IfErr r (λ e. e ≡ fault.NoMemory)
  only_by one both apart tree s (Ok x) h = tt
  only_by one both apart tree s (Err e) h = only_memory one both apart text tree e s (inr (tokens, has, h))

  pub source_told : IfOk r (IsSource text)
  source_told = source_by r same

  pub fails_told : IfErr r (Fails text)
  fails_told = fails_by r same

  pub only_source : OneList → NotBoth → TreeHasNoFault source → (tree : File) → IsSource text tree → IfErr r (λ e. e ≡ fault.NoMemory)
  only_source one both apart tree s = only_by one both apart tree s r same

pub lexical_fault : (text : List ℕ) (e : LexFault) → LexFails text e → IsLexFault text (source_fault e)
lexical_fault text (lexical.At offset kind) h = (kind, refl, h)
lexical_fault text lexical.NoMemory h = tt
