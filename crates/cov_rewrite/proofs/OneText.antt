-- A text comes to one covered text or to one fault.
use Rattle.std.proofs.Common.{◌≡◌, ℕ, List, Option, Some, None, Result, Ok, Err, inl, inr, refl, sym, ap, ap₂, ◌∙◌, subst}
use Rattle.go_ast.specs.declared.file.File.{File}
use Rattle.go_ast.specs.declared.kind.LexKind.{LexKind}
use Rattle.go_ast.specs.declared.kind.SourceKind.{SourceKind}
use Rattle.go_ast.specs.declared.kind.SourceKind.TheVariants.{Unexpected}
use Rattle.go_ast.specs.declared.token.Token.{Token}
use Rattle.go_ast.specs.Faults.{HasFault, IsFault}
use Rattle.go_ast.specs.Kinds.{source_kind}
use Rattle.go_ast.specs.Tokens.{HasTokens}
use Rattle.go_grammar.specs.Blocks.{source}
use Rattle.go_grammar.specs.Files.{SpellsWithin}
use Rattle.go_grammar.specs.Words.{words_of}
use Rattle.go_reading.specs.declared.fault.Fault.{Fault}
use Rattle.go_reading.specs.declared.fault.Fault.TheVariants as reading
use Rattle.go_reading.specs.Outcomes.{IsFaultAt, SpellsOne, TreeHasNoFault, OneFault}
use Rattle.go_parse.specs.declared.fault.SourceFault.{SourceFault}
use Rattle.go_parse.specs.declared.fault.SourceFault.TheVariants as fault
use Rattle.go_parse.specs.declared.fault.WhichSource.TheVariants as limit
use Rattle.go_parse.specs.Answers.{IsFaultOf, IsLexFault, offset_at}
use Rattle.cov_outside.specs.declared.mode.Mode.{Mode}
use Rattle.cov_rewrite.specs.Coming.{ComesTo, IsCounted, rewritten}
use Rattle.cov_rewrite.specs.Reserved.{first_reserved}
use Rattle.cov_rewrite.specs.Rewriting.{IsNameFault, Refuses, RefusesTokens}
use Rattle.cov_rewrite.specs.declared.covered.Rewritten.{Rewritten}

-- a fault of a text: none for want of memory
abbrev pub IsReal : SourceFault → Type 0
IsReal (fault.At offset kind) = Unit {0}
IsReal (fault.Limit which) = Unit {0}
IsReal fault.NoMemory = ⊥

-- the fault of a source at a token
abbrev by_fault : (text : List ℕ) (tokens : List Token) → ℕ → Fault → SourceFault
by_fault text tokens i reading.Unexpected = fault.At (offset_at text tokens i) Unexpected
by_fault text tokens i reading.TooDeep = fault.Limit limit.Depth
by_fault text tokens i reading.TooMany = fault.Limit limit.SelectClauses
by_fault text tokens i reading.Exhausted = fault.NoMemory

abbrev IsBy : List ℕ → List Token → SourceFault → Type 0
IsBy text tokens e = (i : ℕ) × (f : Fault) × IsFaultAt source 1000 1000 (words_of text tokens) i f × (e ≡ by_fault text tokens i f)

by : (text : List ℕ) (tokens : List Token) (e : SourceFault) → IsReal e → IsFaultOf text tokens e → IsBy text tokens e
by text tokens (fault.At offset kind) real h = (h.1.0, reading.Unexpected, h.1.1, ap₂ (λ (o : ℕ) (k : SourceKind). fault.At o k) h.1.2 h.0)
by text tokens (fault.Limit limit.Depth) real h = (h.0, reading.TooDeep, h.1, refl)
by text tokens (fault.Limit limit.SelectClauses) real h = (h.0, reading.TooMany, h.1, refl)
by text tokens fault.NoMemory real h = absurd real

by_name : (token : Token) (x y : SourceFault) → IsNameFault token x → IsNameFault token y → x ≡ y
by_name token (fault.At offset kind) (fault.At other kind') h k = ap₂ (λ (o : ℕ) (d : SourceKind). fault.At o d) (h.1 ∙ sym k.1) (h.0 ∙ sym k.0)
by_name token (fault.At offset kind) (fault.Limit which) h k = absurd k
by_name token (fault.At offset kind) fault.NoMemory h k = absurd k
by_name token (fault.Limit which) y h k = absurd h
by_name token fault.NoMemory y h k = absurd h

abbrev pub OneList : Type 0
OneList = (text : List ℕ) (tokens others : List Token) → HasTokens text tokens → HasTokens text others → tokens ≡ others

abbrev pub OneLexFault : Type 0
OneLexFault = (text : List ℕ) (at other : ℕ) (kind other_kind : LexKind) → IsFault text at kind → IsFault text other other_kind → (at ≡ other) × (kind ≡ other_kind)

abbrev pub NotBoth : Type 0
NotBoth = (text : List ℕ) (tokens : List Token) (at : ℕ) (kind : LexKind) → HasTokens text tokens → HasFault text at kind → ⊥

module _ (one_list : OneList) (one_lex : OneLexFault) (not_both : NotBoth) (one_tree : SpellsOne source) (apart : TreeHasNoFault source) (one_fault : OneFault source) (text name var : List ℕ) (m : Mode) where
  -- ---- two faults

  lexical : (x y : SourceFault) → IsReal x → IsReal y → IsLexFault text x → IsLexFault text y → x ≡ y
  lexical (fault.At at kind) (fault.At other kind') p q h k =
      let same = one_lex text at other h.0 k.0 h.2 k.2 in
      ap₂ (λ (o : ℕ) (d : SourceKind). fault.At o d) same.0 (h.1 ∙ ap source_kind same.1 ∙ sym k.1)
  lexical (fault.At at kind) (fault.Limit which) p q h k = absurd k
  lexical (fault.At at kind) fault.NoMemory p q h k = absurd q
  lexical (fault.Limit which) y p q h k = absurd h
  lexical fault.NoMemory y p q h k = absurd p

  -- a text with tokens has no lexical fault
  no_lexical : (A : Type 0) (tokens : List Token) (x : SourceFault) → IsReal x → HasTokens text tokens → IsLexFault text x → A
  no_lexical A tokens (fault.At at kind) p has h = absurd (not_both text tokens at h.0 has h.2.has)
  no_lexical A tokens (fault.Limit which) p has h = absurd h
  no_lexical A tokens fault.NoMemory p has h = absurd p

  of_tokens : (tokens : List Token) (o : Option Token) (x y : SourceFault) → IsReal x → IsReal y → RefusesTokens text var tokens o x → RefusesTokens text var tokens o y → x ≡ y
  of_tokens tokens (Some token) x y p q h k = by_name token x y h k
  of_tokens tokens None x y p q h k =
      let a : IsBy text tokens x = by text tokens x p h in
      let b : IsBy text tokens y = by text tokens y q k in
      let same = one_fault 1000 1000 a.0 b.0 (words_of text tokens) a.1 b.1 a.2 b.2 in
      a.3 ∙ ap₂ (λ (i : ℕ) (f : Fault). by_fault text tokens i f) same.0 same.1 ∙ sym b.3

  abbrev Refused : List Token → SourceFault → Type 0
  Refused tokens x = RefusesTokens text var tokens (first_reserved var text tokens) x

  two_faults : (x y : SourceFault) → IsReal x → IsReal y → Refuses text var x → Refuses text var y → x ≡ y
  two_faults x y p q (inl h) (inl k) = lexical x y p q h k
  two_faults x y p q (inl h) (inr k) = no_lexical (x ≡ y) k.0 x p k.1 h
  two_faults x y p q (inr h) (inl k) = no_lexical (x ≡ y) h.0 y q h.1 k
  two_faults x y p q (inr h) (inr k) = of_tokens h.0 (first_reserved var text h.0) x y p q h.2 (subst (λ (ts : List Token). Refused ts y) (one_list text k.0 h.0 k.1 h.1) k.2)

  -- ---- a tree and a fault

  no_refusal : (A : Type 0) (tokens : List Token) (file : File) (o : Option Token) (x : SourceFault) → IsReal x → o ≡ None → SpellsWithin source 1000 1000 file (words_of text tokens) → RefusesTokens text var tokens o x → A
  no_refusal A tokens file (Some token) x p none spells h = absurd cc
  no_refusal A tokens file None x p none spells h = let b : IsBy text tokens x = by text tokens x p h in absurd (apart 1000 1000 b.0 (words_of text tokens) file b.1 spells b.2)

  never : (A : Type 0) (all : Rewritten) (x : SourceFault) → IsReal x → IsCounted text name var m all → Refuses text var x → A
  never A all x p s (inl h) = no_lexical A s.0 x p s.2 h
  never A all x p s (inr h) = no_refusal A s.0 s.1 (first_reserved var text s.0) x p s.3 s.4 (subst (λ (ts : List Token). Refused ts x) (one_list text h.0 s.0 h.1 s.2) h.2)

  -- ---- two trees

  two_trees : (x y : Rewritten) → IsCounted text name var m x → IsCounted text name var m y → x ≡ y
  two_trees x y h k =
      let same : k.0 ≡ h.0 = one_list text k.0 h.0 k.2 h.2 in
      let other : SpellsWithin source 1000 1000 k.1 (words_of text h.0) = subst (λ (ts : List Token). SpellsWithin source 1000 1000 k.1 (words_of text ts)) same k.4 in
      h.5 ∙ ap (λ (f : File). rewritten text f name var m) (one_tree (words_of text h.0) h.1 k.1 (1000, 1000, h.4) (1000, 1000, other)) ∙ sym k.5

  -- ---- all

  abbrev Comes : Result Rewritten SourceFault → Type 0
  Comes x = ComesTo text name var m x

  refuses : (x : SourceFault) → Comes (Err x) → IsReal x × Refuses text var x
  unfolding ComesTo
  refuses (fault.At offset kind) h = (tt, h)
  refuses (fault.Limit which) h = (tt, h)
  refuses fault.NoMemory h = absurd h

  counted : (x : Rewritten) → Comes (Ok x) → IsCounted text name var m x
  unfolding ComesTo
  counted x h = h

  pub once : (x y : Result Rewritten SourceFault) → ComesTo text name var m x → ComesTo text name var m y → x ≡ y
  once (Ok x) (Ok y) h k = ap (λ (z : Rewritten). Ok z) (two_trees x y (counted x h) (counted y k))
  once (Ok x) (Err y) h k = let r = refuses y k in never (Ok x ≡ Err y) x y r.0 (counted x h) r.1
  once (Err x) (Ok y) h k = let r = refuses x h in never (Err x ≡ Ok y) y x r.0 (counted y k) r.1
  once (Err x) (Err y) h k = let r = refuses x h in let s = refuses y k in ap (λ (z : SourceFault). Err z) (two_faults x y r.0 s.0 r.1 s.1)
