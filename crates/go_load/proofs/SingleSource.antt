-- A source comes to one tree or one fault.
use Rattle.std.proofs.Common.{◌≡◌, ℕ, List, Ok, Err, inl, inr, refl, sym, ap, subst, ◌∙◌}
use Rattle.go_ast.specs.declared.file.File.{File}
use Rattle.go_ast.specs.declared.token.Token.{Token}
use Rattle.go_ast.specs.declared.kind.LexKind.{LexKind}
use Rattle.go_ast.specs.Tokens.{HasTokens}
use Rattle.go_ast.specs.Faults.{HasFault, IsFault}
use Rattle.go_ast.specs.Kinds.{source_kind}
use Rattle.go_grammar.specs.Blocks.{source}
use Rattle.go_grammar.specs.Files.{SpellsWithin}
use Rattle.go_grammar.specs.Words.{words_of}
use Rattle.go_reading.specs.declared.fault.Fault.TheVariants as f
use Rattle.go_reading.specs.Outcomes.{OneFault, SpellsOne, TreeHasNoFault}
use Rattle.go_parse.specs.Answers.{Fails, IsFaultOf, IsLexFault, IsSource, offset_at}
use Rattle.go_parse.specs.declared.fault.SourceFault.{SourceFault}
use Rattle.go_parse.specs.declared.fault.SourceFault.TheVariants as fault
use Rattle.go_parse.specs.declared.fault.WhichSource.TheVariants as limit
use Rattle.go_load.specs.Outcome.{IsSaid, ReadsOne}
use Rattle.go_load.specs.Sources.{ReadsSources, read_fault}
use Rattle.go_load.specs.declared.reader.ReadFault.{ReadFault}

-- a fault that isn't want of memory
pub IsTold : SourceFault → Type 0
IsTold e = IsSaid (Err (read_fault e))

module _ (one_list : (text : List ℕ) (tokens others : List Token) → HasTokens text tokens → HasTokens text others → tokens ≡ others)
    (one_fault : (text : List ℕ) (at other : ℕ) (kind other_kind : LexKind) → IsFault text at kind → IsFault text other other_kind → (at ≡ other) × (kind ≡ other_kind))
    (not_both : (text : List ℕ) (tokens : List Token) (at : ℕ) (kind : LexKind) → HasTokens text tokens → HasFault text at kind → ⊥)
    (one_tree : SpellsOne source) (apart : TreeHasNoFault source) (one : OneFault source) where
  pub lex_one : (text : List ℕ) (d e : SourceFault) → IsTold d → IsTold e → IsLexFault text d → IsLexFault text e → d ≡ e
  unfolding IsTold
  lex_one text (fault.At at kind) (fault.At other also) told said p q =
      let same = one_fault text at other p.0 q.0 p.2 q.2 in
      ap (λ n. fault.At n kind) same.0 ∙ ap (fault.At other) (p.1 ∙ ap source_kind same.1 ∙ sym q.1)
  lex_one text (fault.At at kind) (fault.Limit which) told said p q = absurd q
  lex_one text (fault.At at kind) fault.NoMemory told said p q = absurd said
  lex_one text (fault.Limit which) e told said p q = absurd p
  lex_one text fault.NoMemory e told said p q = absurd told

  pub no_lex_fault : (text : List ℕ) (tokens : List Token) (e : SourceFault) → IsTold e → HasTokens text tokens → IsLexFault text e → ⊥
  unfolding IsTold
  no_lex_fault text tokens (fault.At at kind) told has p = not_both text tokens at p.0 has p.2.has
  no_lex_fault text tokens (fault.Limit which) told has p = p
  no_lex_fault text tokens fault.NoMemory told has p = told

  pub no_fault : (text : List ℕ) (tokens : List Token) (tree : File) (e : SourceFault) → IsTold e → SpellsWithin source 1000 1000 tree (words_of text tokens) → IsFaultOf text tokens e → ⊥
  unfolding IsTold
  no_fault text tokens tree (fault.At at kind) told spells p = apart 1000 1000 p.1.0 (words_of text tokens) tree f.Unexpected spells p.1.1
  no_fault text tokens tree (fault.Limit limit.Depth) told spells p = apart 1000 1000 p.0 (words_of text tokens) tree f.TooDeep spells p.1
  no_fault text tokens tree (fault.Limit limit.SelectClauses) told spells p = apart 1000 1000 p.0 (words_of text tokens) tree f.TooMany spells p.1
  no_fault text tokens tree fault.NoMemory told spells p = told

  pub fault_one : (text : List ℕ) (tokens : List Token) (d e : SourceFault) → IsTold d → IsTold e → IsFaultOf text tokens d → IsFaultOf text tokens e → d ≡ e
  unfolding IsTold
  fault_one text tokens (fault.At at kind) (fault.At other also) told said p q =
      let same = one 1000 1000 p.1.0 q.1.0 (words_of text tokens) f.Unexpected f.Unexpected p.1.1 q.1.1 in
      ap (λ n. fault.At n kind) (p.1.2 ∙ ap (offset_at text tokens) same.0 ∙ sym q.1.2) ∙ ap (fault.At other) (p.0 ∙ sym q.0)
  fault_one text tokens (fault.At at kind) (fault.Limit limit.Depth) told said p q = let same = one 1000 1000 p.1.0 q.0 (words_of text tokens) f.Unexpected f.TooDeep p.1.1 q.1 in let no' = same.1 in cc
  fault_one text tokens (fault.At at kind) (fault.Limit limit.SelectClauses) told said p q = let same = one 1000 1000 p.1.0 q.0 (words_of text tokens) f.Unexpected f.TooMany p.1.1 q.1 in let no' = same.1 in cc
  fault_one text tokens (fault.Limit limit.Depth) (fault.At other also) told said p q = let same = one 1000 1000 p.0 q.1.0 (words_of text tokens) f.TooDeep f.Unexpected p.1 q.1.1 in let no' = same.1 in cc
  fault_one text tokens (fault.Limit limit.SelectClauses) (fault.At other also) told said p q = let same = one 1000 1000 p.0 q.1.0 (words_of text tokens) f.TooMany f.Unexpected p.1 q.1.1 in let no' = same.1 in cc
  fault_one text tokens (fault.Limit limit.Depth) (fault.Limit limit.Depth) told said p q = refl
  fault_one text tokens (fault.Limit limit.SelectClauses) (fault.Limit limit.SelectClauses) told said p q = refl
  fault_one text tokens (fault.Limit limit.Depth) (fault.Limit limit.SelectClauses) told said p q = let same = one 1000 1000 p.0 q.0 (words_of text tokens) f.TooDeep f.TooMany p.1 q.1 in let no' = same.1 in cc
  fault_one text tokens (fault.Limit limit.SelectClauses) (fault.Limit limit.Depth) told said p q = let same = one 1000 1000 p.0 q.0 (words_of text tokens) f.TooMany f.TooDeep p.1 q.1 in let no' = same.1 in cc
  fault_one text tokens (fault.At at kind) fault.NoMemory told said p q = absurd said
  fault_one text tokens (fault.Limit which) fault.NoMemory told said p q = absurd said
  fault_one text tokens fault.NoMemory e told said p q = absurd told

  fails_one : (text : List ℕ) (d e : SourceFault) → IsTold d → IsTold e → Fails text d → Fails text e → d ≡ e
  fails_one text d e told said (inl p) (inl q) = lex_one text d e told said p q
  fails_one text d e told said (inl p) (inr (tokens, has, q)) = absurd (no_lex_fault text tokens d told has p)
  fails_one text d e told said (inr (tokens, has, p)) (inl q) = absurd (no_lex_fault text tokens e said has q)
  fails_one text d e told said (inr (tokens, has, p)) (inr (others, has', q)) =
      fault_one text tokens d e told said p (subst (λ ts. IsFaultOf text ts e) (sym (one_list text tokens others has has')) q)

  no_failure : (text : List ℕ) (tree : File) (e : SourceFault) → IsTold e → IsSource text tree → Fails text e → ⊥
  no_failure text tree e told (tokens, has, spells) (inl p) = no_lex_fault text tokens e told has p
  no_failure text tree e told (tokens, has, spells) (inr (others, has', p)) =
      no_fault text tokens tree e told spells (subst (λ ts. IsFaultOf text ts e) (sym (one_list text tokens others has has')) p)

  pub told_by : (r : ReadFault) (e : SourceFault) → IsSaid (Err r) → r ≡ read_fault e → IsTold e
  unfolding IsTold
  told_by r e said is = subst (λ x. IsSaid (Err x)) is said

  pub sources_one : ReadsOne ReadsSources
  sources_one text (Ok x) (Ok y) said told (tokens, has, spells) (others, has', spells') =
      let same : tokens ≡ others = one_list text tokens others has has' in
      ap (λ z. Ok z) (one_tree (words_of text tokens) x y (1000, 1000, spells) (1000, 1000, subst (λ ts. SpellsWithin source 1000 1000 y (words_of text ts)) (sym same) spells'))
  sources_one text (Ok x) (Err r) said told p (e, fails, is) = absurd (no_failure text x e (told_by r e told is) p fails)
  sources_one text (Err r) (Ok y) said told (e, fails, is) q = absurd (no_failure text y e (told_by r e said is) q fails)
  sources_one text (Err r) (Err s) said told (d, fails, is) (e, fails', is') =
      ap (λ z. Err z) (is ∙ ap read_fault (fails_one text d e (told_by r d said is) (told_by s e told is') fails fails') ∙ sym is')
