-- A source of a covered module comes to one tree or one fault.
use Rattle.std.proofs.Common.{◌≡◌, ℕ, List, Option, Some, None, Ok, Err, inl, inr, sym, ap, subst, ◌∙◌}
use Rattle.go_ast.specs.declared.file.File.{File}
use Rattle.go_ast.specs.declared.token.Token.{Token}
use Rattle.go_ast.specs.declared.kind.LexKind.{LexKind}
use Rattle.go_ast.specs.Tokens.{HasTokens}
use Rattle.go_ast.specs.Faults.{HasFault, IsFault}
use Rattle.go_grammar.specs.Blocks.{source}
use Rattle.go_grammar.specs.Files.{SpellsWithin}
use Rattle.go_grammar.specs.Words.{words_of}
use Rattle.go_reading.specs.Outcomes.{OneFault, SpellsOne, TreeHasNoFault}
use Rattle.go_parse.specs.declared.fault.SourceFault.{SourceFault}
use Rattle.go_parse.specs.declared.fault.SourceFault.TheVariants as fault
use Rattle.go_load.specs.Coverable.{IsCoverable, IsNameFault, ReadsCoverable, RefusesCover, RefusesTokens}
use Rattle.go_load.specs.CoverNames.{first_cover_name}
use Rattle.go_load.specs.Outcome.{ReadsOne}
use Rattle.go_load.specs.Sources.{read_fault}
use Rattle.go_load.proofs.SingleSource.{IsTold, fault_one, lex_one, no_fault, no_lex_fault, told_by}

name_fault_one : (token : Token) (d e : SourceFault) → IsNameFault token d → IsNameFault token e → d ≡ e
name_fault_one token (fault.At at kind) (fault.At other also) p q = ap (λ n. fault.At n kind) (p.1 ∙ sym q.1) ∙ ap (fault.At other) (p.0 ∙ sym q.0)
name_fault_one token (fault.At at kind) (fault.Limit which) p q = absurd q
name_fault_one token (fault.At at kind) fault.NoMemory p q = absurd q
name_fault_one token (fault.Limit which) e p q = absurd p
name_fault_one token fault.NoMemory e p q = absurd p

module _ (one_list : (text : List ℕ) (tokens others : List Token) → HasTokens text tokens → HasTokens text others → tokens ≡ others)
    (one_fault : (text : List ℕ) (at other : ℕ) (kind other_kind : LexKind) → IsFault text at kind → IsFault text other other_kind → (at ≡ other) × (kind ≡ other_kind))
    (not_both : (text : List ℕ) (tokens : List Token) (at : ℕ) (kind : LexKind) → HasTokens text tokens → HasFault text at kind → ⊥)
    (one_tree : SpellsOne source) (apart : TreeHasNoFault source) (one : OneFault source) where
  refusal_one : (text : List ℕ) (tokens : List Token) (name : Option Token) (d e : SourceFault) → IsTold d → IsTold e → RefusesTokens text tokens name d → RefusesTokens text tokens name e → d ≡ e
  refusal_one text tokens None d e told said p q = fault_one one_list one_fault not_both one_tree apart one text tokens d e told said p q
  refusal_one text tokens (Some token) d e told said p q = name_fault_one token d e p q

  -- these tokens are the text's
  of_tokens : (text : List ℕ) (tokens others : List Token) (e : SourceFault) → HasTokens text tokens → HasTokens text others → RefusesTokens text others (first_cover_name text others) e → RefusesTokens text tokens (first_cover_name text tokens) e
  of_tokens text tokens others e has has' q = subst (λ ts. RefusesTokens text ts (first_cover_name text ts) e) (sym (one_list text tokens others has has')) q

  refuses_one : (text : List ℕ) (d e : SourceFault) → IsTold d → IsTold e → RefusesCover text d → RefusesCover text e → d ≡ e
  refuses_one text d e told said (inl p) (inl q) = lex_one one_list one_fault not_both one_tree apart one text d e told said p q
  refuses_one text d e told said (inl p) (inr (tokens, has, q)) = absurd (no_lex_fault one_list one_fault not_both one_tree apart one text tokens d told has p)
  refuses_one text d e told said (inr (tokens, has, p)) (inl q) = absurd (no_lex_fault one_list one_fault not_both one_tree apart one text tokens e said has q)
  refuses_one text d e told said (inr (tokens, has, p)) (inr (others, has', q)) =
      refusal_one text tokens (first_cover_name text tokens) d e told said p (of_tokens text tokens others e has has' q)

  no_refusal : (text : List ℕ) (tree : File) (e : SourceFault) → IsTold e → IsCoverable text tree → RefusesCover text e → ⊥
  no_refusal text tree e told (tokens, has, none, spells) (inl p) = no_lex_fault one_list one_fault not_both one_tree apart one text tokens e told has p
  no_refusal text tree e told (tokens, has, none, spells) (inr (others, has', p)) =
      no_fault one_list one_fault not_both one_tree apart one text tokens tree e told spells (subst (λ name. RefusesTokens text tokens name e) none (of_tokens text tokens others e has has' p))

  pub coverables_one : ReadsOne ReadsCoverable
  coverables_one text (Ok x) (Ok y) said told (tokens, has, none, spells) (others, has', none', spells') =
      let same : tokens ≡ others = one_list text tokens others has has' in
      ap (λ z. Ok z) (one_tree (words_of text tokens) x y (1000, 1000, spells) (1000, 1000, subst (λ ts. SpellsWithin source 1000 1000 y (words_of text ts)) (sym same) spells'))
  coverables_one text (Ok x) (Err r) said told p (e, refuses, is) = absurd (no_refusal text x e (told_by one_list one_fault not_both one_tree apart one r e told is) p refuses)
  coverables_one text (Err r) (Ok y) said told (e, refuses, is) q = absurd (no_refusal text y e (told_by one_list one_fault not_both one_tree apart one r e said is) q refuses)
  coverables_one text (Err r) (Err s) said told (d, refuses, is) (e, refuses', is') =
      ap (λ z. Err z)
      (is
      ∙ ap read_fault (refuses_one text d e (told_by one_list one_fault not_both one_tree apart one r d said is) (told_by one_list one_fault not_both one_tree apart one s e told is') refuses refuses')
      ∙ sym is')
