-- Names and types: which tokens spell which tree.
use Rattle.std.specs.Prelude.{◌≡◌, ℕ, ◌+◌, List, [], ◌∷◌, Option, Some, None}
use Rattle.go_ast.specs.declared.name.Name.{Name}
use Rattle.go_ast.specs.declared.token.TokenKind.TheVariants as kind
use Rattle.go_ast.specs.declared.expr.TypeExpr.{TypeExpr}
use Rattle.go_grammar.specs.Words.{Word}
use Rattle.go_grammar.specs.Terminals as t
use Rattle.go_grammar.specs.Lists.{IsRow}
use Rattle.go_grammar.specs.Trees.{name_of, plain_type, member_type, chan_type}

-- a name; it isn't counted in a height
pub data IsName : ℕ → Name → List Word → Type 0 where
  name : (n : Word) → n.kind ≡ kind.Name → IsName 0 (name_of n) (n ∷ [])

-- Names = Name { "," Name }
abbrev pub IsNames : List Name → List Word → Type 0
IsNames names w = IsRow t.comma IsName 0 names w

-- [ Name ]
pub data IsMaybeName : Option Name → List Word → Type 0 where
  no_name : IsMaybeName None []
  some_name : (n : Word) → n.kind ≡ kind.Name → IsMaybeName (Some (name_of n)) (n ∷ [])

-- Type = Name | Name "." Name | "chan" Type
pub data IsType : ℕ → TypeExpr → List Word → Type 0 where
  plain : (n : Word) → n.kind ≡ kind.Name → IsType 1 (plain_type n) (n ∷ [])
  member : (p d n : Word) → p.kind ≡ kind.Name → d.kind ≡ t.point → n.kind ≡ kind.Name → IsType 1 (member_type p n) (p ∷ d ∷ n ∷ [])
  channel : (c : Word) (h : ℕ) (of : TypeExpr) (w : List Word) → c.kind ≡ t.chan_word → IsType h of w → IsType (h + 1) (chan_type c of) (c ∷ w)

-- [ Type ]
pub data IsMaybeType : ℕ → Option TypeExpr → List Word → Type 0 where
  no_type : IsMaybeType 0 None []
  some_type : (h : ℕ) (of : TypeExpr) (w : List Word) → IsType h of w → IsMaybeType h (Some of) w
