-- The spelling of a kind.
use Rattle.std.specs.Prelude.{◌≡◌, ℕ, List, Some}
use Rattle.go_ast.specs.declared.token.TokenKind.{TokenKind}
use Rattle.go_ast.specs.declared.token.TokenKind.TheVariants as kind
use Rattle.go_ast.specs.Words.{keywords, operators, place_in}

-- the kind is the keyword that is spelled so
abbrev pub IsKeyword : List ℕ → TokenKind → Type 0
IsKeyword word of = (place : ℕ) × (place_in keywords word ≡ Some place) × (of ≡ kind.Keyword place)

-- the kind is the operator that is spelled so
abbrev pub IsOperator : List ℕ → TokenKind → Type 0
IsOperator word of = (place : ℕ) × (place_in operators word ≡ Some place) × (of ≡ kind.Operator place)
