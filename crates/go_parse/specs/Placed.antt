-- Tokens that stand in their text, with literals that have a value.
use Rattle.std.specs.Prelude.{◌≡◌, ◌⊎◌, ℕ, ◌≤◌, true, List, ◌∷◌, length, slice_range}
use Rattle.std.specs.List.{AllByRecursion}
use Rattle.go_ast.specs.declared.token.Token.{Token}
use Rattle.go_ast.specs.declared.token.TokenKind.{TokenKind}
use Rattle.go_ast.specs.declared.token.TokenKind.TheVariants as kind
use Rattle.go_ast.specs.Literals.{inner, is_escape, IsRuneBody, IsQuotedBody}

-- an escape between some quotes, by the byte behind its backslash and its digits
abbrev pub IsEscape : ℕ → List ℕ → Type 0
IsEscape byte digits = (quote : ℕ) × (is_escape quote (92 ∷ byte ∷ digits) ≡ true)

-- a text in backquotes, or one between double quotes
abbrev pub IsTextLiteral : List ℕ → Type 0
IsTextLiteral bytes = ((more : List ℕ) × (bytes ≡ 96 ∷ more)) ⊎ ((more : List ℕ) × (bytes ≡ 34 ∷ more) × IsQuotedBody (inner bytes))

-- the literal of a rune or a text has a value
abbrev pub IsLiteral : TokenKind → List ℕ → Type 0
IsLiteral kind.Rune bytes = IsRuneBody (inner bytes)
IsLiteral kind.Text bytes = IsTextLiteral bytes
IsLiteral _ bytes = Unit {0}

-- the token stands in the text
pub record IsPlaced (text : List ℕ) (token : Token) : Type 0 where
  pub ordered : token.span.start ≤ token.span.end
  pub within : token.span.end ≤ length text
  pub literal : IsLiteral token.kind (slice_range text token.span.start token.span.end)

abbrev pub ArePlaced : List ℕ → List Token → Type 0
ArePlaced text tokens = AllByRecursion (IsPlaced text) tokens
