-- Where pieces may be put in among the tokens of a source.
--
--     import                directly behind a name
--     left brace            directly behind `else`
--     right brace           directly behind a `}`
--     counter               directly behind `{`, behind `:`, behind a left brace that is put in behind `else`, or where a
--                           token starts that follows a `;`
use Rattle.std.specs.Prelude.{◌≡◌, ◌⊎◌, ℕ, ◌<◌, ◌^◌, ◌==◌, false, List, [], ◌∷◌, ◌++◌, All, Option, Some, None, if◌then◌else◌}
use Rattle.std.specs.List.{list_any}
use Rattle.go_ast.specs.declared.token.Token.{Token}
use Rattle.go_ast.specs.declared.token.TokenKind.{TokenKind}
use Rattle.go_ast.specs.declared.token.TokenKind.TheVariants as kind
use Rattle.go_ast.specs.Characters.{AreCharacters}
use Rattle.go_ast.specs.Places.{is_newline}
use Rattle.go_ast.specs.Pieces.{IsWord}
use Rattle.go_ast.specs.Words.{keywords, place_in}
use Rattle.go_grammar.specs.Terminals as t
use Rattle.cov_rewrite.specs.declared.piece.Addition.{Addition}
use Rattle.cov_rewrite.specs.declared.piece.Addition.TheVariants as addition
use Rattle.cov_rewrite.specs.declared.piece.Piece.{Piece}

-- a token of this kind ends at the offset
pub record IsBehind (tokens : List Token) (kind : TokenKind) (at : ℕ) : Type 0 where
  pub before : List Token
  pub token : Token
  pub behind : List Token
  pub is : tokens ≡ before ++ token ∷ behind
  pub kind_is : token.kind ≡ kind
  pub end : token.span.end ≡ at

-- a token starts at the offset, and is the next behind a semicolon
pub record IsLater (tokens : List Token) (at : ℕ) : Type 0 where
  pub before : List Token
  pub semicolon : Token
  pub token : Token
  pub behind : List Token
  pub is : tokens ≡ before ++ semicolon ∷ token ∷ behind
  pub semicolon_is : semicolon.kind ≡ t.semicolon
  pub start : token.span.start ≡ at

-- the first piece at an offset
abbrev pub leads : List Piece → ℕ → Option Addition
leads [] at = None
leads (p ∷ ps) at = if p.at == at then Some p.addition else leads ps at

-- the place of an addition, where `first` is the first one there
abbrev pub IsPlace : List Token → Option Addition → Addition → ℕ → Type 0
IsPlace tokens first addition.Import at = IsBehind tokens kind.Name at
IsPlace tokens first addition.LeftBrace at = IsBehind tokens t.else_word at
IsPlace tokens first addition.RightBrace at = IsBehind tokens t.right_brace at
IsPlace tokens first (addition.Counter i) at =
    IsBehind tokens t.left_brace at ⊎ IsBehind tokens t.colon at ⊎ IsLater tokens at ⊎ (IsBehind tokens t.else_word at × (first ≡ Some addition.LeftBrace))

abbrev pub AreInPlaces : List Token → List Piece → Type 0
AreInPlaces tokens pieces = All (λ p. IsPlace tokens (leads pieces p.at) p.addition p.at) pieces

-- the numbers of units that are written fit in 64 bits
abbrev pub IsSmall : Addition → Type 0
IsSmall (addition.Counter i) = i < 2 ^ 64
IsSmall _ = Unit {0}

abbrev pub AreSmall : List Piece → Type 0
AreSmall pieces = All (λ p. IsSmall p.addition) pieces

-- a word that is no keyword (Go specification: Lexical elements, "Identifiers")
abbrev pub IsIdentifier : List ℕ → Type 0
IsIdentifier word = IsWord word × (place_in keywords word ≡ None)

-- what may stand in a line comment
abbrev pub IsOneLine : List ℕ → Type 0
IsOneLine text = AreCharacters text × (list_any is_newline text ≡ false)
