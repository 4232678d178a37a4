-- Tokens by what they are and their bytes, without their places (Go specification: Lexical elements, "Tokens").
use Rattle.std.specs.Prelude.{◌≡◌, ℕ, List, [], map, slice_range}
use Rattle.go_ast.specs.declared.token.Token.{Token}
use Rattle.go_ast.specs.declared.token.TokenKind.{TokenKind}
use Rattle.go_ast.specs.declared.token.TokenKind.TheVariants as kind
use Rattle.go_ast.specs.Tokens.{HasTokens}

-- a token, and the bytes that it is made of
pub record Spelling : Type 0 where
  pub kind : TokenKind
  pub bytes : List ℕ

abbrev pub spelled : TokenKind → List ℕ → Spelling
spelled kind bytes = record { kind = kind; bytes = bytes }

abbrev pub spelling_of : List ℕ → Token → Spelling
spelling_of text token = spelled token.kind (slice_range text token.span.start token.span.end)

abbrev pub spellings_of : List ℕ → List Token → List Spelling
spellings_of text tokens = map (spelling_of text) tokens

-- the text has tokens, and they are spelled so
abbrev pub HasSpellings : List ℕ → List Spelling → Type 0
HasSpellings text spellings = (tokens : List Token) × HasTokens text tokens × (spellings_of text tokens ≡ spellings)

-- ---- what is known by its bytes

abbrev pub name : List ℕ → Spelling
name bytes = spelled kind.Name bytes

abbrev pub number : List ℕ → Spelling
number bytes = spelled kind.Int bytes

-- the semicolon that is inserted where a line ends has no bytes
abbrev pub line_end : Spelling
line_end = spelled (kind.Operator 45) []
