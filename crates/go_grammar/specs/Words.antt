-- Tokens with their bytes, as the grammar sees them.
use Rattle.std.specs.Prelude.{ℕ, List, map, slice_range}
use Rattle.go_ast.specs.declared.span.Span.{Span}
use Rattle.go_ast.specs.declared.token.Token.{Token}
use Rattle.go_ast.specs.declared.token.TokenKind.{TokenKind}

-- a token, the bytes that it is made of, and where it stands
pub record Word : Type 0 where
  pub kind : TokenKind
  pub bytes : List ℕ
  pub span : Span

abbrev pub word_of : List ℕ → Token → Word
word_of text token = record { kind = token.kind; bytes = slice_range text token.span.start token.span.end; span = token.span }

-- the tokens of a text with their bytes
abbrev pub words_of : List ℕ → List Token → List Word
words_of text tokens = map (word_of text) tokens
