-- The token list of a text (Go specification: Lexical elements, "Tokens" and "Semicolons").
use Rattle.std.specs.Prelude.{◌≡◌, ℕ, ◌+◌, Bool, true, false, ◌==◌, List, [], ◌∷◌, ◌++◌, length, Option, Some, None, codes, if◌then◌else◌}
use Rattle.std.specs.List.{list_any}
use Rattle.go_ast.specs.declared.token.PieceForm.{PieceForm}
use Rattle.go_ast.specs.declared.token.PieceForm.TheVariants as form
use Rattle.go_ast.specs.declared.token.TokenKind.{TokenKind}
use Rattle.go_ast.specs.declared.token.TokenKind.TheVariants as kind
use Rattle.go_ast.specs.declared.token.Token.{Token}
use Rattle.go_ast.specs.Words.{keywords, operators, place_in}
use Rattle.go_ast.specs.Pieces.{Piece, Divides}

-- a keyword, or else a name
abbrev pub word_kind : Option ℕ → TokenKind
word_kind None = kind.Name
word_kind (Some place) = kind.Keyword place

-- the kind of the token that a piece is, if it is one
abbrev pub kind_of : PieceForm → List ℕ → Option TokenKind
kind_of form.Word bytes = Some (word_kind (place_in keywords bytes))
kind_of form.Number bytes = Some kind.Int
kind_of form.Rune bytes = Some kind.Rune
kind_of form.Quoted bytes = Some kind.Text
kind_of form.Raw bytes = Some kind.Text
kind_of (form.Operator place) bytes = Some (kind.Operator place)
kind_of _ bytes = None

abbrev pub is_place : ℕ → Option ℕ → Bool
is_place place None = false
is_place place (Some other) = place == other

-- this is the place of one of some words, among others
abbrev pub is_place_of : List (List ℕ) → ℕ → List (List ℕ) → Bool
is_place_of words place some = list_any (λ word. is_place place (place_in words word)) some

-- a line that ends behind such a token ends with a semicolon
abbrev pub ends_line : TokenKind → Bool
ends_line (kind.Keyword place) =
    is_place_of keywords place (codes "break" ∷ codes "continue" ∷ codes "fallthrough" ∷ codes "return" ∷ [])
ends_line (kind.Operator place) =
    is_place_of operators place (codes "++" ∷ codes "--" ∷ codes ")" ∷ codes "]" ∷ codes "}" ∷ [])
ends_line _ = true

abbrev pub token : TokenKind → ℕ → ℕ → Token
token kind start end = record { kind = kind; span = record { start = start; end = end } }

-- the semicolon that is inserted where a line ends, if it needs one at an offset; `;` has the place 45
abbrev pub inserted : Option ℕ → List Token
inserted None = []
inserted (Some at) = token (kind.Operator 45) at at ∷ []

abbrev pub token_of : Option TokenKind → ℕ → ℕ → List Token
token_of None start end = []
token_of (Some kind) start end = token kind start end ∷ []

-- the tokens of a piece: a token is itself, and the end of a line is the semicolon that it needs
abbrev pub tokens_by : PieceForm → List ℕ → ℕ → ℕ → Option ℕ → List Token
tokens_by form.Line bytes start end needed = inserted needed
tokens_by form bytes start end needed = token_of (kind_of form bytes) start end

abbrev pub needed_behind : Option TokenKind → ℕ → Option ℕ → Option ℕ
needed_behind None end before = before
needed_behind (Some kind) end before = if ends_line kind then Some end else None

-- where the line needs a semicolon if it ends behind a piece that ends at an offset; before, that of the pieces before
abbrev pub needed_after : PieceForm → List ℕ → ℕ → Option ℕ → Option ℕ
needed_after form.Line bytes end before = None
needed_after form bytes end before = needed_behind (kind_of form bytes) end before

-- the tokens of the pieces from an offset on
abbrev pub tokens_from : ℕ → Option ℕ → List Piece → List Token
tokens_from start needed [] = inserted needed
tokens_from start needed (piece ∷ pieces) =
    tokens_by piece.form piece.bytes start (start + length piece.bytes) needed
    ++ tokens_from (start + length piece.bytes) (needed_after piece.form piece.bytes (start + length piece.bytes) needed) pieces

-- the text has these tokens
abbrev pub HasTokens : List ℕ → List Token → Type 0
HasTokens text tokens = (pieces : List Piece) × Divides text pieces [] × (tokens ≡ tokens_from 0 None pieces)
