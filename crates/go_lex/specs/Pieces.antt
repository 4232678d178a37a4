-- The piece at the front of a text.
use Rattle.std.specs.Prelude.{◌≡◌, ℕ, ◌+◌, false, ◌==◌, ◌||◌, not, if◌then◌else◌, nat_lt, List, [], ◌∷◌, length, take, take_while, Option, Some, None}
use Rattle.std.specs.List.{list_any}
use Rattle.go_ast.specs.declared.token.PieceForm.{PieceForm}
use Rattle.go_ast.specs.declared.token.PieceForm.TheVariants as form
use Rattle.go_ast.specs.Places.{is_newline}
use Rattle.go_lex.specs.Scan.{number_len, comment_close, quote_close, raw_close, first_of}
use Rattle.go_lex.specs.Operators.{by_front}
use Rattle.go_lex.specs.Fronts.{IsWordLen}

abbrev pub operator_by : Option (ℕ × ℕ) → Option (PieceForm × ℕ)
operator_by None = None
operator_by (Some found) = Some (form.Operator found.0, found.1)

unfoldable pub operator_front : List ℕ → Option (PieceForm × ℕ)
operator_front text = operator_by (first_of by_front text)

-- what is quoted, with the quote that opens it
abbrev pub quoted_by : PieceForm → Option ℕ → Option (PieceForm × ℕ)
quoted_by form None = None
quoted_by form (Some len) = Some (form, 1 + len)

-- a comment that ends after some bytes behind `/*`, or nothing but that
abbrev pub block_by : List ℕ → Option ℕ → PieceForm × ℕ
block_by body None = (form.Opening, 2)
block_by body (Some len) = (if list_any is_newline (take len body) then form.Line else form.Blank, 2 + len)

unfoldable pub block_front : List ℕ → PieceForm × ℕ
block_front body = block_by body (comment_close 0 body)

-- what begins with a slash, by what follows that
unfoldable pub slash_front : List ℕ → Option (PieceForm × ℕ)
slash_front [] = operator_front (47 ∷ [])
slash_front (byte ∷ bytes) =
    if byte == 47 then Some (form.Blank, 1 + length (take_while (λ b. not (is_newline b)) (byte ∷ bytes)))
    else if byte == 42 then Some (block_front bytes)
    else operator_front (47 ∷ byte ∷ bytes)

-- where neither a word nor a number begins
unfoldable pub other_front : List ℕ → Option (PieceForm × ℕ)
other_front [] = None
other_front (byte ∷ bytes) =
    if byte == 32 || byte == 9 || byte == 13 then Some (form.Blank, 1)
    else if byte == 10 then Some (form.Line, 1)
    else if byte == 39 then quoted_by form.Rune (quote_close 39 false 0 bytes)
    else if byte == 34 then quoted_by form.Quoted (quote_close 34 false 0 bytes)
    else if byte == 96 then quoted_by form.Raw (raw_close 0 bytes)
    else if byte == 47 then slash_front bytes
    else operator_front (byte ∷ bytes)

-- the piece at the front and its length, where the longest word there is this long
abbrev pub piece_by : ℕ → List ℕ → Option (PieceForm × ℕ)
piece_by word text =
    if nat_lt 0 word then Some (form.Word, word)
    else if nat_lt 0 (number_len text) then Some (form.Number, number_len text)
    else other_front text

pub record IsPieceAt (text : List ℕ) (piece : Option (PieceForm × ℕ)) : Type 0 where
  pub word : ℕ
  pub word_is : IsWordLen text word
  pub is : piece ≡ piece_by word text
