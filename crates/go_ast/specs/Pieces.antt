-- What a text divides into (Go specification: Lexical elements, "Comments" and "Tokens").
use Rattle.std.specs.Prelude.{◌≡◌, ◌≢◌, ◌⊎◌, ℕ, ◌≤◌, true, false, ◌==◌, List, [], ◌∷◌, ◌++◌, length, Some, slice_get, codes}
use Rattle.std.specs.List.{AllByRecursion, list_any}
use Rattle.std.specs.Str.{encode_utf8_all}
use Rattle.std.specs.Char.{IsScalar}
use Rattle.go_ast.specs.declared.token.PieceForm.{PieceForm}
use Rattle.go_ast.specs.declared.token.PieceForm.TheVariants as form
use Rattle.go_ast.specs.Places.{is_newline}
use Rattle.go_ast.specs.Characters.{is_letter, is_letter_or_digit, AreCharacters}
use Rattle.go_ast.specs.Numbers.{is_run, is_number_end, is_decimal, is_int}
use Rattle.go_ast.specs.Literals.{inner, is_inside, IsRuneBody, IsQuotedBody}
use Rattle.go_ast.specs.Words.{operators}

-- `//` and what follows it on its line
abbrev pub IsLineComment : List ℕ → Type 0
IsLineComment bytes = (more : List ℕ) × (bytes ≡ codes "//" ++ more) × (list_any is_newline more ≡ false)

-- `/*` and what follows it up to the first `*/`
abbrev pub IsBlockComment : List ℕ → Type 0
IsBlockComment bytes =
    (more : List ℕ) × (bytes ≡ codes "/*" ++ more ++ codes "*/") × ((before after : List ℕ) → more ++ codes "*" ≢ before ++ (codes "*/" ++ after))

-- a letter, and letters and digits
abbrev pub IsWord : List ℕ → Type 0
IsWord bytes =
    (c : ℕ) × (cs : List ℕ) × IsScalar c × (is_letter c ≡ true) × AllByRecursion (λ d. IsScalar d × (is_letter_or_digit d ≡ true)) cs × (bytes ≡ encode_utf8_all (c ∷ cs))

-- what is cut as a number: a run of digits, also with what makes it floating-point or imaginary; a point and a digit
abbrev pub IsNumber : List ℕ → Type 0
IsNumber bytes =
    (is_run bytes ≡ true)
    ⊎ ((run : List ℕ) × (byte : ℕ) × (is_run run ≡ true) × (is_number_end byte ≡ true) × (bytes ≡ run ++ byte ∷ []))
    ⊎ ((byte : ℕ) × (is_decimal byte ≡ true) × (bytes ≡ 46 ∷ byte ∷ []))

-- what stands between two quotes
abbrev pub IsBetween : ℕ → List ℕ → Type 0
IsBetween quote bytes = (is_inside quote false (inner bytes) ≡ true) × (bytes ≡ quote ∷ (inner bytes ++ quote ∷ []))

-- the bytes have this form
abbrev pub HasForm : PieceForm → List ℕ → Type 0
HasForm form.Blank bytes = ((byte : ℕ) × (list_any (λ b. byte == b) (32 ∷ 9 ∷ 13 ∷ []) ≡ true) × (bytes ≡ byte ∷ [])) ⊎ IsLineComment bytes ⊎ (IsBlockComment bytes × (list_any is_newline bytes ≡ false))
HasForm form.Line bytes = (bytes ≡ 10 ∷ []) ⊎ (IsBlockComment bytes × (list_any is_newline bytes ≡ true))
HasForm form.Opening bytes = bytes ≡ codes "/*"
HasForm form.Word bytes = IsWord bytes
HasForm form.Number bytes = IsNumber bytes
HasForm form.Rune bytes = IsBetween 39 bytes
HasForm form.Quoted bytes = IsBetween 34 bytes
HasForm form.Raw bytes = (more : List ℕ) × (list_any (λ b. b == 96) more ≡ false) × (bytes ≡ 96 ∷ (more ++ 96 ∷ []))
HasForm (form.Operator place) bytes = slice_get operators place ≡ Some bytes

-- bytes of a form, where no longer bytes of any form stand
pub record IsLongest (form : PieceForm) (bytes rest : List ℕ) : Type 0 where
  pub has_form : HasForm form bytes
  pub longest : (other : PieceForm) (others after : List ℕ) → HasForm other others → bytes ++ rest ≡ others ++ after → length others ≤ length bytes

-- no bytes of any form stand there
pub record IsStuck (rest : List ℕ) : Type 0 where
  pub some : rest ≢ []
  pub none : (form : PieceForm) (bytes after : List ℕ) → HasForm form bytes → rest ≢ bytes ++ after

-- what has a form is also meant: no comment that is left open, an integer, one character, escapes that are known
abbrev pub IsMeant : PieceForm → List ℕ → Type 0
IsMeant form.Opening bytes = ⊥
IsMeant form.Number bytes = is_int bytes ≡ true
IsMeant form.Rune bytes = IsRuneBody (inner bytes)
IsMeant form.Quoted bytes = IsQuotedBody (inner bytes)
IsMeant _ bytes = Unit {0}

pub record Piece : Type 0 where
  pub form : PieceForm
  pub bytes : List ℕ

-- the text is these pieces, each the longest possible, and then the rest
abbrev pub Divides : List ℕ → List Piece → List ℕ → Type 0
Divides text [] rest = text ≡ rest
Divides text (piece ∷ pieces) rest =
    (more : List ℕ) × (text ≡ piece.bytes ++ more) × IsLongest piece.form piece.bytes more × AreCharacters piece.bytes × IsMeant piece.form piece.bytes × Divides more pieces rest
