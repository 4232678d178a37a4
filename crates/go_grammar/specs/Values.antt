-- The values of rune and text literals (Go specification: Lexical elements, "Rune literals" and "String literals").
use Rattle.std.specs.Prelude.{ℕ, zero, suc, ◌-◌, ◌==◌, ◌||◌, not, List, [], ◌∷◌, ◌++◌, take, filter, if◌then◌else◌, encode_utf8}
use Rattle.std.specs.Str.{chars}
use Rattle.go_ast.specs.Numbers.{is_octal, value_from}
use Rattle.go_ast.specs.Literals.{inner, escape_len}

-- the first number of a list, or 0
abbrev pub first_of : List ℕ → ℕ
first_of [] = 0
first_of (n ∷ ns) = n

-- a list without its first number
abbrev pub rest_of : List ℕ → List ℕ
rest_of [] = []
rest_of (n ∷ ns) = ns

-- what a byte stands for behind a backslash that takes no digits
abbrev pub simple_value : ℕ → ℕ
simple_value byte =
    if byte == 97 then 7
    else if byte == 98 then 8
    else if byte == 102 then 12
    else if byte == 110 then 10
    else if byte == 114 then 13
    else if byte == 116 then 9
    else if byte == 118 then 11
    else byte

-- the number that an escape stands for, by the byte behind its backslash and the digits behind that
abbrev pub escape_value : ℕ → List ℕ → ℕ
escape_value byte digits =
    if byte == 120 || byte == 117 || byte == 85 then value_from 16 0 digits
    else if is_octal byte then value_from 8 0 (byte ∷ digits)
    else simple_value byte

-- in a text `\u` and `\U` stand for the bytes of a character, and any other escape for one byte
abbrev pub escape_bytes : ℕ → List ℕ → List ℕ
escape_bytes byte digits = if byte == 117 || byte == 85 then encode_utf8 (escape_value byte digits) else escape_value byte digits ∷ []

-- the digits of the escape that has this byte behind its backslash, and more behind that
abbrev pub digits_of : ℕ → List ℕ → List ℕ
digits_of byte more = take (escape_len byte - 2) more

-- what bytes between double quotes stand for, each escape for its value; some bytes of an escape are still to be passed
abbrev pub unescape_from : ℕ → List ℕ → List ℕ
unescape_from skip [] = []
unescape_from (suc skip) (byte ∷ bytes) = unescape_from skip bytes
unescape_from zero (byte ∷ bytes) =
    if byte == 92
    then escape_bytes (first_of bytes) (digits_of (first_of bytes) (rest_of bytes)) ++ unescape_from (escape_len (first_of bytes) - 1) bytes
    else byte ∷ unescape_from zero bytes

-- the value of a text literal: in backquotes its bytes without carriage returns
abbrev pub text_value : List ℕ → List ℕ
text_value bytes = if first_of bytes == 96 then filter (λ b. not (b == 13)) (inner bytes) else unescape_from 0 (inner bytes)

abbrev pub rune_of : List ℕ → ℕ
rune_of [] = 0
rune_of (byte ∷ bytes) =
    if byte == 92 then escape_value (first_of bytes) (rest_of bytes) else first_of (chars (byte ∷ bytes))

-- the value of a rune literal: its character or its escape
abbrev pub rune_value : List ℕ → ℕ
rune_value bytes = rune_of (inner bytes)
