-- Rune and text literals (Go specification: Lexical elements, "Rune literals" and "String literals").
use Rattle.std.specs.Prelude.{◌≡◌, ◌≢◌, ◌⊎◌, ℕ, ◌+◌, ◌-◌, Bool, true, false, ◌==◌, ◌||◌, ◌&&◌, not, nat_le, List, [], ◌∷◌, ◌++◌, length, take, drop, if◌then◌else◌, encode_utf8}
use Rattle.std.specs.List.{list_all, list_any}
use Rattle.std.specs.Char.{IsScalar}
use Rattle.go_ast.specs.Numbers.{is_octal, is_hex, value_from}
use lib.Utf8.{scalar}

-- the bytes between the first and the last
abbrev pub inner : List ℕ → List ℕ
inner bytes = take (length bytes - 2) (drop 1 bytes)

-- no newline and no unescaped quote stands in the bytes, and the last isn't a backslash that escapes; whether the byte
-- before them escapes the first
abbrev pub is_inside : ℕ → Bool → List ℕ → Bool
is_inside quote escaped [] = not escaped
is_inside quote escaped (byte ∷ bytes) =
    not (byte == 10) && (if escaped then is_inside quote false bytes else not (byte == quote) && is_inside quote (byte == 92) bytes)

-- a byte that escapes by itself behind a backslash: `a b f n r t v \` and the quote
abbrev pub is_simple : ℕ → ℕ → Bool
is_simple quote byte = list_any (λ b. byte == b) (97 ∷ 98 ∷ 102 ∷ 110 ∷ 114 ∷ 116 ∷ 118 ∷ 92 ∷ quote ∷ [])

-- how long an escape is, by the byte behind its backslash: `x` takes two digits, `u` four, `U` eight, an octal one three
abbrev pub escape_len : ℕ → ℕ
escape_len byte =
    if byte == 120 then 4 else if byte == 117 then 6 else if byte == 85 then 10 else if is_octal byte then 4 else 2

-- what stands behind the backslash has a meaning: an octal number up to 255, a number that a character has, a simple one
abbrev pub is_meant : ℕ → ℕ → List ℕ → Bool
is_meant quote byte digits =
    if byte == 120 then list_all is_hex digits
    else if byte == 117 || byte == 85 then list_all is_hex digits && scalar (value_from 16 0 digits)
    else if is_octal byte then list_all is_octal digits && nat_le (value_from 8 0 (byte ∷ digits)) 255
    else is_simple quote byte

-- an escape that may stand between two quotes
abbrev pub is_escape : ℕ → List ℕ → Bool
is_escape quote [] = false
is_escape quote (slash ∷ []) = false
is_escape quote (slash ∷ byte ∷ digits) = slash == 92 && (2 + length digits == escape_len byte && is_meant quote byte digits)

-- no escape begins there, though a backslash does
pub record IsBadEscape (quote : ℕ) (bytes : List ℕ) : Type 0 where
  pub slash : (more : List ℕ) × (bytes ≡ 92 ∷ more)
  pub none : (escape more : List ℕ) → is_escape quote escape ≡ true → bytes ≢ escape ++ more

-- a byte that is no backslash, or an escape
abbrev pub IsItem : ℕ → List ℕ → Type 0
IsItem quote item = ((byte : ℕ) × (item ≡ byte ∷ []) × (byte ≢ 92)) ⊎ (is_escape quote item ≡ true)

-- the bytes are these items, one after another, and then the rest
abbrev pub AreItems : ℕ → List (List ℕ) → List ℕ → List ℕ → Type 0
AreItems quote [] bytes rest = bytes ≡ rest
AreItems quote (item ∷ items) bytes rest = (more : List ℕ) × (bytes ≡ item ++ more) × IsItem quote item × AreItems quote items more rest

-- what may stand between double quotes
abbrev pub IsQuotedBody : List ℕ → Type 0
IsQuotedBody body = (items : List (List ℕ)) × AreItems 34 items body []

-- a bad escape between double quotes, at an offset from the first of them
abbrev pub HasBadEscape : List ℕ → ℕ → Type 0
HasBadEscape body at = (items : List (List ℕ)) × (rest : List ℕ) × AreItems 34 items body rest × IsBadEscape 34 rest × (at + length rest ≡ 1 + length body)

-- what may stand between single quotes: one character that is no backslash, or one escape
abbrev pub IsRuneBody : List ℕ → Type 0
IsRuneBody body = ((c : ℕ) × IsScalar c × (c ≢ 92) × (body ≡ encode_utf8 c)) ⊎ (is_escape 39 body ≡ true)

-- nothing, or a good escape or a byte that is no backslash with more behind it than is one character
abbrev pub IsNoneOrMany : List ℕ → Type 0
IsNoneOrMany body =
    (body ≡ [])
    ⊎ ((escape more : List ℕ) × (is_escape 39 escape ≡ true) × (more ≢ []) × (body ≡ escape ++ more))
    ⊎ ((byte : ℕ) × (more : List ℕ) × (byte ≢ 92) × (more ≢ []) × (body ≡ byte ∷ more) × ((c : ℕ) → IsScalar c → body ≢ encode_utf8 c))
