-- Scanning at the front of bytes, from left to right.
use Rattle.std.specs.Prelude.{ℕ, ◌+◌, ◌-◌, ◌≤◌, Bool, false, ◌&&◌, ◌||◌, if◌then◌else◌, nat_le, nat_lt, nat_eq, ◌==◌, List, [], ◌∷◌, length, take, Option, Some, None, take_while, slice_index}
use Rattle.std.specs.List.{starts_with}
use Rattle.go_ast.specs.Numbers.{is_x, is_o, is_b, is_decimal, is_decimal_or_line, is_hex_or_line, is_number_end}
use Rattle.go_ast.specs.Literals.{escape_len, is_meant, IsItem}

-- ---- numbers

unfoldable pub run_after_zero : List ℕ → ℕ
run_after_zero [] = 0
run_after_zero (byte ∷ bytes) =
    if is_x byte then 1 + length (take_while is_hex_or_line bytes)
    else if is_o byte || is_b byte || is_decimal_or_line byte then 1 + length (take_while is_decimal_or_line bytes)
    else 0

-- how long the run of digits at the front is
unfoldable pub run_len : List ℕ → ℕ
run_len [] = 0
run_len (byte ∷ bytes) =
    if byte == 48 then 1 + run_after_zero bytes
    else if is_decimal byte then 1 + length (take_while is_decimal_or_line bytes)
    else 0

-- a run, and the byte behind it where that ends a number
abbrev pub ended_len : ℕ → List ℕ → ℕ
ended_len len bytes = if nat_lt 0 len && (nat_lt len (length bytes) && is_number_end (slice_index bytes len)) then len + 1 else len

abbrev pub point_len : List ℕ → ℕ
point_len [] = 0
point_len (byte ∷ bytes) = if is_decimal byte then 2 else 0

-- how long the number at the front is
unfoldable pub number_len : List ℕ → ℕ
number_len [] = 0
number_len (byte ∷ bytes) = if byte == 46 then point_len bytes else ended_len (run_len (byte ∷ bytes)) (byte ∷ bytes)

-- ---- comments and literals

-- how many bytes there are up to the first `*/`, itself included, and some before them
unfoldable pub comment_close : ℕ → List ℕ → Option ℕ
comment_close len [] = None
comment_close len (byte ∷ bytes) =
    if byte == 42 && starts_with nat_eq bytes (47 ∷ []) then Some (len + 2) else comment_close (len + 1) bytes

-- the same up to the quote that closes a literal; whether the byte before escapes the first
unfoldable pub quote_close : ℕ → Bool → ℕ → List ℕ → Option ℕ
quote_close quote escaped len [] = None
quote_close quote escaped len (byte ∷ bytes) =
    if byte == 10 then None
    else if escaped then quote_close quote false (len + 1) bytes
    else if byte == quote then Some (len + 1)
    else quote_close quote (byte == 92) (len + 1) bytes

-- the same up to the next backquote
unfoldable pub raw_close : ℕ → List ℕ → Option ℕ
raw_close len [] = None
raw_close len (byte ∷ bytes) = if byte == 96 then Some (len + 1) else raw_close (len + 1) bytes

-- ---- tables

-- the first entry of a table that the bytes begin with: its place, and its length
unfoldable pub first_of : List (ℕ × List ℕ) → List ℕ → Option (ℕ × ℕ)
first_of [] bytes = None
first_of (entry ∷ entries) bytes = if starts_with nat_eq bytes entry.1 then Some (entry.0, length entry.1) else first_of entries bytes

-- ---- escapes

-- how long the escape at the front is
abbrev pub escape_front : ℕ → List ℕ → Option ℕ
escape_front quote [] = None
escape_front quote (slash ∷ []) = None
escape_front quote (slash ∷ byte ∷ digits) =
    if slash == 92 && (nat_le (escape_len byte) (2 + length digits) && is_meant quote byte (take (escape_len byte - 2) digits)) then Some (escape_len byte) else None

-- an item of a literal is this long, at the front
pub record IsItemAt (quote : ℕ) (bytes : List ℕ) (len : ℕ) : Type 0 where
  pub item : IsItem quote (take len bytes)
  pub some : 1 ≤ len
  pub within : len ≤ length bytes
