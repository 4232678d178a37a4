-- Numbers (Go specification: Lexical elements, "Integer literals").
use Rattle.std.specs.Prelude.{ℕ, ◌+◌, ◌*◌, Bool, true, false, ◌==◌, ◌||◌, ◌&&◌, nat_le, List, [], ◌∷◌, if◌then◌else◌}
use Rattle.std.specs.List.{list_all}
use Rattle.std.specs.Char.{digit_value}

abbrev pub is_decimal : ℕ → Bool
is_decimal byte = nat_le 48 byte && nat_le byte 57

abbrev pub is_octal : ℕ → Bool
is_octal byte = nat_le 48 byte && nat_le byte 55

abbrev pub is_binary : ℕ → Bool
is_binary byte = nat_le 48 byte && nat_le byte 49

abbrev pub is_hex : ℕ → Bool
is_hex byte = is_decimal byte || ((nat_le 65 byte && nat_le byte 70) || (nat_le 97 byte && nat_le byte 102))

-- the letter after a 0 that makes a number hexadecimal, octal, binary
abbrev pub is_x : ℕ → Bool
is_x byte = byte == 120 || byte == 88

abbrev pub is_o : ℕ → Bool
is_o byte = byte == 111 || byte == 79

abbrev pub is_b : ℕ → Bool
is_b byte = byte == 98 || byte == 66

-- digits, with single `_` between them; whether one may come first
abbrev pub are_digits : (ℕ → Bool) → Bool → List ℕ → Bool
are_digits is_digit may [] = may
are_digits is_digit may (byte ∷ bytes) =
    if byte == 95 then may && are_digits is_digit false bytes else is_digit byte && are_digits is_digit true bytes

-- digits after a prefix of two characters
abbrev pub are_some_digits : (ℕ → Bool) → List ℕ → Bool
are_some_digits is_digit [] = false
are_some_digits is_digit (byte ∷ bytes) = are_digits is_digit true (byte ∷ bytes)

-- what follows the 0 that an integer begins with
abbrev pub is_int_after_zero : List ℕ → Bool
is_int_after_zero [] = true
is_int_after_zero (byte ∷ bytes) =
    if is_x byte then are_some_digits is_hex bytes
    else if is_o byte then are_some_digits is_octal bytes
    else if is_b byte then are_some_digits is_binary bytes
    else are_digits is_octal true (byte ∷ bytes)

-- an integer literal
abbrev pub is_int : List ℕ → Bool
is_int [] = false
is_int (byte ∷ bytes) =
    if byte == 48 then is_int_after_zero bytes else is_decimal byte && are_digits is_decimal true bytes

-- ---- what a number is cut as, an integer or not

-- what runs on in a number
abbrev pub is_decimal_or_line : ℕ → Bool
is_decimal_or_line byte = is_decimal byte || byte == 95

abbrev pub is_hex_or_line : ℕ → Bool
is_hex_or_line byte = is_hex byte || byte == 95

abbrev pub is_run_after_zero : List ℕ → Bool
is_run_after_zero [] = true
is_run_after_zero (byte ∷ bytes) =
    if is_x byte then list_all is_hex_or_line bytes
    else (is_o byte || is_b byte || is_decimal_or_line byte) && list_all is_decimal_or_line bytes

-- a digit, with a prefix or without, and digits and `_` behind it
abbrev pub is_run : List ℕ → Bool
is_run [] = false
is_run (byte ∷ bytes) =
    if byte == 48 then is_run_after_zero bytes else is_decimal byte && list_all is_decimal_or_line bytes

-- behind such a run: a point, an exponent's letter or an `i`, for which Go reads a floating-point or imaginary number
abbrev pub is_number_end : ℕ → Bool
is_number_end byte = byte == 46 || (byte == 101 || byte == 69) || (byte == 112 || byte == 80) || byte == 105

-- the value of digits in a base
abbrev pub value_from : ℕ → ℕ → List ℕ → ℕ
value_from base value [] = value
value_from base value (byte ∷ bytes) = value_from base (value * base + digit_value byte) bytes
