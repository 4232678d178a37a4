-- Values: how they compare, and how they are written. Go specification, "Comparison operators" and "Conversions to and from
-- a string type".
use Rattle.std.specs.Prelude.{ℕ, ◌+◌, ◌*◌, ◌%◌, Bool, true, false, not, ◌==◌, ◌&&◌, ℤ, pos, negsuc, int_lt, List, [], ◌∷◌, ◌++◌, map, take, Option, Some, None, option_map, codes, bytes_eq, encode_utf8, if◌then◌else◌}
use Rattle.std.specs.List.{join_with_byte}
use Rattle.std.specs.Fmt.{signed_decimal}
use Rattle.std.specs.Ordering.{int_eq, is_lt, nat_cmp}
use Rattle.std.specs.Cmp.Lexicographic.{slice_cmp}
use lib.Utf8.{scalar}
use Rattle.go_value.specs.Integers.{value_of}
use Rattle.go_meaning.specs.declared.value.Value.{Value}
use Rattle.go_meaning.specs.declared.value.Value.TheVariants as value
use Rattle.go_meaning.specs.declared.expr.Relation.{Relation}
use Rattle.go_meaning.specs.declared.expr.Relation.TheVariants as relation

-- ---- comparisons; values of two kinds have none

abbrev pub same_flag : Bool → Bool → Bool
same_flag true b = b
same_flag false b = not b

abbrev pub same_channel : Option ℕ → Option ℕ → Bool
same_channel None None = true
same_channel (Some a) (Some b) = a == b
same_channel o p = false

abbrev pub equal : Value → Value → Option Bool
equal (value.Flag a) (value.Flag b) = Some (same_flag a b)
equal (value.Number a) (value.Number b) = Some (int_eq (value_of a) (value_of b))
equal (value.Text s) (value.Text t) = Some (bytes_eq s t)
equal (value.Channel o) (value.Channel p) = Some (same_channel o p)
equal v w = None

-- integers by their numbers, texts byte by byte
abbrev pub less : Value → Value → Option Bool
less (value.Number a) (value.Number b) = Some (int_lt (value_of a) (value_of b))
less (value.Text s) (value.Text t) = Some (is_lt (slice_cmp nat_cmp s t))
less v w = None

abbrev pub compare : Relation → Value → Value → Option Bool
compare relation.Equal v w = equal v w
compare relation.NotEqual v w = option_map not (equal v w)
compare relation.Less v w = less v w
compare relation.LessEqual v w = option_map not (less w v)
compare relation.Greater v w = less w v
compare relation.GreaterEqual v w = option_map not (less v w)

-- whether a case expression's value equals the tag
abbrev pub is_equal : Value → Value → Bool
is_equal v w = elim (equal v w) as (λ _. Bool) [ None ↦ false | Some b ↦ b ]

-- ---- printing: integers in decimal, texts as they are

abbrev pub shown : Value → List ℕ
shown (value.Flag true) = codes "true"
shown (value.Flag false) = codes "false"
shown (value.Number i) = signed_decimal (value_of i)
shown (value.Text s) = s
shown (value.Channel o) = []

-- the line of some values, with a space between each two
abbrev pub line_of : List Value → List ℕ
line_of vs = join_with_byte 32 (map shown vs) ++ codes "\n"

-- ---- texts and code points

-- what stands for bytes or numbers that are no character
abbrev pub replacement : ℕ
replacement = 0xFFFD

-- the UTF-8 of a code point, or of U+FFFD where there is none
abbrev pub spelled : ℤ → List ℕ
spelled (pos n) = encode_utf8 (if scalar n then n else replacement)
spelled (negsuc n) = encode_utf8 replacement

-- the code of a text's first character, if that has one, two, three, four bytes
abbrev pub code_of_one : List ℕ → ℕ
code_of_one (a ∷ s) = a
code_of_one s = replacement

abbrev pub code_of_two : List ℕ → ℕ
code_of_two (a ∷ b ∷ s) = a % 32 * 64 + b % 64
code_of_two s = replacement

abbrev pub code_of_three : List ℕ → ℕ
code_of_three (a ∷ b ∷ c ∷ s) = (a % 16 * 64 + b % 64) * 64 + c % 64
code_of_three s = replacement

abbrev pub code_of_four : List ℕ → ℕ
code_of_four (a ∷ b ∷ c ∷ d ∷ s) = ((a % 8 * 64 + b % 64) * 64 + c % 64) * 64 + d % 64
code_of_four s = replacement

-- a text begins with the UTF-8 of a code point, which has so many bytes
abbrev pub begins : ℕ → ℕ → List ℕ → Bool
begins code n s = scalar code && bytes_eq (encode_utf8 code) (take n s)

pub record Rune : Type 0 where
  pub code : ℕ
  pub width : ℕ

abbrev pub rune : ℕ → ℕ → Rune
rune code n = record { code = code; width = n }

-- the character that a text begins with, or U+FFFD of width 1
unfoldable pub first_rune : List ℕ → Rune
first_rune s =
    if begins (code_of_one s) 1 s then rune (code_of_one s) 1
    else if begins (code_of_two s) 2 s then rune (code_of_two s) 2
    else if begins (code_of_three s) 3 s then rune (code_of_three s) 3
    else if begins (code_of_four s) 4 s then rune (code_of_four s) 4
    else rune replacement 1
