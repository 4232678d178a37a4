-- The kinds of integer. Go specification, "Numeric types".
use Rattle.std.specs.Prelude.{ℕ, ◌-◌, ◌^◌, Bool, true, false, ℤ, pos, negsuc, ◌≤ℤ◌, ◌-ℤ◌, ◌&&◌, nat_le, if◌then◌else◌}
use Rattle.go_value.specs.declared.kind.Kind.{Kind}
use Rattle.go_value.specs.declared.kind.Kind.TheVariants.{I8, I16, I32, I64, U8, U16, U32, U64}

-- how many bits an integer of a kind has
abbrev pub width : Kind → ℕ
width I8 = 8
width I16 = 16
width I32 = 32
width I64 = 64
width U8 = 8
width U16 = 16
width U32 = 32
width U64 = 64

-- there are negative integers of a kind
abbrev pub is_signed : Kind → Bool
is_signed I8 = true
is_signed I16 = true
is_signed I32 = true
is_signed I64 = true
is_signed U8 = false
is_signed U16 = false
is_signed U32 = false
is_signed U64 = false

-- The whole number that bits stand for: in a signed kind in two's complement, where the highest bit of w is worth -2^(w-1).
abbrev pub number_of : Kind → ℕ → ℤ
number_of kind bits = if is_signed kind && nat_le (2 ^ (width kind - 1)) bits then pos bits -ℤ pos (2 ^ width kind) else pos bits

-- the least and the greatest integer of a kind: -2^(w-1) and 2^(w-1) - 1 of w bits, or 0 and 2^w - 1
abbrev pub least : Kind → ℤ
least kind = if is_signed kind then negsuc (2 ^ (width kind - 1) - 1) else pos 0

abbrev pub greatest : Kind → ℤ
greatest kind = if is_signed kind then pos (2 ^ (width kind - 1) - 1) else pos (2 ^ width kind - 1)

-- a whole number is one of the integers of a kind
pub record IsOfKind (kind : Kind) (z : ℤ) : Type 0 where
  pub low : least kind ≤ℤ z
  pub high : z ≤ℤ greatest kind
