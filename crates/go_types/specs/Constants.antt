-- Constants. Go specification, "Constants", "Constant expressions", "Representability" and "Conversions".
use Rattle.std.specs.Prelude.{ℕ, ℤ, pos, negsuc, Bool, true, false, not, ◌&&◌, ◌||◌, int_le, int_lt, List, ◌++◌, Option, Some, None, unwrap_or, encode_utf8, Ok, if◌then◌else◌}
use lib.Utf8.{scalar}
use Rattle.std.specs.Cmp.Lexicographic.{slice_cmp}
use Rattle.std.specs.Ordering.{nat_cmp, int_cmp, int_eq, is_eq, is_ne, is_lt, is_le, is_gt, is_ge}
use Rattle.std.specs.declared.cmp.Ordering.{Ordering}
use Rattle.go_ast.specs.declared.kind.SourceKind.TheVariants.{WrongType, ConstRange}
use Rattle.go_ast.specs.declared.expr.UnaryOp.{UnaryOp}
use Rattle.go_ast.specs.declared.expr.UnaryOp.TheVariants as unary
use Rattle.go_meaning.specs.declared.expr.Relation.{Relation}
use Rattle.go_meaning.specs.declared.expr.Relation.TheVariants as relation
use Rattle.go_meaning.specs.declared.value.Value.{Value}
use Rattle.go_meaning.specs.declared.value.Value.TheVariants as value
use Rattle.go_value.specs.declared.kind.Kind.{Kind}
use Rattle.go_value.specs.declared.kind.Kind.TheVariants.{I64}
use Rattle.go_value.specs.declared.operation.IntOp.{IntOp}
use Rattle.go_value.specs.declared.operation.IntOp.TheVariants.{Add, Sub, Xor}
use Rattle.go_value.specs.Kinds.{least, greatest, is_signed}
use Rattle.go_value.specs.Integers.{wrap}
use Rattle.go_value.specs.Constants.{const_result}
use Rattle.go_types.specs.declared.types.ValueType.{ValueType}
use Rattle.go_types.specs.declared.kinds.OperandKind.{OperandKind}
use Rattle.go_types.specs.declared.kinds.OperandKind.TheVariants.{Typed}
use Rattle.go_types.specs.declared.operator.Operator.{Operator}
use Rattle.go_types.specs.declared.operator.Operator.TheVariants.{Arithmetic, Compare, Both, Either}
use Rattle.go_types.specs.declared.conversion.Conversion.{Conversion}
use Rattle.go_types.specs.declared.conversion.Conversion.TheVariants.{Spell}
use Rattle.go_types.specs.declared.constant.Constant.{Constant}
use Rattle.go_types.specs.declared.constant.Constant.TheVariants.{Flag, Number, Text}
use Rattle.go_types.specs.Types.{kind_of}
use Rattle.go_types.specs.Checking.{Checked, and_then, fault, at_offset}

-- a whole number is one of the integers of a kind
abbrev pub is_of_kind : Kind → ℤ → Bool
is_of_kind k z = int_le (least k) z && int_le z (greatest k)

abbrev pub is_of : Option Kind → ℤ → Bool
is_of None z = false
is_of (Some k) z = is_of_kind k z

-- a constant is a value of a type of its sort
abbrev pub fits : ValueType → Constant → Bool
fits t (Number z) = is_of (kind_of t) z
fits t c = true

-- the value of a constant in a type that it fits
abbrev pub value_in : ValueType → Constant → Value
value_in t (Flag b) = value.Flag b
value_in t (Number z) = value.Number (wrap (unwrap_or (kind_of t) I64) z)
value_in t (Text s) = value.Text s

abbrev pub is_negative : Constant → Bool
is_negative (Number z) = int_lt z (pos 0)
is_negative c = false

abbrev pub is_zero : Constant → Bool
is_zero (Number z) = int_eq z (pos 0)
is_zero c = false

-- a relation holds where the first value stands so to the second
abbrev pub holds : Relation → Ordering → Bool
holds relation.Equal o = is_eq o
holds relation.NotEqual o = is_ne o
holds relation.Less o = is_lt o
holds relation.LessEqual o = is_le o
holds relation.Greater o = is_gt o
holds relation.GreaterEqual o = is_ge o

abbrev pub number_of : Checked ℤ → Checked Constant
number_of r = and_then r (λ z. Ok (Number z))

abbrev pub arithmetic : ℕ → IntOp → ℤ → ℤ → Checked Constant
arithmetic at o a b = number_of (at_offset at (const_result o a b))

abbrev pub on_numbers : ℕ → Operator → ℤ → ℤ → Checked Constant
on_numbers at (Arithmetic o) a b = arithmetic at o a b
on_numbers at (Compare r) a b = Ok (Flag (holds r (int_cmp a b)))
on_numbers at o a b = fault at WrongType

-- texts are compared by their bytes
abbrev pub on_texts : ℕ → Operator → List ℕ → List ℕ → Checked Constant
on_texts at (Arithmetic Add) a b = Ok (Text (a ++ b))
on_texts at (Compare r) a b = Ok (Flag (holds r (slice_cmp nat_cmp a b)))
on_texts at o a b = fault at WrongType

abbrev pub are_equal : Bool → Bool → Bool
are_equal true b = b
are_equal false b = not b

abbrev pub on_flags : ℕ → Operator → Bool → Bool → Checked Constant
on_flags at (Compare relation.Equal) a b = Ok (Flag (are_equal a b))
on_flags at (Compare relation.NotEqual) a b = Ok (Flag (not (are_equal a b)))
on_flags at Both a b = Ok (Flag (a && b))
on_flags at Either a b = Ok (Flag (a || b))
on_flags at o a b = fault at WrongType

-- a binary operator on constants, exact; a shift counts by the second
abbrev pub binary_constant : ℕ → Operator → Constant → Constant → Checked Constant
binary_constant at o (Number a) (Number b) = on_numbers at o a b
binary_constant at o (Text a) (Text b) = on_texts at o a b
binary_constant at o (Flag a) (Flag b) = on_flags at o a b
binary_constant at o a b = fault at WrongType

abbrev pub ones_of : Option Kind → ℤ
ones_of None = negsuc 0
ones_of (Some k) = if is_signed k then negsuc 0 else greatest k

-- the number whose bits are all ones: in an unsigned type its greatest, and else -1
abbrev pub all_ones : OperandKind → ℤ
all_ones (Typed t) = ones_of (kind_of t)
all_ones k = negsuc 0

abbrev pub unary_constant : ℕ → UnaryOp → OperandKind → Constant → Checked Constant
unary_constant at unary.Plus k (Number a) = Ok (Number a)
unary_constant at unary.Minus k (Number a) = arithmetic at Sub (pos 0) a
unary_constant at unary.Flip k (Number a) = arithmetic at Xor (all_ones k) a
unary_constant at unary.Not k (Flag a) = Ok (Flag (not a))
unary_constant at o k a = fault at WrongType

-- a constant that has a type is a value of it
abbrev pub within : ℕ → OperandKind → Constant → Checked Constant
within at (Typed t) c = if fits t c then Ok c else fault at ConstRange
within at k c = Ok c

-- a number that is no code point stands for U+FFFD
abbrev pub code_point : ℤ → ℕ
code_point (pos n) = if scalar n then n else 65533
code_point (negsuc n) = 65533

abbrev pub spelled : ℤ → List ℕ
spelled z = encode_utf8 (code_point z)

abbrev pub converted : ℕ → Conversion → ValueType → Constant → Checked Constant
converted at Spell t (Number z) = Ok (Text (spelled z))
converted at how t c = within at (Typed t) c
