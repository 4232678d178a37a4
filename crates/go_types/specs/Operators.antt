-- Which operands an operator or a conversion is for, and the kind of its result. Go specification, "Operators",
-- "Comparison operators", "Logical operators", "Receive operator" and "Conversions".
use Rattle.std.specs.Prelude.{Bool, true, ◌&&◌, ◌||◌, Option, Some, None, option_map, option_and_then, if◌then◌else◌}
use Rattle.go_ast.specs.declared.expr.BinaryOp.{BinaryOp}
use Rattle.go_ast.specs.declared.expr.BinaryOp.TheVariants as binary
use Rattle.go_ast.specs.declared.expr.UnaryOp.{UnaryOp}
use Rattle.go_ast.specs.declared.expr.UnaryOp.TheVariants as unary
use Rattle.go_meaning.specs.declared.expr.Relation.TheVariants as relation
use Rattle.go_value.specs.declared.operation.IntOp.TheVariants as int
use Rattle.go_types.specs.declared.types.ValueType.{ValueType}
use Rattle.go_types.specs.declared.kinds.Untyped.TheVariants as untyped
use Rattle.go_types.specs.declared.kinds.OperandKind.{OperandKind}
use Rattle.go_types.specs.declared.kinds.OperandKind.TheVariants.{Typed, Untyped as Bare}
use Rattle.go_types.specs.declared.operator.Operator.{Operator}
use Rattle.go_types.specs.declared.operator.Operator.TheVariants.{Arithmetic, Compare, Both, Either}
use Rattle.go_types.specs.declared.conversion.Conversion.{Conversion}
use Rattle.go_types.specs.declared.conversion.Conversion.TheVariants.{Convert, Spell, Keep}
use Rattle.go_types.specs.Types as types
use Rattle.go_types.specs.Kinds.{common, is_assignable, is_integer, is_text, is_flag}

abbrev pub operator_of : BinaryOp → Operator
operator_of binary.Mul = Arithmetic int.Mul
operator_of binary.Div = Arithmetic int.Div
operator_of binary.Rem = Arithmetic int.Rem
operator_of binary.Shl = Arithmetic int.Shl
operator_of binary.Shr = Arithmetic int.Shr
operator_of binary.And = Arithmetic int.And
operator_of binary.AndNot = Arithmetic int.AndNot
operator_of binary.Add = Arithmetic int.Add
operator_of binary.Sub = Arithmetic int.Sub
operator_of binary.Or = Arithmetic int.Or
operator_of binary.Xor = Arithmetic int.Xor
operator_of binary.Equal = Compare relation.Equal
operator_of binary.NotEqual = Compare relation.NotEqual
operator_of binary.Less = Compare relation.Less
operator_of binary.LessEqual = Compare relation.LessEqual
operator_of binary.Greater = Compare relation.Greater
operator_of binary.GreaterEqual = Compare relation.GreaterEqual
operator_of binary.BothOf = Both
operator_of binary.EitherOf = Either

-- integers and strings are ordered
abbrev pub is_ordered : OperandKind → Bool
is_ordered k = is_integer k || is_text k

-- an operator is for operands of a kind
abbrev pub is_for : Operator → OperandKind → Bool
is_for (Arithmetic int.Add) k = is_ordered k
is_for (Arithmetic o) k = is_integer k
is_for (Compare relation.Equal) k = true
is_for (Compare relation.NotEqual) k = true
is_for (Compare r) k = is_ordered k
is_for Both k = is_flag k
is_for Either k = is_flag k

-- the kind of the result: a comparison gives an untyped bool
abbrev pub result_kind : Operator → OperandKind → OperandKind
result_kind (Compare r) k = Bare untyped.Bool
result_kind o k = k

-- a shift has integers on both sides and the left one's kind
abbrev pub shift_kind : OperandKind → OperandKind → Option OperandKind
shift_kind a b = if is_integer a && is_integer b then Some a else None

abbrev pub kind_if : Bool → OperandKind → Option OperandKind
kind_if b k = if b then Some k else None

-- the operands have one kind, which the operator is for
abbrev pub kind_of_both : Operator → OperandKind → OperandKind → Option OperandKind
kind_of_both o a b = option_and_then (λ k. kind_if (is_for o k) (result_kind o k)) (common a b)

abbrev pub binary_kind : Operator → OperandKind → OperandKind → Option OperandKind
binary_kind (Arithmetic int.Shl) a b = shift_kind a b
binary_kind (Arithmetic int.Shr) a b = shift_kind a b
binary_kind o a b = kind_of_both o a b

-- a receive gives what the channel's type says
abbrev pub received_kind : OperandKind → Option OperandKind
received_kind (Typed t) = kind_if (types.is_channel t) (Typed (types.element t))
received_kind k = None

abbrev pub unary_kind : UnaryOp → OperandKind → Option OperandKind
unary_kind unary.Plus k = kind_if (is_integer k) k
unary_kind unary.Minus k = kind_if (is_integer k) k
unary_kind unary.Flip k = kind_if (is_integer k) k
unary_kind unary.Not k = kind_if (is_flag k) k
unary_kind unary.Receive k = received_kind k

-- Integers convert to integers and to strings, and else a value to its own type.
abbrev pub conversion_to : ValueType → OperandKind → Option Conversion
conversion_to t k =
    if is_integer k && types.is_text t then Some Spell
    else (if is_integer k then option_map Convert (types.kind_of t)
    else (if is_assignable t k then Some Keep else None))
