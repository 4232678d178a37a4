-- The kinds of operands. Go specification, "Constants", "Assignability" and "Operators".
use Rattle.std.specs.Prelude.{Bool, true, false, Option, Some, None, option_map, if◌then◌else◌}
use Rattle.go_types.specs.declared.types.Basic.TheVariants as basic'
use Rattle.go_types.specs.declared.types.ValueType.{ValueType}
use Rattle.go_types.specs.declared.kinds.Untyped.{Untyped}
use Rattle.go_types.specs.declared.kinds.Untyped.TheVariants as untyped
use Rattle.go_types.specs.declared.kinds.OperandKind.{OperandKind}
use Rattle.go_types.specs.declared.kinds.OperandKind.TheVariants.{Typed, Untyped as Bare, Nil}
use Rattle.go_types.specs.Types as types

-- the type of an untyped constant where the place asks for none
abbrev pub default_type : Untyped → ValueType
default_type untyped.Bool = types.basic basic'.Bool
default_type untyped.String = types.basic basic'.String
default_type untyped.Int = types.basic basic'.Int
default_type untyped.Rune = types.basic basic'.Int32

abbrev pub is_untyped_integer : Untyped → Bool
is_untyped_integer untyped.Int = true
is_untyped_integer untyped.Rune = true
is_untyped_integer u = false

-- an untyped constant can take a type, if its value fits
abbrev pub takes : ValueType → Untyped → Bool
takes t untyped.Bool = types.is_flag t
takes t untyped.String = types.is_text t
takes t untyped.Int = types.is_integer t
takes t untyped.Rune = types.is_integer t

-- the kind of two untyped constants under an operator: of integers and runes it is rune
abbrev pub joined : Untyped → Untyped → Option Untyped
joined untyped.Bool untyped.Bool = Some untyped.Bool
joined untyped.String untyped.String = Some untyped.String
joined untyped.Int untyped.Int = Some untyped.Int
joined untyped.Int untyped.Rune = Some untyped.Rune
joined untyped.Rune untyped.Int = Some untyped.Rune
joined untyped.Rune untyped.Rune = Some untyped.Rune
joined u v = None

-- an operand can take a type, if its value fits
abbrev pub is_assignable : ValueType → OperandKind → Bool
is_assignable t (Typed s) = types.same s t
is_assignable t (Bare u) = takes t u
is_assignable t Nil = types.is_channel t

abbrev pub typed_if : Bool → ValueType → Option OperandKind
typed_if b t = if b then Some (Typed t) else None

-- The one kind of two operands: their type, the type of the one that has one, or that of two untyped constants.
abbrev pub common : OperandKind → OperandKind → Option OperandKind
common (Typed s) (Typed t) = typed_if (types.same t s) s
common (Typed s) (Bare v) = typed_if (takes s v) s
common (Typed s) Nil = typed_if (types.is_channel s) s
common (Bare u) (Typed t) = typed_if (takes t u) t
common (Bare u) (Bare v) = option_map Bare (joined u v)
common Nil (Typed t) = typed_if (types.is_channel t) t
common a b = None

abbrev pub is_integer : OperandKind → Bool
is_integer (Typed t) = types.is_integer t
is_integer (Bare u) = is_untyped_integer u
is_integer Nil = false

abbrev pub is_text : OperandKind → Bool
is_text (Typed t) = types.is_text t
is_text (Bare untyped.String) = true
is_text k = false

abbrev pub is_flag : OperandKind → Bool
is_flag (Typed t) = types.is_flag t
is_flag (Bare untyped.Bool) = true
is_flag k = false
