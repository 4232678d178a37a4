-- The types of values. Go specification, "Boolean types", "Numeric types", "String types", "Channel types" and "Type identity".
use Rattle.std.specs.Prelude.{ℕ, ◌-◌, Bool, nat_lt, ◌==◌, ◌&&◌, Option, Some, None, is_some, if◌then◌else◌}
use Rattle.go_value.specs.declared.kind.Kind.{Kind}
use Rattle.go_value.specs.declared.kind.Kind.TheVariants.{I8, I16, I32, I64, U8, U16, U32, U64}
use Rattle.go_types.specs.declared.types.Basic.{Basic}
use Rattle.go_types.specs.declared.types.Basic.TheVariants as basic'
use Rattle.go_types.specs.declared.types.ValueType.{ValueType}

-- the integers of a basic type
abbrev pub int_kind : Basic → Option Kind
int_kind basic'.Bool = None
int_kind basic'.String = None
int_kind basic'.Int = Some I64
int_kind basic'.Int8 = Some I8
int_kind basic'.Int16 = Some I16
int_kind basic'.Int32 = Some I32
int_kind basic'.Int64 = Some I64
int_kind basic'.Uint = Some U64
int_kind basic'.Uint8 = Some U8
int_kind basic'.Uint16 = Some U16
int_kind basic'.Uint32 = Some U32
int_kind basic'.Uint64 = Some U64

abbrev pub number : Basic → ℕ
number basic'.Bool = 0
number basic'.String = 1
number basic'.Int = 2
number basic'.Int8 = 3
number basic'.Int16 = 4
number basic'.Int32 = 5
number basic'.Int64 = 6
number basic'.Uint = 7
number basic'.Uint8 = 8
number basic'.Uint16 = 9
number basic'.Uint32 = 10
number basic'.Uint64 = 11

abbrev pub basic : Basic → ValueType
basic b = record { channels = 0; base = b }

abbrev pub is_channel : ValueType → Bool
is_channel t = nat_lt 0 t.channels

abbrev pub kind_of : ValueType → Option Kind
kind_of t = if is_channel t then None else int_kind t.base

abbrev pub is_integer : ValueType → Bool
is_integer t = is_some (kind_of t)

-- two basic types are one
abbrev pub same_basic : Basic → Basic → Bool
same_basic a b = number a == number b

abbrev pub is : Basic → ValueType → Bool
is b t = t.channels == 0 && same_basic t.base b

abbrev pub same : ValueType → ValueType → Bool
same s t = s.channels == t.channels && same_basic s.base t.base

abbrev pub is_text : ValueType → Bool
is_text t = is basic'.String t

abbrev pub is_flag : ValueType → Bool
is_flag t = is basic'.Bool t

abbrev pub flag : ValueType
flag = basic basic'.Bool

abbrev pub text : ValueType
text = basic basic'.String

abbrev pub int : ValueType
int = basic basic'.Int

-- the type of the values that are sent over a channel
abbrev pub element : ValueType → ValueType
element t = record t { channels = t.channels - 1 }
