-- Operators on integers. Go specification, "Arithmetic operators", "Integer operators" and "Integer overflow".
use Rattle.std.specs.Prelude.{◌^◌, Bool, true, false, ℤ, pos, ◌+ℤ◌, ◌-ℤ◌, ◌*ℤ◌, int_div, int_rem, unsigned_abs, ◌&&◌, if◌then◌else◌, Option, Some, None, Result, Ok, Err}
use Rattle.std.specs.Int.{int_div_euclid, is_negative}
use Rattle.std.specs.Ordering.{int_eq}
use Rattle.go_value.specs.Integers.{value_of, wrap}
use Rattle.go_value.specs.Bits.{common, joint, differing, cleared}
use Rattle.go_value.specs.declared.int.Int.{Int}
use Rattle.go_value.specs.declared.operation.IntOp.{IntOp}
use Rattle.go_value.specs.declared.operation.IntOp.TheVariants.{Add, Sub, Mul, Div, Rem, And, Or, Xor, AndNot, Shl, Shr}
use Rattle.go_value.specs.declared.fault.ValueFault.{ValueFault}
use Rattle.go_value.specs.declared.fault.ValueFault.TheVariants.{DivideByZero, NegativeShift}

-- What an operator gives over whole numbers: a quotient is truncated toward zero, and its remainder has the dividend's sign.
-- A shift by n multiplies by 2^n, or divides by it and rounds down.
unfoldable pub exact : IntOp → ℤ → ℤ → ℤ
exact Add a b = a +ℤ b
exact Sub a b = a -ℤ b
exact Mul a b = a *ℤ b
exact Div a b = int_div a b
exact Rem a b = int_rem a b
exact And a b = common a b
exact Or a b = joint a b
exact Xor a b = differing a b
exact AndNot a b = cleared a b
exact Shl a b = a *ℤ pos (2 ^ unsigned_abs b)
exact Shr a b = int_div_euclid a (pos (2 ^ unsigned_abs b))

-- a quotient or a remainder, whose right operand is a divisor
abbrev pub is_division : IntOp → Bool
is_division Div = true
is_division Rem = true
is_division op = false

-- a shift, whose right operand is a count
abbrev pub is_shift : IntOp → Bool
is_shift Shl = true
is_shift Shr = true
is_shift op = false

-- why an operator gives nothing for a right operand
unfoldable pub fault : IntOp → ℤ → Option ValueFault
fault op b = if is_division op && int_eq b (pos 0) then Some DivideByZero else if is_shift op && is_negative b then Some NegativeShift else None

-- the value, unless there is a fault
abbrev pub unless : {A E : Type 0} → Option E → A → Result A E
unless None x = Ok x
unless (Some e) x = Err e

-- the fault, or the result, which wraps
abbrev pub int_result : IntOp → Int → Int → Result Int ValueFault
int_result op a b = unless (fault op (value_of b)) (wrap a.kind (exact op (value_of a) (value_of b)))
