-- Operators on integer constants. Go specification, "Constant expressions": they are exact, here in signed 128 bits.
use Rattle.std.specs.Prelude.{◌^◌, ℤ, pos, neg_ℤ, int_le, int_lt, ◌&&◌, if◌then◌else◌, Bool, Option, Some, None, Result, Ok, Err}
use Rattle.std.specs.Int.{is_negative}
use Rattle.std.specs.Ordering.{int_eq}
use Rattle.go_value.specs.Operations.{exact, is_division, is_shift}
use Rattle.go_value.specs.declared.operation.IntOp.{IntOp}
use Rattle.go_value.specs.declared.fault.ConstFault.{ConstFault}
use Rattle.go_value.specs.declared.fault.ConstFault.TheVariants.{ConstRange, ConstDivide}

-- why an operator gives nothing for a right operand: a zero divisor, or a negative shift count
unfoldable pub const_fault : IntOp → ℤ → Option ConstFault
const_fault op b = if is_division op && int_eq b (pos 0) then Some ConstDivide else if is_shift op && is_negative b then Some ConstRange else None

-- a whole number of signed 128 bits
abbrev pub is_constant : ℤ → Bool
is_constant z = int_le (neg_ℤ (pos (2 ^ 127))) z && int_lt z (pos (2 ^ 127))

-- the fault, or the number where it is in range
abbrev pub constant : Option ConstFault → ℤ → Result ℤ ConstFault
constant None z = if is_constant z then Ok z else Err ConstRange
constant (Some e) z = Err e

-- what an operator gives on constants
abbrev pub const_result : IntOp → ℤ → ℤ → Result ℤ ConstFault
const_result op a b = constant (const_fault op b) (exact op a b)
