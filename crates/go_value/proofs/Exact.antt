-- Results of operators on constants.
use Rattle.std.proofs.Common.{◌≡◌, ℕ, zero, suc, ◌^◌, ℤ, pos, negsuc, ◌≤ℤ◌, int_div, int_rem, Option, Some, None, SomeIff, SFits, FitsSigned, arith, div-le_self, lt_of_le_of_lt}
use Rattle.std.specs.Int.{w128, CanDivide, IsNonZero, int_div_euclid}
use Rattle.std.specs.Int.Signed.{mag_rem}
use Rattle.std.proofs.lemmas.Int.{ints}
use Rattle.go_value.specs.Constants.{const_fault}
use Rattle.go_value.specs.declared.operation.IntOp.TheVariants.{Div, Rem, Shl, Shr}

some_none : {A : Type 0} {x : A} → Some x ≡ None → ⊥
some_none e = cc

pub divisor : (b : ℤ) → SFits w128 b → const_fault Div b ≡ None → IsNonZero w128 b
unfolding const_fault
divisor (pos zero) f e = absurd (some_none e)
divisor (pos (suc n)) f e = omega arith
divisor (negsuc n) f e = omega (arith, f.sfits)

pub divisor_rem : (b : ℤ) → SFits w128 b → const_fault Rem b ≡ None → IsNonZero w128 b
unfolding const_fault
divisor_rem b f e = divisor b f e

pub count : (b : ℤ) → const_fault Shl b ≡ None → pos 0 ≤ℤ b
unfolding const_fault
count (pos n) e = omega (arith, ints)
count (negsuc n) e = absurd (some_none e)

pub count_right : (b : ℤ) → const_fault Shr b ≡ None → pos 0 ≤ℤ b
unfolding const_fault
count_right b e = count b e

pub quotient : (a b : ℤ) (r : Option ℤ) → IsNonZero w128 b → SomeIff r (CanDivide w128 a b) (int_div a b) → SomeIff r (FitsSigned w128 (int_div a b)) (int_div a b)
quotient a b None some h = λ f. h (some, f)
quotient a b (Some x) some h = (h.0.1, h.1)

pub remainder_fits : (a b : ℤ) → SFits w128 a → SFits w128 (int_rem a b)
remainder_fits a b f = record { sfits = lt_of_le_of_lt (mag_rem a b) f.sfits }

pub shr_fits : (a : ℤ) (n : ℕ) → SFits w128 a → FitsSigned w128 (int_div_euclid a (pos (2 ^ n)))
shr_fits (pos m) n f = record { sfits = lt_of_le_of_lt (div-le_self m (2 ^ n)) f.sfits }
shr_fits (negsuc m) n f = record { sfits = lt_of_le_of_lt (div-le_self m (2 ^ n)) f.sfits }
