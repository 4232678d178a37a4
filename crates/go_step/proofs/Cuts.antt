-- Bounds that are out of range.
use Rattle.std.proofs.Common.{◌≡◌, ℕ, ◌<◌, ℤ, pos, negsuc, ◌<ℤ◌, List, length, Err, refl, arith}
use Rattle.std.proofs.lemmas.Bool.Decides.{nat_tests}
use Rattle.std.proofs.lemmas.Int.{ints}
use Rattle.go_value.specs.declared.fault.TextFault.TheVariants as faults
use Rattle.go_value.specs.Texts.{cut}

pub low_out : (s : List ℕ) (lo hi : ℤ) → lo <ℤ pos 0 → cut s lo hi ≡ Err faults.OutOfRange
low_out s (negsuc a) hi h = refl
low_out s (pos a) hi h = absurd (omega (arith, ints, h))

pub order_out : (s : List ℕ) (lo hi : ℤ) → hi <ℤ lo → cut s lo hi ≡ Err faults.OutOfRange
order_out s (negsuc a) hi h = refl
order_out s (pos a) (negsuc b) h = refl
order_out s (pos a) (pos b) h = let below : b < a = omega (arith, ints, h) in grind (arith, nat_tests, below)

pub high_out : (s : List ℕ) (lo hi : ℤ) → pos (length s) <ℤ hi → cut s lo hi ≡ Err faults.OutOfRange
high_out s (negsuc a) hi h = refl
high_out s (pos a) (negsuc b) h = refl
high_out s (pos a) (pos b) h = let above : length s < b = omega (arith, ints, h) in grind (arith, nat_tests, above)
