-- The operators over whole numbers.
use Rattle.std.proofs.Common.{◌≡◌, ◌≢◌, ℕ, zero, suc, ◌+◌, ◌-◌, ◌*◌, ◌/◌, ◌%◌, ◌^◌, ◌<◌, ◌≤◌, min, max, ℤ, pos, negsuc, ◌+ℤ◌, ◌*ℤ◌, ◌≤ℤ◌, neg_ℤ, int_rem, unsigned_abs, bit_and, bit_or, refl, sym, ap, ◌∙◌, arith, pow_pos, lt_of_lt_of_le, pow_mono, pow-suc, lit<, suc-mul, add_comm, div-add-mod', Bool, true, false, cond, leb, ◌&&◌, ◌-ℤ◌}
use Rattle.std.proofs.Math.IntN.{suc_ℤ, suc_ℤ-*ℤ}
use Rattle.std.proofs.Math.Nat.{mod-le}
use Rattle.std.specs.Int.{bit_at, int_div_euclid}
use Rattle.std.proofs.lemmas.Nat.{and_le_l, and_comm, and_shr, mod_below}
use Rattle.std.proofs.lemmas.Nat.Bits.{bit_at_and, bit_at_or, bit_at_xor, bit_at_lowest, bit_at-suc, bit_at-lt, bit_at_above, same_from_bits}
use Rattle.std.proofs.lemmas.Int.{ints, rem_below}
use Rattle.go_value.specs.Residues.{residue}
use Rattle.go_value.proofs.Shifts.{negative_product}
use Rattle.go_value.specs.Kinds.{width, is_signed}
use Rattle.go_value.specs.Integers.{value_of, wrap}
use Rattle.go_value.specs.declared.kind.Kind.{Kind}
use Rattle.go_value.specs.Bits.{bit_of, complement, common, joint, differing, cleared}

-- ---- bits

lacking_half : (a b : ℕ) → (a - bit_and a b) / 2 ≡ a / 2 - bit_and (a / 2) (b / 2)
lacking_half a b = omega (arith, and_shr a b 1, and_le_l a b, and_le_l (a / 2) (b / 2), lowest a b)
  where
    lowest : (a b : ℕ) → bit_and a b % 2 ≤ a % 2
    lowest a b = omega (arith, sym (bit_at_lowest (bit_and a b)) ∙ bit_at_and a b 0, bit_at_lowest a)

lacking_lowest : (a b : ℕ) → (a - bit_and a b) % 2 ≡ min (a % 2) (1 - b % 2)
lacking_lowest a b = omega (arith, and_shr a b 1, and_le_l a b, sym (bit_at_lowest (bit_and a b)) ∙ bit_at_and a b 0, bit_at_lowest a, bit_at_lowest b)

lacking : (a b k : ℕ) → bit_at (a - bit_and a b) k ≡ min (bit_at a k) (1 - bit_at b k)
lacking a b zero = rw (bit_at_lowest (a - bit_and a b), bit_at_lowest a, bit_at_lowest b) (lacking_lowest a b)
lacking a b (suc k) = rw (bit_at-suc (a - bit_and a b) k, bit_at-suc a k, bit_at-suc b k, lacking_half a b) (lacking (a / 2) (b / 2) k)

lacking_other : (a b k : ℕ) → bit_at (b - bit_and a b) k ≡ min (1 - bit_at a k) (bit_at b k)
lacking_other a b k = ap (λ (x : ℕ). bit_at (b - x) k) (and_comm a b) ∙ omega (arith, lacking b a k)

neither : (a b k : ℕ) → 1 - bit_at (bit_or a b) k ≡ min (1 - bit_at a k) (1 - bit_at b k)
neither a b k = omega (arith, bit_at_or a b k)

pub of_common : (k : ℕ) (a b : ℤ) → bit_of k (common a b) ≡ min (bit_of k a) (bit_of k b)
of_common k (pos a) (pos b) = bit_at_and a b k
of_common k (pos a) (negsuc b) = lacking a b k
of_common k (negsuc a) (pos b) = lacking_other a b k
of_common k (negsuc a) (negsuc b) = neither a b k

twice : (n k : ℕ) → bit_at n k ≡ 1 - (1 - bit_at n k)
twice n k = omega (arith, bit_at-lt n k)

pub of_complement : (k : ℕ) (a : ℤ) → bit_of k (complement a) ≡ 1 - bit_of k a
of_complement k (pos a) = refl
of_complement k (negsuc a) = twice a k

bit_le : (k : ℕ) (a : ℤ) → bit_of k a ≤ 1
bit_le k (pos n) = let small : bit_at n k ≤ 1 = omega (arith, bit_at-lt n k) in small
bit_le k (negsuc n) = let small : 1 - bit_at n k ≤ 1 = omega arith in small

pub of_joint : (k : ℕ) (a b : ℤ) → bit_of k (joint a b) ≡ max (bit_of k a) (bit_of k b)
of_joint k a b =
    rw (of_complement k (common (complement a) (complement b)), of_common k (complement a) (complement b), of_complement k a, of_complement k b) (either (bit_of k a) (bit_of k b) (bit_le k a) (bit_le k b))
  where
    either : (x y : ℕ) → x ≤ 1 → y ≤ 1 → 1 - min (1 - x) (1 - y) ≡ max x y
    either x y p q = omega arith

one_lacks : (x y : ℕ) → x < 2 → y < 2 → 1 - (x + y) % 2 ≡ (x + (1 - y)) % 2
one_lacks x y p q = omega arith

other_lacks : (x y : ℕ) → x < 2 → y < 2 → 1 - (x + y) % 2 ≡ (1 - x + y) % 2
other_lacks x y p q = omega arith

both_lack : (x y : ℕ) → x < 2 → y < 2 → (x + y) % 2 ≡ (1 - x + (1 - y)) % 2
both_lack x y p q = omega arith

pub of_differing : (k : ℕ) (a b : ℤ) → bit_of k (differing a b) ≡ (bit_of k a + bit_of k b) % 2
of_differing k (pos a) (pos b) = bit_at_xor a b k
of_differing k (pos a) (negsuc b) = ap (λ (x : ℕ). 1 - x) (bit_at_xor a b k) ∙ one_lacks (bit_at a k) (bit_at b k) (bit_at-lt a k) (bit_at-lt b k)
of_differing k (negsuc a) (pos b) = ap (λ (x : ℕ). 1 - x) (bit_at_xor a b k) ∙ other_lacks (bit_at a k) (bit_at b k) (bit_at-lt a k) (bit_at-lt b k)
of_differing k (negsuc a) (negsuc b) = bit_at_xor a b k ∙ both_lack (bit_at a k) (bit_at b k) (bit_at-lt a k) (bit_at-lt b k)

pub of_cleared : (k : ℕ) (a b : ℤ) → bit_of k (cleared a b) ≡ min (bit_of k a) (1 - bit_of k b)
of_cleared k a b = of_common k a (complement b) ∙ ap (min (bit_of k a)) (of_complement k b)

below_power : (n : ℕ) → n < 2 ^ n
below_power zero = lit< tt
below_power (suc n) = omega (arith, below_power n, pow-suc 2 n)

-- high bits tell the sign
signs : (a b : ℕ) → ((k : ℕ) → bit_at a k ≡ 1 - bit_at b k) → ⊥
signs a b h =
    let k : ℕ = a + b in
    let above : a < 2 ^ k = lt_of_lt_of_le (below_power a) (pow_mono (omega arith)) in
    let also : b < 2 ^ k = lt_of_lt_of_le (below_power b) (pow_mono (omega arith)) in
    omega (arith, h k, bit_at_above a k k above (omega arith), bit_at_above b k k also (omega arith))

same_lack : (a b : ℕ) → ((k : ℕ) → 1 - bit_at a k ≡ 1 - bit_at b k) → (k : ℕ) → bit_at a k ≡ bit_at b k
same_lack a b h k = omega (arith, h k, bit_at-lt a k, bit_at-lt b k)

pub known : (a b : ℤ) → ((k : ℕ) → bit_of k a ≡ bit_of k b) → a ≡ b
known (pos a) (pos b) h = ap (λ (x : ℕ). pos x) (same_from_bits a b h)
known (pos a) (negsuc b) h = absurd (signs a b h)
known (negsuc a) (pos b) h = absurd (signs b a (λ k. sym (h k)))
known (negsuc a) (negsuc b) h = ap (λ (x : ℕ). negsuc x) (same_from_bits a b (same_lack a b h))

-- ---- quotients

some : (b : ℤ) → b ≢ pos 0 → 0 < unsigned_abs b
some (pos zero) h = absurd (h refl)
some (pos (suc n)) h = omega arith
some (negsuc n) h = omega arith

pub nearer : (a b : ℤ) → b ≢ pos 0 → unsigned_abs (int_rem a b) < unsigned_abs b
nearer a b h = rem_below a b (some b h)

pub from_above : (a b : ℤ) → pos 0 ≤ℤ a → pos 0 ≤ℤ int_rem a b
from_above (pos a) b h = omega (arith, ints)
from_above (negsuc a) b h = absurd h.le

negated_le : (n : ℕ) → neg_ℤ (pos n) ≤ℤ pos 0
negated_le zero = omega (arith, ints)
negated_le (suc n) = omega (arith, ints)

none : (a m : ℕ) → pos a ≤ℤ pos 0 → pos (a % m) ≤ℤ pos 0
none a m h = omega (arith, ints, mod-le a m)

pub from_below : (a b : ℤ) → a ≤ℤ pos 0 → int_rem a b ≤ℤ pos 0
from_below (pos a) b h = none a (unsigned_abs b) h
from_below (negsuc a) b h = negated_le (suc a % unsigned_abs b)

-- ---- shifts

with_rest : (p r m x : ℕ) → p + r ≡ x → r < m → negsuc (m + p - 1) +ℤ pos (m - 1 - r) ≡ negsuc x
with_rest p r m x e h = omega (arith, ints)

pub floor_and_rest : (a : ℤ) (n : ℕ) → int_div_euclid a (pos (2 ^ n)) *ℤ pos (2 ^ n) +ℤ pos (residue n a) ≡ a
floor_and_rest (pos x) n = ap (λ (i : ℕ). pos i) (div-add-mod' x (2 ^ n))
floor_and_rest (negsuc x) n =
    let m : ℕ = 2 ^ n in
    let product : suc (x / m) * m ≡ m + x / m * m = suc-mul (x / m) m ∙ add_comm (x / m * m) m in
    rw (negative_product (x / m) m (pow_pos n), product) (with_rest (x / m * m) (x % m) m x (div-add-mod' x m) (mod_below x m (pow_pos n)))

-- ---- wrapping

moved_up : (r m : ℕ) (p : ℤ) (z : ℤ) → p +ℤ pos r ≡ z → pos r -ℤ pos m +ℤ (p +ℤ pos m) ≡ z
moved_up r m p z e = omega (arith, ints)

turned : (r : ℕ) (p z : ℤ) → p +ℤ pos r ≡ z → pos r +ℤ p ≡ z
turned r p z e = omega (arith, ints)

-- z is some number of times the modulus away from what its low bits stand for
from_bits : (w : ℕ) (b : Bool) (z : ℤ) → (q : ℤ) × (cond b (pos (residue w z) -ℤ pos (2 ^ w)) (pos (residue w z)) +ℤ q *ℤ pos (2 ^ w) ≡ z)
from_bits w true z =
    let f : ℤ = int_div_euclid z (pos (2 ^ w)) in
    (suc_ℤ f, rw (suc_ℤ-*ℤ f (pos (2 ^ w))) (moved_up (residue w z) (2 ^ w) (f *ℤ pos (2 ^ w)) z (floor_and_rest z w)))
from_bits w false z = (int_div_euclid z (pos (2 ^ w)), turned (residue w z) (int_div_euclid z (pos (2 ^ w)) *ℤ pos (2 ^ w)) z (floor_and_rest z w))

pub multiple_away : (k : Kind) (z : ℤ) → (q : ℤ) × (value_of (wrap k z) +ℤ q *ℤ pos (2 ^ width k) ≡ z)
unfolding value_of wrap
multiple_away k z = from_bits (width k) (is_signed k && leb (2 ^ (width k - 1)) (residue (width k) z)) z
