-- Left shifts of 128-bit numbers that lose nothing.
use Rattle.std.proofs.Common.{ltb-true, ltb-false, true, false, ◌≡◌, ℕ, zero, suc, ◌+◌, ◌-◌, ◌*◌, ◌/◌, ◌%◌, ◌^◌, ◌<◌, ◌≤◌, ◌⊎◌, ℤ, pos, negsuc, ◌*ℤ◌, ◌≤ℤ◌, neg_ℤ, unsigned_abs, sym, ap, ◌∙◌, arith, pow_pos, pow-add, pow_mono, SFits, to_z, of_z, mod-eq_of_lt, add-mul, mul-le-mul_right, le_of_mul-le-mul_right, lt_of_mul-lt-mul_right, le-mul_of_pos_right, mul-lt-mul_of_pos_right, mul_comm, inl, inr, div-lt_iff_lt-mul, div-le_self}
use Rattle.std.specs.Int.{w128}
use Rattle.std.specs.Int.Signed.{mag, shr_z, lt_z}
use Rattle.std.proofs.Math.IntN.{negsuc-*ℤ-pos}
use Rattle.std.proofs.lemmas.Nat.{div_below}
use Rattle.std.proofs.lemmas.Int.{to_z-of_z, to_z_pos}
use Rattle.go_value.proofs.Ints.{from_end}

-- ---- the product

negated : (y : ℕ) → 0 < y → neg_ℤ (pos y) ≡ negsuc (y - 1)
negated zero h = absurd (omega arith)
negated (suc y) h = ap (λ (x : ℕ). negsuc x) (omega arith)

pub negative_product : (m x : ℕ) → 0 < x → negsuc m *ℤ pos x ≡ negsuc (suc m * x - 1)
negative_product m x h = negsuc-*ℤ-pos m x ∙ negated (suc m * x) (omega (arith, le-mul_of_pos_right (suc m) h))

split : (n : ℕ) → n ≤ 127 → 2 ^ (127 - n) * 2 ^ n ≡ 2 ^ 127
split n h = let e : 127 - n + n ≡ 127 = omega arith in sym (pow-add 2 (127 - n) n) ∙ ap (λ (x : ℕ). 2 ^ x) e

pub fits : (a : ℤ) (n : ℕ) → n ≤ 127 → mag a < 2 ^ (127 - n) → SFits w128 (a *ℤ pos (2 ^ n))
fits (pos m) n h small = record { sfits = omega (arith, split n h, mul-lt-mul_of_pos_right small (pow_pos n)) }
fits (negsuc m) n h small =
    rw (negative_product m (2 ^ n) (pow_pos n)) (record { sfits = omega (arith, split n h, mul-le-mul_right (2 ^ n) small) })

pub leaves : (a : ℤ) (n : ℕ) → n ≤ 127 → SFits w128 (a *ℤ pos (2 ^ n)) → mag a < 2 ^ (127 - n)
leaves (pos m) n h f = lt_of_mul-lt-mul_right (2 ^ n) (omega (arith, split n h, f.sfits))
leaves (negsuc m) n h f =
    let g : SFits w128 (negsuc (suc m * 2 ^ n - 1)) = rw (negative_product m (2 ^ n) (pow_pos n)) at f in
    le_of_mul-le-mul_right {m = suc m} {n = 2 ^ (127 - n)} (omega (arith, split n h, g.sfits)) (pow_pos n)

pub far : (a : ℤ) (n : ℕ) → 0 < unsigned_abs a → 127 < n → SFits w128 (a *ℤ pos (2 ^ n)) → ⊥
far (pos m) n some h f = omega (arith, f.sfits, pow_mono h, mul-le-mul_right (2 ^ n) some)
far (negsuc m) n some h f =
    let g : SFits w128 (negsuc (suc m * 2 ^ n - 1)) = rw (negative_product m (2 ^ n) (pow_pos n)) at f in
    omega (arith, g.sfits, pow_mono h, mul-le-mul_right (2 ^ n) some)

-- ---- what the shift gives

pub moved : (a : ℤ) (n : ℕ) → n ≤ 127 → mag a < 2 ^ (127 - n) → to_z w128 (of_z w128 a * 2 ^ n % 2 ^ 128) ≡ a *ℤ pos (2 ^ n)
moved (pos m) n h small =
    let below : m * 2 ^ n < 2 ^ 127 = (fits (pos m) n h small).sfits in
    ap (to_z w128) (mod-eq_of_lt {n = m * 2 ^ n} {m = 2 ^ 128} (omega arith)) ∙ to_z_pos w128 (m * 2 ^ n) below
moved (negsuc m) n h small =
    let y : ℕ = suc m * 2 ^ n in
    let most : y ≤ 2 ^ 127 = omega (arith, split n h, mul-le-mul_right (2 ^ n) small) in
    let least : 1 ≤ y = omega (arith, le-mul_of_pos_right (suc m) (pow_pos n)) in
    let rest : 2 ^ 128 - suc m + suc m ≡ 2 ^ 128 = omega (arith, small, pow_mono (split_le n)) in
    let whole : (2 ^ 128 - suc m) * 2 ^ n + suc m * 2 ^ n ≡ 2 ^ 128 * 2 ^ n = sym (add-mul (2 ^ 128 - suc m) (suc m) (2 ^ n)) ∙ ap (λ (x : ℕ). x * 2 ^ n) rest in
    let turned : (2 ^ 128 - suc m) * 2 ^ n ≡ 2 ^ n * 2 ^ 128 - suc (y - 1) = omega (arith, mul_comm (2 ^ 128) (2 ^ n)) in
    let last : (2 ^ 128 - suc m) * 2 ^ n % 2 ^ 128 ≡ 2 ^ 128 - suc (y - 1) = ap (λ (x : ℕ). x % 2 ^ 128) turned ∙ from_end (2 ^ n) (2 ^ 128) (y - 1) (pow_pos 128) (omega (arith, le-mul_of_pos_right (2 ^ 128) (pow_pos n), mul_comm (2 ^ 128) (2 ^ n))) ∙ omega (arith, mod-eq_of_lt {n = y - 1} {m = 2 ^ 128} (omega arith)) in
    ap (to_z w128) last ∙ to_z-of_z w128 (negsuc (y - 1)) (record { sfits = omega arith }) ∙ sym (negative_product m (2 ^ n) (pow_pos n))
  where
    split_le : (n : ℕ) → 127 - n ≤ 127
    split_le n = omega arith

-- ---- the test of the high bits

pub high_clear : (a : ℤ) (d : ℕ) → SFits w128 a → (of_z w128 (shr_z a d) ≡ 0) ⊎ (of_z w128 (shr_z a d) ≡ 2 ^ 128 - 1) → mag a / d ≡ 0
high_clear (pos m) d f (inl e) = e
high_clear (pos m) d f (inr e) = omega (arith, f.sfits, div-le_self m d)
high_clear (negsuc m) d f (inl e) = omega (arith, f.sfits, div-le_self m d)
high_clear (negsuc m) d f (inr e) = omega (arith, f.sfits, div-le_self m d)

pub high_set : (a : ℤ) (d : ℕ) → SFits w128 a → mag a / d ≡ 0 → (of_z w128 (shr_z a d) ≡ 0) ⊎ (of_z w128 (shr_z a d) ≡ 2 ^ 128 - 1)
high_set (pos m) d f e = inl e
high_set (negsuc m) d f e = inr (omega arith)

pub quotient_zero : (m d : ℕ) → 0 < d → m / d ≡ 0 → m < d
quotient_zero m d h e = let product : m < 1 * d = (div-lt_iff_lt-mul h).0 (omega arith) in omega arith

pub zero_quotient : (m d : ℕ) → 0 < d → m < d → m / d ≡ 0
zero_quotient m d h small = omega (arith, div_below m d 1 h (omega arith))

-- ---- the count

pub count_above : (z : ℤ) → pos 0 ≤ℤ z → lt_z (pos 127) z ≡ true → 127 < unsigned_abs z
count_above (pos n) h e = ltb-true 127 n e
count_above (negsuc n) h e = absurd h.le

pub count_within : (z : ℤ) → pos 0 ≤ℤ z → lt_z (pos 127) z ≡ false → unsigned_abs z ≤ 127
count_within (pos n) h e = ltb-false 127 n e
count_within (negsuc n) h e = absurd h.le

pub not_zero : (z : ℤ) → (of_z w128 z ≡ 0 → ⊥) → 0 < unsigned_abs z
not_zero (pos n) h = omega (arith, h)
not_zero (negsuc n) h = omega arith
