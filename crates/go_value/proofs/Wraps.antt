-- What wrapping leaves of the results of operators.
use Rattle.std.proofs.Common.{rules, ◌≡◌, ℕ, zero, suc, ◌+◌, ◌-◌, ◌*◌, ◌/◌, ◌%◌, ◌^◌, ◌<◌, ◌≤◌, ℤ, pos, negsuc, ◌+ℤ◌, ◌-ℤ◌, ◌*ℤ◌, ◌≤ℤ◌, neg_ℤ, unsigned_abs, int_div, Some, None, Ok, refl, sym, ap, ap₂, ◌∙◌, arith, pow_pos, pow-add, SFits, FitsSigned, to_z, of_z, min, lit≤, ⊎_elim, mod-eq_of_lt, add-zero, mul_assoc, div-le_self, lt_of_lt_of_le, lt_of_le_of_lt, pow_mono}
use Rattle.std.specs.Int.{w128, int_wrap, int_div_euclid, int_wrapping_mul}
use Rattle.std.proofs.lemmas.Nat.{mod_below, mod-mul-add, mod-pow-add, div_below, pow_below}
use Rattle.std.proofs.lemmas.Bool.{cases_lt}
use Rattle.std.specs.Int.Signed.{mag, shr_z, mag_shr}
use Rattle.std.proofs.Math.IntN.{negsuc-*ℤ-pos}
use Rattle.std.proofs.lemmas.Int.{ints, to_z-of_z, of_z-to_z, wrapping_mul_is, SFits-int_wrap, fits_signed_from_abs}
use Rattle.go_value.specs.Kinds.{width}
use Rattle.go_value.specs.Residues.{residue, residue_below}
use Rattle.go_value.specs.Integers.{wrap, value_of}
use Rattle.go_value.specs.Operations.{exact, fault, int_result}
use Rattle.go_value.proofs.Ints.{same_bits, back, from_end, low_bits, width_rest}
use Rattle.go_value.specs.declared.int.Int.{Int}
use Rattle.go_value.specs.declared.kind.Kind.{Kind}
use Rattle.go_value.specs.declared.kind.Kind.TheVariants.{I8, I16, I32, I64, U8, U16, U32, U64}
use Rattle.go_value.specs.declared.operation.IntOp.{IntOp}
use Rattle.go_value.specs.declared.operation.IntOp.TheVariants.{Div, Rem, Shl, Shr}

-- numbers with the same low bits wrap to the same integer
pub same_low : (k : Kind) (y z : ℤ) → residue (width k) y ≡ residue (width k) z → wrap k y ≡ wrap k z
unfolding wrap
same_low k y z e = same_bits k (residue (width k) y) (residue (width k) z) (residue_below (width k) y) (residue_below (width k) z) e

-- ---- wrapping to 128 bits first

mod-mod : (n v w : ℕ) → n % 2 ^ (v + w) % 2 ^ w ≡ n % 2 ^ w
mod-mod n v w = rw (mod-pow-add n v w) (mod-mul-add (n / 2 ^ w % 2 ^ v) (2 ^ w) (n % 2 ^ w) (mod_below n (2 ^ w) (pow_pos w)))

residue-residue : (v w : ℕ) (z : ℤ) → residue (v + w) z % 2 ^ w ≡ residue w z
residue-residue v w (pos n) = mod-mod n v w
residue-residue v w (negsuc n) =
    let whole : 2 ^ (v + w) ≡ 2 ^ v * 2 ^ w = pow-add 2 v w in
    let low : n % 2 ^ (v + w) < 2 ^ v * 2 ^ w = rw (← whole) (mod_below n (2 ^ (v + w)) (pow_pos (v + w))) in
    let last : 2 ^ (v + w) - 1 - n % 2 ^ (v + w) ≡ 2 ^ v * 2 ^ w - suc (n % 2 ^ (v + w)) = omega (arith, whole) in
    ap (λ (x : ℕ). x % 2 ^ w) last ∙ from_end (2 ^ v) (2 ^ w) (n % 2 ^ (v + w)) (pow_pos w) low ∙ ap (λ (x : ℕ). 2 ^ w - 1 - x) (mod-mod n v w)

int_wrap_bits : (z : ℤ) → residue 128 z ≡ of_z w128 (int_wrap w128 z)
unfolding int_wrap
int_wrap_bits z = sym (of_z-to_z w128 (residue 128 z) (residue_below 128 z))

pub wrap-int_wrap : (k : Kind) (z : ℤ) → wrap k (int_wrap w128 z) ≡ wrap k z
wrap-int_wrap k z =
    let v : ℕ = (width_rest k).0 in
    let whole : width k + v ≡ 128 = (width_rest k).1 in
    let turned : v + width k ≡ 128 = omega arith in
    same_low k (int_wrap w128 z) z (sym (low_bits (width k) v (int_wrap w128 z) (residue 128 z) (int_wrap_bits z) (SFits-int_wrap w128 z) whole) ∙ ap (λ (x : ℕ). residue x z % 2 ^ width k) (sym turned) ∙ residue-residue v (width k) z)

-- ---- products

pub wraps_product : (k : Kind) (a b : ℤ) → SFits w128 a → SFits w128 b → wrap k (int_wrapping_mul w128 a b) ≡ wrap k (a *ℤ b)
wraps_product k a b f g = ap (wrap k) (wrapping_mul_is w128 a b f g) ∙ wrap-int_wrap k (a *ℤ b)

-- ---- quotients

some_none : {A : Type 0} {x : A} → Some x ≡ None → ⊥
some_none e = cc

abs-neg : (n : ℕ) → unsigned_abs (neg_ℤ (pos n)) ≡ n
abs-neg zero = refl
abs-neg (suc n) = refl

quotient_le : (a b : ℤ) → unsigned_abs (int_div a b) ≤ unsigned_abs a
quotient_le (pos a) (pos b) = div-le_self a b
quotient_le (pos a) (negsuc b) = rw (abs-neg (a / suc b)) (div-le_self a (suc b))
quotient_le (negsuc a) (pos b) = rw (abs-neg (suc a / b)) (div-le_self (suc a) b)
quotient_le (negsuc a) (negsuc b) = div-le_self (suc a) (suc b)

pub quotient_fits : (a b : ℤ) → unsigned_abs a < 2 ^ 64 → FitsSigned w128 (int_div a b)
quotient_fits a b h = fits_signed_from_abs w128 (int_div a b) (omega (arith, quotient_le a b))

pub nonzero : (b : ℤ) → SFits w128 b → fault Div b ≡ None → 0 < of_z w128 b
unfolding fault
nonzero (pos zero) f e = absurd (some_none e)
nonzero (pos (suc n)) f e = omega arith
nonzero (negsuc n) f e = omega (arith, f.sfits)

pub nonzero_rem : (b : ℤ) → SFits w128 b → fault Rem b ≡ None → 0 < of_z w128 b
unfolding fault
nonzero_rem b f e = nonzero b f e

-- ---- shifts

pub nonnegative : (b : ℤ) → fault Shl b ≡ None → pos 0 ≤ℤ b
unfolding fault
nonnegative (pos n) e = omega (arith, ints)
nonnegative (negsuc n) e = absurd (some_none e)

pub nonnegative_right : (b : ℤ) → fault Shr b ≡ None → pos 0 ≤ℤ b
unfolding fault
nonnegative_right b e = nonnegative b e

-- a multiple of 2^w has no low bits
negative_multiple : (q w y : ℕ) → y ≡ q * 2 ^ w → residue w (neg_ℤ (pos y)) ≡ 0
negative_multiple q w zero e = mod-eq_of_lt (pow_pos w)
negative_multiple q w (suc y) e =
    let last : y ≡ q * 2 ^ w - suc 0 = omega arith in
    let whole : y % 2 ^ w ≡ 2 ^ w - 1 - 0 % 2 ^ w = ap (λ (x : ℕ). x % 2 ^ w) last ∙ from_end q (2 ^ w) 0 (pow_pos w) (omega arith) in
    omega (arith, mod-eq_of_lt {n = 0} {m = 2 ^ w} (pow_pos w))

multiple : (q w : ℕ) → q * 2 ^ w % 2 ^ w ≡ 0
multiple q w = ap (λ (x : ℕ). x % 2 ^ w) (sym (add-zero (q * 2 ^ w))) ∙ mod-mul-add q (2 ^ w) 0 (pow_pos w)

far_left : (a : ℤ) (j w : ℕ) → residue w (a *ℤ pos (2 ^ (j + w))) ≡ 0
far_left (pos n) j w = rw (pow-add 2 j w, ← mul_assoc n (2 ^ j) (2 ^ w)) (multiple (n * 2 ^ j) w)
far_left (negsuc n) j w = rw (pow-add 2 j w, negsuc-*ℤ-pos, ← mul_assoc (suc n) (2 ^ j) (2 ^ w)) (negative_multiple (suc n * 2 ^ j) w _ refl)

width_le : (k : Kind) → width k ≤ 64
width_le k = omega (arith, sixty_four k)
  where
    sixty_four : (k : Kind) → width k ≤ 64
    sixty_four I8 = lit≤ tt
    sixty_four I16 = lit≤ tt
    sixty_four I32 = lit≤ tt
    sixty_four I64 = lit≤ tt
    sixty_four U8 = lit≤ tt
    sixty_four U16 = lit≤ tt
    sixty_four U32 = lit≤ tt
    sixty_four U64 = lit≤ tt

far_left_from : (a : ℤ) (n w : ℕ) → w ≤ n → residue w (a *ℤ pos (2 ^ n)) ≡ 0
far_left_from a n w h = let e : n - w + w ≡ n = omega arith in ap (λ (x : ℕ). residue w (a *ℤ pos (2 ^ x))) (sym e) ∙ far_left a (n - w) w

-- shifting left by 64 bits leaves as much as shifting farther
pub left_enough : (k : Kind) (a : ℤ) (n s : ℕ) → s ≡ min n 64 → residue (width k) (a *ℤ pos (2 ^ s)) ≡ residue (width k) (a *ℤ pos (2 ^ n))
left_enough k a n s e = ⊎_elim near far (cases_lt n 64)
  where
    near : n < 64 → residue (width k) (a *ℤ pos (2 ^ s)) ≡ residue (width k) (a *ℤ pos (2 ^ n))
    near h = let same : s ≡ n = omega arith in ap (λ (x : ℕ). residue (width k) (a *ℤ pos (2 ^ x))) same

    far : 64 ≤ n → residue (width k) (a *ℤ pos (2 ^ s)) ≡ residue (width k) (a *ℤ pos (2 ^ n))
    far h = far_left_from a s (width k) (omega (arith, width_le k)) ∙ sym (far_left_from a n (width k) (omega (arith, width_le k)))

pub wraps_left : (k : Kind) (a : ℤ) (n s : ℕ) → SFits w128 a → s ≡ min n 64 → wrap k (to_z w128 ((of_z w128 a * 2 ^ s) % 2 ^ 128)) ≡ wrap k (a *ℤ pos (2 ^ n))
wraps_left k a n s f e = wraps_product k a (pos (2 ^ s)) f (record { sfits = pow_below s 127 (omega arith) }) ∙ same_low k (a *ℤ pos (2 ^ s)) (a *ℤ pos (2 ^ n)) (left_enough k a n s e)

none_left : (x d : ℕ) → x < d → x / d ≡ 0
none_left x d h = omega (arith, div_below x d 1 (omega arith) (omega arith))

quotients : (x n s most : ℕ) → s ≡ min n most → x < 2 ^ most → x / 2 ^ s ≡ x / 2 ^ n
quotients x n s most e h = ⊎_elim near far (cases_lt n most)
  where
    near : n < most → x / 2 ^ s ≡ x / 2 ^ n
    near p = let same : s ≡ n = omega arith in ap (λ (i : ℕ). x / 2 ^ i) same

    far : most ≤ n → x / 2 ^ s ≡ x / 2 ^ n
    far p =
        let same : s ≡ most = omega arith in
        ap (λ (i : ℕ). x / 2 ^ i) same ∙ none_left x (2 ^ most) h ∙ sym (none_left x (2 ^ n) (lt_of_lt_of_le h (pow_mono p)))

shifted : (a : ℤ) (n s most : ℕ) → s ≡ min n most → mag a < 2 ^ most → shr_z a (2 ^ s) ≡ int_div_euclid a (pos (2 ^ n))
shifted (pos x) n s most e h = ap (λ (i : ℕ). pos i) (quotients x n s most e h)
shifted (negsuc x) n s most e h = ap (λ (i : ℕ). negsuc i) (quotients x n s most e h)

pub shifted_right : (a : ℤ) (n s most : ℕ) → SFits w128 a → s ≡ min n most → mag a < 2 ^ most → to_z w128 (of_z w128 (shr_z (to_z w128 (of_z w128 a)) (2 ^ s))) ≡ int_div_euclid a (pos (2 ^ n))
shifted_right a n s most f e h =
    ap (λ (z : ℤ). to_z w128 (of_z w128 (shr_z z (2 ^ s)))) (to_z-of_z w128 a f) ∙ to_z-of_z w128 (shr_z a (2 ^ s)) (record { sfits = lt_of_le_of_lt (mag_shr a (2 ^ s)) f.sfits }) ∙ shifted a n s most e h

pub mag_below : (a : ℤ) (k : ℕ) → unsigned_abs a < 2 ^ k → mag a < 2 ^ k
mag_below (pos n) k h = h
mag_below (negsuc n) k h = omega arith

-- ---- sums

fits_sum : (a b : ℤ) → unsigned_abs a < 2 ^ 64 → unsigned_abs b < 2 ^ 64 → SFits w128 (a +ℤ b)
fits_sum a b f g = search (rules, ints)

fits_difference : (a b : ℤ) → unsigned_abs a < 2 ^ 64 → unsigned_abs b < 2 ^ 64 → SFits w128 (a -ℤ b)
fits_difference a b f g = search (rules, ints)

pub sum_is : (a b : ℤ) → SFits w128 a → SFits w128 b → unsigned_abs a < 2 ^ 64 → unsigned_abs b < 2 ^ 64 → to_z w128 (of_z w128 (to_z w128 (of_z w128 a) +ℤ to_z w128 (of_z w128 b))) ≡ a +ℤ b
sum_is a b f g h i = ap (λ (z : ℤ). to_z w128 (of_z w128 z)) (ap₂ ◌+ℤ◌ (to_z-of_z w128 a f) (to_z-of_z w128 b g)) ∙ to_z-of_z w128 (a +ℤ b) (fits_sum a b h i)

pub difference_is : (a b : ℤ) → SFits w128 a → SFits w128 b → unsigned_abs a < 2 ^ 64 → unsigned_abs b < 2 ^ 64 → to_z w128 (of_z w128 (to_z w128 (of_z w128 a) -ℤ to_z w128 (of_z w128 b))) ≡ a -ℤ b
difference_is a b f g h i = ap (λ (z : ℤ). to_z w128 (of_z w128 z)) (ap₂ ◌-ℤ◌ (to_z-of_z w128 a f) (to_z-of_z w128 b g)) ∙ to_z-of_z w128 (a -ℤ b) (fits_difference a b h i)

pub quotient_fits' : (a b : ℤ) → SFits w128 a → SFits w128 b → unsigned_abs a < 2 ^ 64 → FitsSigned w128 (int_div (to_z w128 (of_z w128 a)) (to_z w128 (of_z w128 b)))
quotient_fits' a b f g h = rw (to_z-of_z w128 a f, to_z-of_z w128 b g) (quotient_fits a b h)

-- ---- conversions

module _ (i : Int) where
  own_bits : i.bits ≡ residue (width i.kind) (value_of i)
  unfolding value_of
  own_bits = sym (back i.kind i.bits i.in_width)

  low_of : (w v : ℕ) → v + w ≡ width i.kind → i.bits % 2 ^ w ≡ residue w (value_of i)
  low_of w v e = ap (λ (x : ℕ). x % 2 ^ w) (own_bits ∙ ap (λ (n : ℕ). residue n (value_of i)) (sym e)) ∙ residue-residue v w (value_of i)

pub same_low_bits : (i : Int) (to : Kind) (w : ℕ) → w ≤ width i.kind → w ≤ width to → (wrap to (value_of i)).bits % 2 ^ w ≡ i.bits % 2 ^ w
unfolding wrap
same_low_bits i to w p q =
    let e : width to - w + w ≡ width to = omega arith in
    ap (λ (n : ℕ). residue n (value_of i) % 2 ^ w) (sym e) ∙ residue-residue (width to - w) w (value_of i) ∙ sym (low_of i w (width i.kind - w) (omega arith))

-- ---- the result of an operator

pub gives_result : (op : IntOp) (a b : Int) (x y r : ℤ) (i : Int) → fault op y ≡ None → x ≡ value_of a → y ≡ value_of b → ((k : Kind) → wrap k r ≡ wrap k (exact op x y)) → i ≡ wrap a.kind r → Ok i ≡ int_result op a b
gives_result op a b x y r i none left right low e =
    let defined : fault op (value_of b) ≡ None = ap (fault op) (sym right) ∙ none in
    let same : i ≡ wrap a.kind (exact op (value_of a) (value_of b)) = e ∙ low a.kind ∙ ap₂ (λ (s t : ℤ). wrap a.kind (exact op s t)) left right in
    rw defined (ap (λ (j : Int). Ok j) same)
