-- Integers and the whole numbers that they stand for.
use Rattle.std.proofs.Common.{◌≡◌, ℕ, suc, ◌+◌, ◌-◌, ◌*◌, ◌/◌, ◌%◌, ◌^◌, ◌<◌, ◌≤◌, Bool, true, false, cond, ℤ, pos, negsuc, ◌-ℤ◌, ◌≤ℤ◌, bit_and, unsigned_abs, refl, sym, true≢false, ap, ◌∙◌, subst, arith, leb, leb-true, leb-false, le-leb, mod-eq_of_lt, pow_pos, pow-add, SFits, to_z, of_z, div-add-mod', add-mul, lit<}
use Rattle.std.specs.Int.{w128, int_rem_euclid}
use Rattle.std.specs.Coded.{le_prop}
use Rattle.std.proofs.lemmas.Nat.{mod_below, mod-mul-add, and_mask, div_below}
use Rattle.std.proofs.lemmas.Bool.{lt-leb}
use Rattle.std.proofs.lemmas.Int.{ints, to_z-of_z}
use Rattle.go_value.specs.Kinds.{width, is_signed, number_of, IsOfKind}
use Rattle.go_value.specs.Residues.{residue, residue_below}
use Rattle.go_value.specs.Integers.{value_of, wrap}
use Rattle.go_value.specs.declared.kind.Kind.{Kind}
use Rattle.go_value.specs.declared.kind.Kind.TheVariants.{I8, I16, I32, I64, U8, U16, U32, U64}
use Rattle.go_value.specs.declared.int.Int.{Int}

pub same_bits : (k : Kind) (n m : ℕ) (p : n < 2 ^ width k) (q : m < 2 ^ width k) → n ≡ m → ◌≡◌ {A = Int} (record { kind = k; bits = n; in_width = p }) (record { kind = k; bits = m; in_width = q })
same_bits k n m p q e =
    subst (λ (x : ℕ). (r : x < 2 ^ width k) → ◌≡◌ {A = Int} (record { kind = k; bits = n; in_width = p }) (record { kind = k; bits = x; in_width = r }))
    e (λ r. ap (λ (h : n < 2 ^ width k). let i : Int = record { kind = k; bits = n; in_width = h } in i) (le_prop p r)) q

-- an integer is what its kind and its bits say
pub wrap-from_bits : (i : Int) (z : ℤ) → residue (width i.kind) z ≡ i.bits → wrap i.kind z ≡ i
unfolding wrap
wrap-from_bits i z e = same_bits i.kind (residue (width i.kind) z) i.bits (residue_below (width i.kind) z) i.in_width e

pub is_wrap : (k : Kind) (n : ℕ) (h : n < 2 ^ width k) (z : ℤ) → n ≡ residue (width k) z → ◌≡◌ {A = Int} (record { kind = k; bits = n; in_width = h }) (wrap k z)
unfolding wrap
is_wrap k n h z e = same_bits k n (residue (width k) z) h (residue_below (width k) z) e

-- ---- the low bits

-- the last numbers below a multiple of m leave what the first do, from the other end
pub from_end : (j m n : ℕ) → 0 < m → n < j * m → (j * m - suc n) % m ≡ m - 1 - n % m
from_end j m n some h =
    let q : n / m < j = div_below n m j some h in
    let below : n % m < m = mod_below n m some in
    let i : ℕ = j - 1 - n / m in
    let whole : j ≡ i + (1 + n / m) = omega arith in
    let product : j * m ≡ i * m + (1 + n / m) * m = ap (λ (x : ℕ). x * m) whole ∙ add-mul i (1 + n / m) m in
    let parts : (1 + n / m) * m ≡ 1 * m + n / m * m = add-mul 1 (n / m) m in
    let split : n / m * m + n % m ≡ n = div-add-mod' n m in
    let rest : j * m - suc n ≡ i * m + (m - 1 - n % m) = omega arith in
    rw rest (mod-mul-add i m (m - 1 - n % m) (omega arith))

pub low_bits : (w v : ℕ) (z : ℤ) (n : ℕ) → n ≡ of_z w128 z → SFits w128 z → w + v ≡ 128 → n % 2 ^ w ≡ residue w z
low_bits w v (pos a) n e fits h = ap (λ (x : ℕ). x % 2 ^ w) e
low_bits w v (negsuc a) n e fits h =
    let whole : 2 ^ v * 2 ^ w ≡ 2 ^ 128 = let turned : v + w ≡ 128 = omega arith in sym (pow-add 2 v w) ∙ ap (λ (x : ℕ). 2 ^ x) turned in
    let below : a < 2 ^ v * 2 ^ w = rw whole (omega (arith, fits.sfits)) in
    let last : n ≡ 2 ^ v * 2 ^ w - suc a = e ∙ ap (λ (x : ℕ). x - suc a) (sym whole) in
    ap (λ (x : ℕ). x % 2 ^ w) last ∙ from_end (2 ^ v) (2 ^ w) a (pow_pos w) below

-- a width is at most 64, and its mask leaves the low bits
pub width_rest : (k : Kind) → (v : ℕ) × (width k + v ≡ 128)
width_rest k = elim k as (λ k. (v : ℕ) × (width k + v ≡ 128)) [ I8 ↦ (120, refl) | I16 ↦ (112, refl) | I32 ↦ (96, refl) | I64 ↦ (64, refl) | U8 ↦ (120, refl) | U16 ↦ (112, refl) | U32 ↦ (96, refl) | U64 ↦ (64, refl) ]

pub masked : (k : Kind) (z : ℤ) (n mask : ℕ) → n ≡ of_z w128 (to_z w128 (of_z w128 z)) → SFits w128 z → mask ≡ 2 ^ width k - 1 → bit_and n mask ≡ residue (width k) z
masked k z n mask e fits m = ap (bit_and n) m ∙ and_mask n (width k) ∙ low_bits (width k) (width_rest k).0 z n (e ∙ ap (of_z w128) (to_z-of_z w128 z fits)) fits (width_rest k).1

-- ---- the whole number of some bits

-- m - suc n, in place of the difference below 0
below_zero : (bits m : ℕ) → bits < m → pos bits -ℤ pos m ≡ negsuc (m - 1 - bits)
below_zero bits m h = omega (arith, ints)

module _ (h m : ℕ) (some : 0 < h) (double : m ≡ 2 * h) where
  -- the number of bits in two's complement, where h is the lowest that stands for a negative one
  signed : ℕ → ℤ
  signed bits = cond (leb h bits) (pos bits -ℤ pos m) (pos bits)

  signed_back : (bits : ℕ) → bits < m → unsigned_abs (int_rem_euclid (signed bits) (pos m)) ≡ bits
  unfolding signed
  signed_back bits lt =
      elim (leb h bits) as (λ b. unsigned_abs (int_rem_euclid (cond b (pos bits -ℤ pos m) (pos bits)) (pos m)) ≡ bits) [
        | true ↦ rw (below_zero bits m lt, mod-eq_of_lt {n = m - 1 - bits} {m = m} (omega arith)) (omega arith)
        | false ↦ mod-eq_of_lt lt
      ]

  signed_low : (bits : ℕ) → bits < m → negsuc (h - 1) ≤ℤ signed bits
  unfolding signed
  signed_low bits lt =
      elim (leb h bits) as (λ b. leb h bits ≡ b → negsuc (h - 1) ≤ℤ cond b (pos bits -ℤ pos m) (pos bits)) [
        | true ↦ λ e. omega (arith, ints, leb-true h bits e)
        | false ↦ λ e. omega (arith, ints)
      ] refl

  signed_high : (bits : ℕ) → bits < m → signed bits ≤ℤ pos (h - 1)
  unfolding signed
  signed_high bits lt =
      elim (leb h bits) as (λ b. leb h bits ≡ b → cond b (pos bits -ℤ pos m) (pos bits) ≤ℤ pos (h - 1)) [
        | true ↦ λ e. omega (arith, ints)
        | false ↦ λ e. omega (arith, ints, leb-false h bits e)
      ] refl

  signed_kept : (z : ℤ) → negsuc (h - 1) ≤ℤ z → z ≤ℤ pos (h - 1) → signed (unsigned_abs (int_rem_euclid z (pos m))) ≡ z
  unfolding signed
  signed_kept (pos n) low high =
      let small : n < h = omega (arith, ints) in
      rw (mod-eq_of_lt {n = n} {m = m} (omega arith), lt-leb h n small) refl
  signed_kept (negsuc n) low high =
      let small : n < h = omega (arith, ints) in
      rw (mod-eq_of_lt {n = n} {m = m} (omega arith), le-leb h (m - 1 - n) (omega arith), below_zero (m - 1 - n) m (omega arith)) (ap (λ (x : ℕ). negsuc x) (omega arith))

-- ---- the same for each kind

pub back : (k : Kind) (bits : ℕ) → bits < 2 ^ width k → residue (width k) (number_of k bits) ≡ bits
unfolding signed
back I8 bits lt = signed_back (2 ^ 7) (2 ^ 8) (lit< tt) refl bits lt
back I16 bits lt = signed_back (2 ^ 15) (2 ^ 16) (lit< tt) refl bits lt
back I32 bits lt = signed_back (2 ^ 31) (2 ^ 32) (lit< tt) refl bits lt
back I64 bits lt = signed_back (2 ^ 63) (2 ^ 64) (lit< tt) refl bits lt
back U8 bits lt = mod-eq_of_lt lt
back U16 bits lt = mod-eq_of_lt lt
back U32 bits lt = mod-eq_of_lt lt
back U64 bits lt = mod-eq_of_lt lt

pub in_kind : (k : Kind) (bits : ℕ) → bits < 2 ^ width k → IsOfKind k (number_of k bits)
unfolding signed
in_kind I8 bits lt = record { low = signed_low (2 ^ 7) (2 ^ 8) (lit< tt) refl bits lt; high = signed_high (2 ^ 7) (2 ^ 8) (lit< tt) refl bits lt }
in_kind I16 bits lt = record { low = signed_low (2 ^ 15) (2 ^ 16) (lit< tt) refl bits lt; high = signed_high (2 ^ 15) (2 ^ 16) (lit< tt) refl bits lt }
in_kind I32 bits lt = record { low = signed_low (2 ^ 31) (2 ^ 32) (lit< tt) refl bits lt; high = signed_high (2 ^ 31) (2 ^ 32) (lit< tt) refl bits lt }
in_kind I64 bits lt = record { low = signed_low (2 ^ 63) (2 ^ 64) (lit< tt) refl bits lt; high = signed_high (2 ^ 63) (2 ^ 64) (lit< tt) refl bits lt }
in_kind U8 bits lt = record { low = omega (arith, ints); high = omega (arith, ints) }
in_kind U16 bits lt = record { low = omega (arith, ints); high = omega (arith, ints) }
in_kind U32 bits lt = record { low = omega (arith, ints); high = omega (arith, ints) }
in_kind U64 bits lt = record { low = omega (arith, ints); high = omega (arith, ints) }

unsigned_kept : (m : ℕ) (z : ℤ) → 0 < m → pos 0 ≤ℤ z → z ≤ℤ pos (m - 1) → pos (unsigned_abs (int_rem_euclid z (pos m))) ≡ z
unsigned_kept m (pos n) some low high = ap (λ (x : ℕ). pos x) (mod-eq_of_lt {n = n} {m = m} (omega (arith, ints)))
unsigned_kept m (negsuc n) some low high = absurd (omega (arith, ints))

pub kept : (k : Kind) (z : ℤ) → IsOfKind k z → number_of k (residue (width k) z) ≡ z
unfolding signed
kept I8 z h = signed_kept (2 ^ 7) (2 ^ 8) (lit< tt) refl z h.low h.high
kept I16 z h = signed_kept (2 ^ 15) (2 ^ 16) (lit< tt) refl z h.low h.high
kept I32 z h = signed_kept (2 ^ 31) (2 ^ 32) (lit< tt) refl z h.low h.high
kept I64 z h = signed_kept (2 ^ 63) (2 ^ 64) (lit< tt) refl z h.low h.high
kept U8 z h = unsigned_kept (2 ^ 8) z (lit< tt) h.low h.high
kept U16 z h = unsigned_kept (2 ^ 16) z (lit< tt) h.low h.high
kept U32 z h = unsigned_kept (2 ^ 32) z (lit< tt) h.low h.high
kept U64 z h = unsigned_kept (2 ^ 64) z (lit< tt) h.low h.high

pub kept_in : (k : Kind) (n : ℕ) (h : n < 2 ^ width k) (z : ℤ) → n ≡ residue (width k) z → IsOfKind k z → value_of (record { kind = k; bits = n; in_width = h }) ≡ z
unfolding value_of
kept_in k n h z e within = ap (number_of k) e ∙ kept k z within

-- ---- what the code computes

pub is_negative : (k : Kind) (bits mask : ℕ) (s : Bool) → s ≡ is_signed k → s ≡ true → mask ≡ 2 ^ width k - 1 → mask / 2 < bits → bits < 2 ^ width k → number_of k bits ≡ pos bits -ℤ pos mask -ℤ pos 1
is_negative I8 bits mask s e t m top lt = rw (m, le-leb (2 ^ 7) bits (omega arith)) (omega (arith, ints))
is_negative I16 bits mask s e t m top lt = rw (m, le-leb (2 ^ 15) bits (omega arith)) (omega (arith, ints))
is_negative I32 bits mask s e t m top lt = rw (m, le-leb (2 ^ 31) bits (omega arith)) (omega (arith, ints))
is_negative I64 bits mask s e t m top lt = rw (m, le-leb (2 ^ 63) bits (omega arith)) (omega (arith, ints))
is_negative U8 bits mask s e t m top lt = absurd (true≢false (sym t ∙ e))
is_negative U16 bits mask s e t m top lt = absurd (true≢false (sym t ∙ e))
is_negative U32 bits mask s e t m top lt = absurd (true≢false (sym t ∙ e))
is_negative U64 bits mask s e t m top lt = absurd (true≢false (sym t ∙ e))

pub is_bits : (k : Kind) (bits : ℕ) → is_signed k ≡ false → number_of k bits ≡ pos bits
is_bits I8 bits e = absurd (true≢false e)
is_bits I16 bits e = absurd (true≢false e)
is_bits I32 bits e = absurd (true≢false e)
is_bits I64 bits e = absurd (true≢false e)
is_bits U8 bits e = refl
is_bits U16 bits e = refl
is_bits U32 bits e = refl
is_bits U64 bits e = refl

pub is_low : (k : Kind) (bits mask : ℕ) → mask ≡ 2 ^ width k - 1 → bits ≤ mask / 2 → number_of k bits ≡ pos bits
is_low I8 bits mask m low = rw (lt-leb (2 ^ 7) bits (omega arith)) refl
is_low I16 bits mask m low = rw (lt-leb (2 ^ 15) bits (omega arith)) refl
is_low I32 bits mask m low = rw (lt-leb (2 ^ 31) bits (omega arith)) refl
is_low I64 bits mask m low = rw (lt-leb (2 ^ 63) bits (omega arith)) refl
is_low U8 bits mask m low = refl
is_low U16 bits mask m low = refl
is_low U32 bits mask m low = refl
is_low U64 bits mask m low = refl

-- ---- integers and their whole numbers

pub value_in_kind : (i : Int) → IsOfKind i.kind (value_of i)
unfolding value_of
value_in_kind i = in_kind i.kind i.bits i.in_width

pub wrap-value_of : (i : Int) → wrap i.kind (value_of i) ≡ i
unfolding value_of
wrap-value_of i = wrap-from_bits i (number_of i.kind i.bits) (back i.kind i.bits i.in_width)

pub value_of-wrap : (k : Kind) (z : ℤ) → IsOfKind k z → value_of (wrap k z) ≡ z
unfolding value_of wrap
value_of-wrap k z h = kept k z h
