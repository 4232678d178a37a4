-- Operators on the bits of 128-bit numbers.
use Rattle.std.proofs.Common.{◌≡◌, ℕ, suc, ◌-◌, ◌^◌, ◌<◌, ◌≤◌, ℤ, pos, negsuc, bit_and, bit_or, bit_xor, sym, ap, ap₂, ⊎_elim, ◌∙◌, arith, SFits, to_z, of_z}
use Rattle.std.specs.Int.{w128, bit_at}
use Rattle.std.proofs.lemmas.Nat.{and_le_l, and_comm, or_lt, xor_lt, and-not, xor_comm}
use Rattle.std.specs.Int.Bits.{or_add_and}
use Rattle.std.proofs.lemmas.Bool.{cases_lt}
use Rattle.std.proofs.lemmas.Nat.Bits.{bit_at_and, bit_at_or, bit_at_xor, bit_at_not, bit_at-lt, same_from_bits_below}
use Rattle.std.proofs.lemmas.Int.{to_z-of_z, to_z_pos}
use Rattle.go_value.specs.Bits.{complement, common, joint, differing, cleared}

-- all ones
abbrev ones : ℕ
ones = 2 ^ 128 - 1

below : (n : ℕ) → n < 2 ^ 127 → n < 2 ^ 128
below n h = omega arith

-- ---- naturals of 128 bits

one_bit : (n i : ℕ) → bit_at n i ≤ 1
one_bit n i = omega (arith, bit_at-lt n i)

and_of_lacking : (a b : ℕ) → a < 2 ^ 128 → b < 2 ^ 128 → bit_and (ones - a) (ones - b) ≡ ones - bit_or a b
and_of_lacking a b p q =
    same_from_bits_below 128 (bit_and (ones - a) (ones - b)) (ones - bit_or a b) (omega (arith, and_le_l (ones - a) (ones - b))) (omega arith)
    (λ i h. rw (bit_at_and, bit_at_not w128 a i p h, bit_at_not w128 b i q h, bit_at_not w128 (bit_or a b) i (or_lt 128 a b p q) h, bit_at_or) (omega (arith, one_bit a i, one_bit b i)))

xor_of_lacking : (a b : ℕ) → a < 2 ^ 128 → b < 2 ^ 128 → bit_xor a (ones - b) ≡ ones - bit_xor a b
xor_of_lacking a b p q =
    same_from_bits_below 128 (bit_xor a (ones - b)) (ones - bit_xor a b) (xor_lt 128 a (ones - b) p (omega arith)) (omega arith)
    (λ i h. rw (bit_at_xor, bit_at_not w128 b i q h, bit_at_not w128 (bit_xor a b) i (xor_lt 128 a b p q) h, bit_at_xor) (omega (arith, one_bit a i, one_bit b i)))

and_lacking : (a b : ℕ) → a < 2 ^ 128 → b < 2 ^ 128 → bit_and a (ones - b) ≡ a - bit_and a b
and_lacking a b p q = omega (arith, and-not 128 b a q p, and_comm a b, and_comm a (ones - b))

-- ---- signed numbers of 128 bits

to_pos : (n : ℕ) → n < 2 ^ 127 → to_z w128 n ≡ pos n
to_pos n h = to_z_pos w128 n h

to_negative : (n : ℕ) → n < 2 ^ 127 → to_z w128 (ones - n) ≡ negsuc n
to_negative n h = ap (to_z w128) (omega arith) ∙ to_z-of_z w128 (negsuc n) (record { sfits = h })

lacking : (n : ℕ) → ones - n ≡ 2 ^ 128 - suc n
lacking n = omega arith

pub of_complement : (z : ℤ) → SFits w128 z → of_z w128 (complement z) ≡ ones - of_z w128 z
of_complement (pos n) f = sym (lacking n)
of_complement (negsuc n) f = omega (arith, f.sfits)

pub fits_complement : (z : ℤ) → SFits w128 z → SFits w128 (complement z)
fits_complement (pos n) f = record { sfits = f.sfits }
fits_complement (negsuc n) f = record { sfits = f.sfits }

pub is_common : (a b : ℤ) → SFits w128 a → SFits w128 b → to_z w128 (bit_and (of_z w128 a) (of_z w128 b)) ≡ common a b
is_common (pos a) (pos b) f g = to_pos (bit_and a b) (omega (arith, f.sfits, and_le_l a b))
is_common (pos a) (negsuc b) f g =
    ap (λ (n : ℕ). to_z w128 (bit_and a n)) (sym (lacking b)) ∙ ap (to_z w128) (and_lacking a b (below a f.sfits) (below b g.sfits)) ∙ to_pos (a - bit_and a b) (omega (arith, f.sfits))
is_common (negsuc a) (pos b) f g =
    ap (to_z w128) (and_comm (2 ^ 128 - suc a) b) ∙ ap (λ (n : ℕ). to_z w128 (bit_and b n)) (sym (lacking a)) ∙ ap (to_z w128) (and_lacking b a (below b g.sfits) (below a f.sfits)) ∙ to_pos (b - bit_and b a) (omega (arith, g.sfits))
    ∙ ap (λ (n : ℕ). pos (b - n)) (and_comm b a)
is_common (negsuc a) (negsuc b) f g =
    ap (to_z w128) (ap₂ bit_and (sym (lacking a)) (sym (lacking b)) ∙ and_of_lacking a b (below a f.sfits) (below b g.sfits)) ∙ to_negative (bit_or a b) (or_lt 127 a b f.sfits g.sfits)

pub is_cleared : (a b : ℤ) → SFits w128 a → SFits w128 b → to_z w128 (bit_and (of_z w128 a) (ones - of_z w128 b)) ≡ cleared a b
is_cleared a b f g = ap (λ (n : ℕ). to_z w128 (bit_and (of_z w128 a) n)) (sym (of_complement b g)) ∙ is_common a (complement b) f (fits_complement b g)

pub is_differing : (a b : ℤ) → SFits w128 a → SFits w128 b → to_z w128 (bit_xor (of_z w128 a) (of_z w128 b)) ≡ differing a b
is_differing (pos a) (pos b) f g = to_pos (bit_xor a b) (xor_lt 127 a b f.sfits g.sfits)
is_differing (pos a) (negsuc b) f g =
    ap (λ (n : ℕ). to_z w128 (bit_xor a n)) (sym (lacking b)) ∙ ap (to_z w128) (xor_of_lacking a b (below a f.sfits) (below b g.sfits)) ∙ to_negative (bit_xor a b) (xor_lt 127 a b f.sfits g.sfits)
is_differing (negsuc a) (pos b) f g =
    ap (to_z w128) (xor_comm (2 ^ 128 - suc a) b) ∙ ap (λ (n : ℕ). to_z w128 (bit_xor b n)) (sym (lacking a)) ∙ ap (to_z w128) (xor_of_lacking b a (below b g.sfits) (below a f.sfits)) ∙ to_negative (bit_xor b a) (xor_lt 127 b a g.sfits f.sfits)
    ∙ ap (λ (n : ℕ). negsuc n) (xor_comm b a)
is_differing (negsuc a) (negsuc b) f g =
    ap (to_z w128)
    (ap₂ bit_xor (sym (lacking a)) (sym (lacking b)) ∙ xor_of_lacking (ones - a) b (omega arith) (below b g.sfits) ∙ ap (λ (n : ℕ). ones - n) (xor_comm (ones - a) b ∙ xor_of_lacking b a (below b g.sfits) (below a f.sfits)) ∙ twice)
    ∙ to_pos (bit_xor a b) (xor_lt 127 a b f.sfits g.sfits)
  where
    twice : ones - (ones - bit_xor b a) ≡ bit_xor a b
    twice = omega (arith, xor_comm a b, xor_lt 128 b a (below b g.sfits) (below a f.sfits))

-- to z, and to -z - 1
lacks : (n : ℕ) → n < 2 ^ 128 → to_z w128 (ones - n) ≡ complement (to_z w128 n)
lacks n h = ⊎_elim (λ p. to_negative n p ∙ sym (ap complement (to_pos n p))) rest (cases_lt n (2 ^ 127))
  where
    rest : 2 ^ 127 ≤ n → to_z w128 (ones - n) ≡ complement (to_z w128 n)
    rest p =
        let e : ones - (ones - n) ≡ n = omega arith in
        to_pos (ones - n) (omega arith) ∙ sym (ap complement (ap (to_z w128) (sym e) ∙ to_negative (ones - n) (omega arith)))

or_of_lacking : (a b : ℕ) → a < 2 ^ 128 → b < 2 ^ 128 → bit_or (ones - a) (ones - b) ≡ ones - bit_and a b
or_of_lacking a b p q = omega (arith, or_add_and (ones - a) (ones - b), and_of_lacking a b p q, or_add_and a b, and_le_l a b, or_lt 128 a b p q)

of_below : (z : ℤ) → SFits w128 z → of_z w128 z < 2 ^ 128
of_below (pos n) f = below n f.sfits
of_below (negsuc n) f = omega arith

pub is_joint : (a b : ℤ) → SFits w128 a → SFits w128 b → to_z w128 (bit_or (of_z w128 a) (of_z w128 b)) ≡ joint a b
is_joint a b f g =
    let x : ℕ = of_z w128 (complement a) in
    let y : ℕ = of_z w128 (complement b) in
    let p : x < 2 ^ 128 = of_below (complement a) (fits_complement a f) in
    let q : y < 2 ^ 128 = of_below (complement b) (fits_complement b g) in
    let ea : of_z w128 a ≡ ones - x = omega (arith, of_complement a f, of_below a f) in
    let eb : of_z w128 b ≡ ones - y = omega (arith, of_complement b g, of_below b g) in
    ap (to_z w128) (ap₂ bit_or ea eb ∙ or_of_lacking x y p q) ∙ lacks (bit_and x y) (omega (arith, and_le_l x y)) ∙ ap complement (is_common (complement a) (complement b) (fits_complement a f) (fits_complement b g))

-- ---- the results have 128 bits

pub common_fits : (a b : ℤ) → SFits w128 a → SFits w128 b → SFits w128 (common a b)
common_fits (pos a) (pos b) f g = record { sfits = omega (arith, f.sfits, and_le_l a b) }
common_fits (pos a) (negsuc b) f g = record { sfits = omega (arith, f.sfits) }
common_fits (negsuc a) (pos b) f g = record { sfits = omega (arith, g.sfits) }
common_fits (negsuc a) (negsuc b) f g = record { sfits = or_lt 127 a b f.sfits g.sfits }

pub joint_fits : (a b : ℤ) → SFits w128 a → SFits w128 b → SFits w128 (joint a b)
joint_fits a b f g = fits_complement (common (complement a) (complement b)) (common_fits (complement a) (complement b) (fits_complement a f) (fits_complement b g))

pub differing_fits : (a b : ℤ) → SFits w128 a → SFits w128 b → SFits w128 (differing a b)
differing_fits (pos a) (pos b) f g = record { sfits = xor_lt 127 a b f.sfits g.sfits }
differing_fits (pos a) (negsuc b) f g = record { sfits = xor_lt 127 a b f.sfits g.sfits }
differing_fits (negsuc a) (pos b) f g = record { sfits = xor_lt 127 a b f.sfits g.sfits }
differing_fits (negsuc a) (negsuc b) f g = record { sfits = xor_lt 127 a b f.sfits g.sfits }

pub cleared_fits : (a b : ℤ) → SFits w128 a → SFits w128 b → SFits w128 (cleared a b)
cleared_fits a b f g = common_fits a (complement b) f (fits_complement b g)
