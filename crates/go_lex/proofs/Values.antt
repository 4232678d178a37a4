-- Values of digits.
use Rattle.std.proofs.Common.{◌≡◌, ℕ, zero, suc, ◌+◌, ◌*◌, ◌<◌, ◌≤◌, Bool, true, false, ◌&&◌, List, [], ◌∷◌, length, refl, ap, arith, drop}
use Rattle.std.proofs.Math.Nat.{mul-le-mul_left}
use Rattle.std.proofs.Common.{get_or, ◌∙◌, drop-cons}
use Rattle.std.specs.List.{list_all}
use Rattle.std.specs.Char.{digit_value}
use Rattle.go_ast.specs.Numbers.{value_from}

pub both : (a b : Bool) → (a && b) ≡ true → (a ≡ true) × (b ≡ true)
both true b e = (refl, e)
both false b e = absurd cc

-- what a number is worth in front of digits
abbrev pub weight : ℕ → List ℕ → ℕ
weight base [] = 1
weight base (d ∷ ds) = base * weight base ds

pub weight_some : (base : ℕ) (ds : List ℕ) → 1 ≤ base → 1 ≤ weight base ds
weight_some base [] h = omega arith
weight_some base (d ∷ ds) h = let more = weight_some base ds h in let mul = mul-le-mul_left base more in omega (arith, mul)

pub weight_16 : (ds : List ℕ) → length ds ≤ 8 → weight 16 ds ≤ 4294967296
weight_16 [] h = omega arith
weight_16 (a ∷ []) h = omega arith
weight_16 (a ∷ b ∷ []) h = omega arith
weight_16 (a ∷ b ∷ c ∷ []) h = omega arith
weight_16 (a ∷ b ∷ c ∷ d ∷ []) h = omega arith
weight_16 (a ∷ b ∷ c ∷ d ∷ e ∷ []) h = omega arith
weight_16 (a ∷ b ∷ c ∷ d ∷ e ∷ f ∷ []) h = omega arith
weight_16 (a ∷ b ∷ c ∷ d ∷ e ∷ f ∷ g ∷ []) h = omega arith
weight_16 (a ∷ b ∷ c ∷ d ∷ e ∷ f ∷ g ∷ i ∷ []) h = omega arith
weight_16 (a ∷ b ∷ c ∷ d ∷ e ∷ f ∷ g ∷ i ∷ j ∷ ds) h = absurd (omega arith)

pub weight_8 : (ds : List ℕ) → length ds ≤ 2 → weight 8 ds ≤ 64
weight_8 [] h = omega arith
weight_8 (a ∷ []) h = omega arith
weight_8 (a ∷ b ∷ []) h = omega arith
weight_8 (a ∷ b ∷ c ∷ ds) h = absurd (omega arith)

-- one more digit
pub step_16 : (v d w limit : ℕ) → d < 16 → (v + 1) * (16 * w) ≤ limit → (v * 16 + d + 1) * w ≤ limit
step_16 v d w limit h le = let le' : d ≤ 15 = omega arith in let mul = mul-le-mul_left w le' in omega (arith, mul)

pub step_8 : (v d w limit : ℕ) → d < 8 → (v + 1) * (8 * w) ≤ limit → (v * 8 + d + 1) * w ≤ limit
step_8 v d w limit h le = let le' : d ≤ 7 = omega arith in let mul = mul-le-mul_left w le' in omega (arith, mul)

-- a number with a digit fits
pub fits_16 : (v w limit : ℕ) → 1 ≤ w → (v + 1) * (16 * w) ≤ limit → v * 16 + 15 < limit
fits_16 v w limit some le = let mul = mul-le-mul_left (16 * (v + 1)) some in omega (arith, mul)

pub fits_8 : (v w limit : ℕ) → 1 ≤ w → (v + 1) * (8 * w) ≤ limit → v * 8 + 7 < limit
fits_8 v w limit some le = let mul = mul-le-mul_left (8 * (v + 1)) some in omega (arith, mul)

-- what is left at an index
pub front : (ds : List ℕ) (i : ℕ) → i < length ds → drop i ds ≡ get_or ds i 0 ∷ drop (i + 1) ds
front ds i lt = let k : suc i ≡ i + 1 = omega arith in drop-cons ds i 0 lt ∙ ap (λ n. get_or ds i 0 ∷ drop n ds) k

value_step : (base v d total b : ℕ) (rest more : List ℕ) → rest ≡ b ∷ more → d ≡ digit_value b → value_from base v rest ≡ total → value_from base (v * base + d) more ≡ total
value_step base v d total b rest more e is t = rw is (rw e at t)

weight_step : (base limit v d b : ℕ) (rest more : List ℕ) → rest ≡ b ∷ more → ((w : ℕ) → (v + 1) * (base * w) ≤ limit → (v * base + d + 1) * w ≤ limit) → (v + 1) * weight base rest ≤ limit → (v * base + d + 1) * weight base more ≤ limit
weight_step base limit v d b rest more e step le = step (weight base more) (rw e at le)

-- the digits that are left, after one of them
pub value_more : (base : ℕ) (ds : List ℕ) (i v d total : ℕ) → i < length ds → d ≡ digit_value (get_or ds i 0) → value_from base v (drop i ds) ≡ total → value_from base (v * base + d) (drop (i + 1) ds) ≡ total
value_more base ds i v d total lt is t = value_step base v d total (get_or ds i 0) (drop i ds) (drop (i + 1) ds) (front ds i lt) is t

pub weight_more : (base limit v d : ℕ) (ds : List ℕ) (i : ℕ) → i < length ds → ((w : ℕ) → (v + 1) * (base * w) ≤ limit → (v * base + d + 1) * w ≤ limit) → (v + 1) * weight base (drop i ds) ≤ limit → (v * base + d + 1) * weight base (drop (i + 1) ds) ≤ limit
weight_more base limit v d ds i lt step le = weight_step base limit v d (get_or ds i 0) (drop i ds) (drop (i + 1) ds) (front ds i lt) step le

pub all_at : (p : ℕ → Bool) (ds : List ℕ) (i : ℕ) → i < length ds → list_all p ds ≡ true → p (get_or ds i 0) ≡ true
all_at p [] i lt all = absurd (omega arith)
all_at p (d ∷ ds) zero lt all = (both (p d) (list_all p ds) all).0
all_at p (d ∷ ds) (suc i) lt all = all_at p ds i (omega arith) (both (p d) (list_all p ds) all).1

fits_step_16 : (v limit b : ℕ) (rest more : List ℕ) → rest ≡ b ∷ more → (v + 1) * weight 16 rest ≤ limit → v * 16 + 15 < limit
fits_step_16 v limit b rest more e le = fits_16 v (weight 16 more) limit (weight_some 16 more (omega arith)) (rw e at le)

fits_step_8 : (v limit b : ℕ) (rest more : List ℕ) → rest ≡ b ∷ more → (v + 1) * weight 8 rest ≤ limit → v * 8 + 7 < limit
fits_step_8 v limit b rest more e le = fits_8 v (weight 8 more) limit (weight_some 8 more (omega arith)) (rw e at le)

pub fits_more_16 : (v limit : ℕ) (ds : List ℕ) (i : ℕ) → i < length ds → (v + 1) * weight 16 (drop i ds) ≤ limit → v * 16 + 15 < limit
fits_more_16 v limit ds i lt le = fits_step_16 v limit (get_or ds i 0) (drop i ds) (drop (i + 1) ds) (front ds i lt) le

pub fits_more_8 : (v limit : ℕ) (ds : List ℕ) (i : ℕ) → i < length ds → (v + 1) * weight 8 (drop i ds) ≤ limit → v * 8 + 7 < limit
fits_more_8 v limit ds i lt le = fits_step_8 v limit (get_or ds i 0) (drop i ds) (drop (i + 1) ds) (front ds i lt) le

pub small_8 : (d w : ℕ) → d < 8 → w ≤ 64 → (d + 1) * w ≤ 512
small_8 d w high le = let le' : d + 1 ≤ 8 = omega arith in let m1 = mul-le-mul_left w le' in omega (arith, m1)

pub zero_plus : (n : ℕ) → n ≡ 0 + n
zero_plus n = omega arith
