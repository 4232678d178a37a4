-- Groups of seven bits.
use Rattle.std.proofs.Common.{◌≡◌, ℕ, ◌+◌, ◌*◌, ◌-◌, ◌%◌, ◌^◌, ◌<◌, ◌≤◌, suc, List, length, get_or, drop, sym, ap, ◌∙◌, arith, lit<}
use Rattle.std.proofs.lemmas.List.{drop_more}
use Rattle.std.proofs.Math.Nat.{pow-le-pow_right, pow-succ'}
use Rattle.cov_bytes.specs.Reading.{groups_value}

pub value_below : (k value : ℕ) → k ≤ 9 → value < 128 ^ k → 128 * value < 2 ^ 70
value_below k value le lt =
    let bound : 128 ^ k ≤ 128 ^ 9 = pow-le-pow_right {n = 128} (lit< tt) le in
    omega arith

pub bound_more : (k value group : ℕ) → group < 128 → value < 128 ^ k → group + 128 * value < 128 ^ suc k
bound_more k value group g lt = rw (pow-succ' 128 k) (omega arith)

pub value_more : (gs : List ℕ) (i value group : ℕ) → 0 < i → i ≤ length gs → group ≡ get_or gs (i - 1) 0 % 128 → value ≡ groups_value (drop i gs) → group + 128 * value ≡ groups_value (drop (i - 1) gs)
value_more gs i value group pos le g v =
    let lt : i - 1 < length gs = omega arith in
    let back : (i - 1) + 1 ≡ i = omega arith in
    rw (g, v) (sym (ap groups_value (drop_more gs (i - 1) 0 lt) ∙ ap (λ (k : ℕ). get_or gs (i - 1) 0 % 128 + 128 * groups_value (drop k gs)) back))
