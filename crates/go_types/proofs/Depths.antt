-- What is said of a list down to a depth, by what is said down to one less.
use Rattle.std.proofs.Common.{◌≡◌, ℕ, zero, suc, ◌-◌, ◌<◌, Bool, List, ap, arith}
use Rattle.go_types.specs.Endings as spec

pub breaks_down : (ls : spec.Lists) (d k n : ℕ) → 0 < d →
    spec.breaks ls d k n ≡ spec.statements_break (spec.breaks ls (d - 1)) k (spec.list_at ls n)
breaks_down ls zero k n h = absurd (omega (arith, h))
breaks_down ls (suc d) k n h =
    let e : d ≡ suc d - 1 = omega arith in
    ap (λ x. spec.statements_break (spec.breaks ls x) k (spec.list_at ls n)) e

pub ends_down : (ls : spec.Lists) (d n : ℕ) → 0 < d →
    spec.ends ls d n ≡ spec.last_is (spec.ends_form ls (spec.ends ls (d - 1)) (spec.breaks ls (d - 1) 0)) (spec.list_at ls n)
ends_down ls zero n h = absurd (omega (arith, h))
ends_down ls (suc d) n h =
    let e : d ≡ suc d - 1 = omega arith in
    ap (λ x. spec.last_is (spec.ends_form ls (spec.ends ls x) (spec.breaks ls x 0)) (spec.list_at ls n)) e
