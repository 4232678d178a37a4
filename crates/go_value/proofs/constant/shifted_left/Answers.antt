use Rattle.std.proofs.Common.{ℕ, ◌^◌, ◌-◌, ◌<◌, ◌≤◌, pow_pos, unsigned_abs, ⊎_elim, inl, inr, SFits}
use Rattle.std.specs.Int.{w128}
use Rattle.std.specs.Int.Signed.{mag}
use Rattle.std.proofs.lemmas.Int.{to_z-of_z}
use Rattle.go_value.proofs.Shifts.{fits, leaves, far, moved, high_clear, high_set, quotient_zero, zero_quotient, count_above, count_within, not_zero}
use Rattle.go_value.proofs.constant.shifted_left.Goals as goal

pub returns-then-count-gt127 : goal.returns-then-count-gt127
returns-then-count-gt127 c f =
    let wide : SFits w128 c.args.count = c.ranges.count in
    let e = simp to_z-of_z at c.if-count-gt127.true in
    far c.args.a (unsigned_abs c.args.count) (not_zero c.args.a c.if-a-eq0.false) (count_above c.args.count c.requires e) f

pub returns-then-high : goal.returns-then-high
returns-then-high c =
    let whole : SFits w128 c.args.a = c.ranges.a in
    let wide : SFits w128 c.args.count = c.ranges.count in
    let n : ℕ = unsigned_abs c.args.count in
    let within : n ≤ 127 = count_within c.args.count c.requires (simp to_z-of_z at c.if-count-gt127.false) in
    let e = simp to_z-of_z at c.if-high.either in
    let clear : mag c.args.a < 2 ^ (127 - n) = quotient_zero (mag c.args.a) (2 ^ (127 - n)) (pow_pos (127 - n)) (⊎_elim (λ p. high_clear c.args.a (2 ^ (127 - n)) whole (inl p)) (λ p. high_clear c.args.a (2 ^ (127 - n)) whole (inr p.1)) e) in
    (fits c.args.a n within clear, simp to_z-of_z (moved c.args.a n within clear))

pub returns-else-high : goal.returns-else-high
returns-else-high c f =
    let whole : SFits w128 c.args.a = c.ranges.a in
    let wide : SFits w128 c.args.count = c.ranges.count in
    let n : ℕ = unsigned_abs c.args.count in
    let within : n ≤ 127 = count_within c.args.count c.requires (simp to_z-of_z at c.if-count-gt127.false) in
    let e = simp to_z-of_z at c.if-high.false in
    ⊎_elim e.0 e.1 (high_set c.args.a (2 ^ (127 - n)) whole (zero_quotient (mag c.args.a) (2 ^ (127 - n)) (pow_pos (127 - n)) (leaves c.args.a n within f)))
