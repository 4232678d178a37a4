use Rattle.std.proofs.Common.{◌≡◌, ℤ, min, unsigned_abs, int_rem, ap, ◌∙◌, SFits}
use Rattle.std.specs.Int.{w128}
use Rattle.std.proofs.lemmas.Int.{to_z-of_z}
use Rattle.go_value.specs.Operations.{exact}
use Rattle.go_value.proofs.WideBits.{is_common, is_joint, is_differing, is_cleared, common_fits, joint_fits, differing_fits, cleared_fits}
use Rattle.go_value.proofs.Wraps.{shifted_right}
use Rattle.go_value.proofs.Exact.{divisor, divisor_rem, count, count_right, quotient, remainder_fits, shr_fits}
use Rattle.go_value.proofs.constant.exact_result.Goals as goal

pub wrapping_rem-requires : goal.wrapping_rem-requires
wrapping_rem-requires c = rw (to_z-of_z w128 c.args.b c.ranges.b) (divisor_rem c.args.b c.ranges.b (rw c.in-Rem.is at c.requires))

pub shifted_left-requires : goal.shifted_left-requires
shifted_left-requires c = rw (to_z-of_z w128 c.args.b c.ranges.b) (count c.args.b (rw c.in-Shl.is at c.requires))

pub shift_count-requires : goal.shift_count-requires
shift_count-requires c = rw (to_z-of_z w128 c.args.b c.ranges.b) (count_right c.args.b (rw c.in-Shr.is at c.requires))

pub returns-in-Add : goal.returns-in-Add
unfolding exact
returns-in-Add c =
    let left : SFits w128 c.args.a = c.ranges.a in
    let right : SFits w128 c.args.b = c.ranges.b in
    rw c.in-Add.is (simp to_z-of_z at c.checked_add.ensures)

pub returns-in-Sub : goal.returns-in-Sub
unfolding exact
returns-in-Sub c =
    let left : SFits w128 c.args.a = c.ranges.a in
    let right : SFits w128 c.args.b = c.ranges.b in
    rw c.in-Sub.is (simp to_z-of_z at c.checked_sub.ensures)

pub returns-in-Mul : goal.returns-in-Mul
unfolding exact
returns-in-Mul c =
    let left : SFits w128 c.args.a = c.ranges.a in
    let right : SFits w128 c.args.b = c.ranges.b in
    rw c.in-Mul.is (simp to_z-of_z at c.checked_mul.ensures)

pub returns-in-Div : goal.returns-in-Div
unfolding exact
returns-in-Div c =
    let left : SFits w128 c.args.a = c.ranges.a in
    let right : SFits w128 c.args.b = c.ranges.b in
    rw c.in-Div.is (quotient c.args.a c.args.b c.checked_div.result (divisor c.args.b c.ranges.b (rw c.in-Div.is at c.requires)) (simp to_z-of_z at c.checked_div.ensures))

pub returns-in-Rem : goal.returns-in-Rem
unfolding exact
returns-in-Rem c =
    let left : SFits w128 c.args.a = c.ranges.a in
    let right : SFits w128 c.args.b = c.ranges.b in
    let small : SFits w128 (int_rem c.args.a c.args.b) = remainder_fits c.args.a c.args.b c.ranges.a in
    let e = simp to_z-of_z at c.wrapping_rem.ensures in
    rw c.in-Rem.is (small, rw e (to_z-of_z w128 (int_rem c.args.a c.args.b) small))

pub returns-in-And : goal.returns-in-And
unfolding exact
returns-in-And c = rw c.in-And.is (common_fits c.args.a c.args.b c.ranges.a c.ranges.b, is_common c.args.a c.args.b c.ranges.a c.ranges.b)

pub returns-in-Or : goal.returns-in-Or
unfolding exact
returns-in-Or c = rw c.in-Or.is (joint_fits c.args.a c.args.b c.ranges.a c.ranges.b, is_joint c.args.a c.args.b c.ranges.a c.ranges.b)

pub returns-in-Xor : goal.returns-in-Xor
unfolding exact
returns-in-Xor c = rw c.in-Xor.is (differing_fits c.args.a c.args.b c.ranges.a c.ranges.b, is_differing c.args.a c.args.b c.ranges.a c.ranges.b)

pub returns-in-AndNot : goal.returns-in-AndNot
unfolding exact
returns-in-AndNot c = rw c.in-AndNot.is (cleared_fits c.args.a c.args.b c.ranges.a c.ranges.b, is_cleared c.args.a c.args.b c.ranges.a c.ranges.b)

pub returns-in-Shl : goal.returns-in-Shl
unfolding exact
returns-in-Shl c =
    let left : SFits w128 c.args.a = c.ranges.a in
    let right : SFits w128 c.args.b = c.ranges.b in
    rw c.in-Shl.is (simp to_z-of_z at c.shifted_left.ensures)

pub returns-in-Shr : goal.returns-in-Shr
unfolding exact
returns-in-Shr c =
    let e : c.shift_count.result ≡ min (unsigned_abs c.args.b) 127 = c.shift_count.ensures ∙ ap (λ (z : ℤ). min (unsigned_abs z) 127) (to_z-of_z w128 c.args.b c.ranges.b) in
    rw c.in-Shr.is (shr_fits c.args.a (unsigned_abs c.args.b) c.ranges.a, shifted_right c.args.a (unsigned_abs c.args.b) c.shift_count.result 127 c.ranges.a e c.ranges.a.sfits)
