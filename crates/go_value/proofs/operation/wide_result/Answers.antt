use Rattle.std.proofs.Common.{◌≡◌, ℤ, unsigned_abs, ap, ◌∙◌, min}
use Rattle.std.specs.Int.{w128}
use Rattle.std.proofs.lemmas.Int.{to_z-of_z, quot_is, rem_is}
use Rattle.go_value.specs.Integers.{wrap}
use Rattle.go_value.specs.Operations.{exact}
use Rattle.go_value.proofs.WideBits.{is_common, is_joint, is_differing, is_cleared}
use Rattle.go_value.proofs.Wraps.{wraps_product, wraps_left, shifted_right, mag_below, quotient_fits, quotient_fits', sum_is, difference_is, nonzero, nonzero_rem, nonnegative, nonnegative_right}
use Rattle.go_value.proofs.operation.wide_result.Goals as goal

pub nonzero_div-result : goal.nonzero_div-result
nonzero_div-result c =
    (nonzero c.args.b c.ranges.b (rw c.in-Div.is at c.requires.defined), quotient_fits' c.args.a c.args.b c.ranges.a c.ranges.b c.requires.left)

pub nonzero_rem-result : goal.nonzero_rem-result
nonzero_rem-result c =
    (nonzero_rem c.args.b c.ranges.b (rw c.in-Rem.is at c.requires.defined), quotient_fits' c.args.a c.args.b c.ranges.a c.ranges.b c.requires.left)

pub shift_count-requires : goal.shift_count-requires
shift_count-requires c = rw (to_z-of_z w128 c.args.b c.ranges.b) (nonnegative c.args.b (rw c.in-Shl.is at c.requires.defined))

pub shift_count-requires-in-Shr : goal.shift_count-requires-in-Shr
shift_count-requires-in-Shr c = rw (to_z-of_z w128 c.args.b c.ranges.b) (nonnegative_right c.args.b (rw c.in-Shr.is at c.requires.defined))

pub returns-in-Add : goal.returns-in-Add
unfolding exact
returns-in-Add c k = rw c.in-Add.is (ap (wrap k) (sum_is c.args.a c.args.b c.ranges.a c.ranges.b c.requires.left c.requires.right))

pub returns-in-Sub : goal.returns-in-Sub
unfolding exact
returns-in-Sub c k = rw c.in-Sub.is (ap (wrap k) (difference_is c.args.a c.args.b c.ranges.a c.ranges.b c.requires.left c.requires.right))

pub returns-in-Mul : goal.returns-in-Mul
unfolding exact
returns-in-Mul c k = rw c.in-Mul.is (wraps_product k c.args.a c.args.b c.ranges.a c.ranges.b)

pub returns-in-Div : goal.returns-in-Div
unfolding exact
returns-in-Div c k = rw c.in-Div.is (ap (wrap k) (quot_is w128 c.args.a c.args.b c.ranges.a c.ranges.b (quotient_fits c.args.a c.args.b c.requires.left)))

pub returns-in-Rem : goal.returns-in-Rem
unfolding exact
returns-in-Rem c k = rw c.in-Rem.is (ap (wrap k) (rem_is w128 c.args.a c.args.b c.ranges.a c.ranges.b))

pub returns-in-And : goal.returns-in-And
unfolding exact
returns-in-And c k = rw c.in-And.is (ap (wrap k) (is_common c.args.a c.args.b c.ranges.a c.ranges.b))

pub returns-in-Or : goal.returns-in-Or
unfolding exact
returns-in-Or c k = rw c.in-Or.is (ap (wrap k) (is_joint c.args.a c.args.b c.ranges.a c.ranges.b))

pub returns-in-Xor : goal.returns-in-Xor
unfolding exact
returns-in-Xor c k = rw c.in-Xor.is (ap (wrap k) (is_differing c.args.a c.args.b c.ranges.a c.ranges.b))

pub returns-in-AndNot : goal.returns-in-AndNot
unfolding exact
returns-in-AndNot c k = rw c.in-AndNot.is (ap (wrap k) (is_cleared c.args.a c.args.b c.ranges.a c.ranges.b))

pub returns-in-Shl : goal.returns-in-Shl
unfolding exact
returns-in-Shl c k =
    let e : c.shift_count.result ≡ min (unsigned_abs c.args.b) 64 = c.shift_count.ensures ∙ ap (λ (z : ℤ). min (unsigned_abs z) 64) (to_z-of_z w128 c.args.b c.ranges.b) in
    rw c.in-Shl.is (wraps_left k c.args.a (unsigned_abs c.args.b) c.shift_count.result c.ranges.a e)

pub returns-in-Shr : goal.returns-in-Shr
unfolding exact
returns-in-Shr c k =
    let e : c.shift_count-in-Shr.result ≡ min (unsigned_abs c.args.b) 64 = c.shift_count-in-Shr.ensures ∙ ap (λ (z : ℤ). min (unsigned_abs z) 64) (to_z-of_z w128 c.args.b c.ranges.b) in
    rw c.in-Shr.is (ap (wrap k) (shifted_right c.args.a (unsigned_abs c.args.b) c.shift_count-in-Shr.result 64 c.ranges.a e (mag_below c.args.a 64 c.requires.left)))
