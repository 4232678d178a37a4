use Rattle.std.proofs.Common.{arith, ◌≡◌, ◌-◌, suc, length}
use Rattle.cov_bytes.proofs.Groups.{value_below, bound_more, value_more}
use Rattle.cov_bytes.proofs.cursor.value_of.Goals as goal

pub overflow_mul-value : goal.overflow_mul-value
overflow_mul-value c = omega (arith, value_below (length c.args.groups.now - c.loop-i.i) c.loop-i.value (omega arith) c.loop-i.invariant.2)

pub overflow_add-value : goal.overflow_add-value
overflow_add-value c = omega (arith, value_below (length c.args.groups.now - c.loop-i.i) c.loop-i.value (omega arith) c.loop-i.invariant.2, c.from-group.ensures)

pub loop-i-preserved : goal.loop-i-preserved
loop-i-preserved c =
    let k : length c.args.groups.now - (c.loop-i.i - 1) ≡ suc (length c.args.groups.now - c.loop-i.i) = omega arith in (
      omega arith,
      value_more c.args.groups.now c.loop-i.i c.loop-i.value c.from-group.result (omega arith) c.loop-i.invariant.0 c.from-group.ensures c.loop-i.invariant.1,
      rw k (bound_more (length c.args.groups.now - c.loop-i.i) c.loop-i.value c.from-group.result (omega (arith, c.from-group.ensures)) c.loop-i.invariant.2),
    )
