use Rattle.std.proofs.Common.{◌+◌, length, ap, below_more, arith}
use Rattle.go_meaning.specs.Readiness.{IsIdle}
use Rattle.go_state.proofs.Activity.{dead_if}
use Rattle.go_state.proofs.ends.active.Goals as goal

pub loop-i-preserved : goal.loop-i-preserved
loop-i-preserved c = below_more (λ k. IsIdle c.args.program.now c.args.config.now (k + 1)) c.loop-i.i c.loop-i.invariant (c.is_active-in-loop-i.ensures.no c.if-is_active-2.false)

pub returns : goal.returns
returns c = let e = ap length c.as_slice-count.ensures in dead_if c.args.program.now c.args.config.now (λ i l. c.loop-i.invariant i (omega (arith, e, l)))
