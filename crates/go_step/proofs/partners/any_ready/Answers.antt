use Rattle.std.proofs.Common.{sym, arith}
use Rattle.go_step.proofs.Partnership.{some_ready, none_ready}
use Rattle.go_step.proofs.partners.any_ready.Goals as goal

pub returns-then-is_ready : goal.returns-then-is_ready
returns-then-is_ready c = sym (some_ready c.args.program.now c.args.config.now c.args.index c.loop-case.case c.way_of_head.result c.way_of_head.ensures c.if-is_ready.ensures)

pub returns : goal.returns
returns c = sym (none_ready c.args.program.now c.args.config.now c.args.index c.count_of_head-count.result c.count_of_head-count.ensures (λ k h. c.loop-case.invariant k (omega (arith, h))))
