use Rattle.std.proofs.Common.{arith}
use Rattle.go_load.proofs.Finding.{no_cycle}
use Rattle.go_load.proofs.cycle.least_cycle.Goals as goal

pub returns : goal.returns
returns c = no_cycle c.args.graph.now c.loop-start.start (omega arith) c.loop-start.invariant
