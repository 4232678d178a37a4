use Rattle.go_load.proofs.Circles.{ordered_or_cyclic}
use Rattle.go_load.proofs.sorting.arrange.Goals as goal

pub unreachable-requires : goal.unreachable-requires
unreachable-requires c = ordered_or_cyclic c.args.graph.now c.in_ok-order.order c.in_ok-cycle-in-None.cycle c.in-None.is c.in-None-cycle.is c.in_ok-order.ensures c.in_ok-cycle-in-None.ensures
