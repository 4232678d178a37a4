use Rattle.std.proofs.Common.{◌≡◌, take}
use Rattle.cov_cut.proofs.counters.same_list.Given as goal

abbrev pub invariant-loop-node : goal.invariant-loop-node
invariant-loop-node l = l.copies ≡ take l.node-index l.list
