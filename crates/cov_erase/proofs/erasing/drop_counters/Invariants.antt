use Rattle.std.proofs.Common.{◌≡◌, take}
use Rattle.go_meaning.specs.Erasing.{drop_counts}
use Rattle.cov_erase.proofs.erasing.drop_counters.Given as goal

abbrev pub invariant-loop-node : goal.invariant-loop-node
invariant-loop-node l = l.rest ≡ drop_counts (take l.node-index l.list)
