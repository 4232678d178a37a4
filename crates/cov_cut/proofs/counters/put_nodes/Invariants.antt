use Rattle.std.proofs.Common.{◌≡◌, ◌+◌, ◌++◌, drop}
use Rattle.go_meaning.specs.Units.{counted_from, units_from}
use Rattle.cov_cut.proofs.counters.put_nodes.Given as goal

abbrev pub invariant-loop-node : goal.invariant-loop-node
invariant-loop-node l = record {
  counted : l.counted ++ counted_from l.next l.after (drop l.node-index l.nodes) ≡ l.fn.counted ++ counted_from l.unit l.after_breaker l.nodes;
  units : l.next + units_from l.after (drop l.node-index l.nodes) ≡ l.unit + units_from l.after_breaker l.nodes;
}
