use Rattle.std.proofs.Common.{◌≡◌, ◌++◌, drop}
use Rattle.std.specs.List.{flat_map}
use Rattle.cov_report.specs.Dump.{pod_dump, dump_of}
use Rattle.cov_report.proofs.dump.debugdump.Given as goal

abbrev pub invariant-loop-pod : goal.invariant-loop-pod
invariant-loop-pod l = l.text.items ++ flat_map (pod_dump l.filter.patterns) (drop l.pod-index l.pods) ≡ dump_of l.pods l.filter.patterns
