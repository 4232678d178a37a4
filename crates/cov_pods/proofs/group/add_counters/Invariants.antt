use Rattle.std.proofs.Common.{List, ◌++◌}
use Rattle.cov_pods.specs.Names.{counter_hash}
use Rattle.cov_pods.specs.Pods.{Found, HoldsCounters}
use Rattle.cov_pods.proofs.FoundFiles.{found_before}
use Rattle.cov_pods.proofs.group.add_counters.Given as goal

abbrev pub invariant-loop-name : goal.invariant-loop-name
invariant-loop-name l = (metas counters : List Found) → HoldsCounters metas counters l.initial.hashes l.initial.pods.items → HoldsCounters metas (counters ++ found_before counter_hash l.dir l.name-index) l.hashes l.pods.items
