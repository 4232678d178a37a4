use Rattle.std.proofs.Common.{take}
use Rattle.cov_pods.specs.Names.{meta_hash, counter_hash}
use Rattle.cov_pods.specs.Pods.{found, HoldsCounters}
use Rattle.cov_pods.proofs.group.collect.Given as goal

abbrev pub invariant-loop-dir : goal.invariant-loop-dir
invariant-loop-dir l = HoldsCounters (found meta_hash l.dirs) (found counter_hash (take l.dir-index l.dirs)) l.hashes l.pods.items
