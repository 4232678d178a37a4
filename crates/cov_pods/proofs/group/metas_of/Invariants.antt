use Rattle.std.proofs.Common.{◌≡◌, [], take}
use Rattle.cov_pods.specs.Names.{meta_hash}
use Rattle.cov_pods.specs.Pods.{found, HoldsMetas}
use Rattle.cov_pods.proofs.group.metas_of.Given as goal

abbrev pub invariant-loop-dir : goal.invariant-loop-dir
invariant-loop-dir l = l.initial.hashes ≡ [] → HoldsMetas (found meta_hash (take l.dir-index l.dirs)) l.hashes l.pods.items
