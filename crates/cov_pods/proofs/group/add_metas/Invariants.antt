use Rattle.std.proofs.Common.{List, ◌++◌}
use Rattle.cov_pods.specs.Names.{meta_hash}
use Rattle.cov_pods.specs.Pods.{Found, HoldsMetas}
use Rattle.cov_pods.proofs.FoundFiles.{found_before}
use Rattle.cov_pods.proofs.group.add_metas.Given as goal

abbrev pub invariant-loop-name : goal.invariant-loop-name
invariant-loop-name l = (metas : List Found) → HoldsMetas metas l.initial.hashes l.initial.pods.items → HoldsMetas (metas ++ found_before meta_hash l.dir l.name-index) l.hashes l.pods.items
