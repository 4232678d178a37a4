use Rattle.std.proofs.Common.{take}
use Rattle.cov_pods.specs.Names.{meta_hash}
use Rattle.cov_pods.specs.Pods.{found}
use Rattle.cov_pods.proofs.FoundFiles.{dir_more}
use Rattle.cov_pods.proofs.group.metas_of.Goals as goal

pub loop-dir-preserved : goal.loop-dir-preserved
loop-dir-preserved c = λ empty.
    rw (dir_more meta_hash c.args.dirs.now c.loop-dir.dir-index c.dir-item.result c.loop-dir-test.true c.dir-item.is) (c.in_ok-add_metas.ensures (found meta_hash (take c.loop-dir.dir-index c.args.dirs.now)) (c.loop-dir.invariant empty))
