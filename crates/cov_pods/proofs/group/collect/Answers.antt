use Rattle.std.proofs.Common.{◌≡◌, List, All, take, map, ap, ◌∙◌, subst, sym}
use Rattle.std.proofs.lemmas.List.{take_all}
use Rattle.cov_pods.specs.declared.pod.DirNames.{DirNames}
use Rattle.cov_pods.specs.Names.{meta_hash, counter_hash}
use Rattle.cov_pods.specs.Paths.{HasTextPaths}
use Rattle.cov_pods.specs.Pods.{found, firsts, pod_of, pods_of}
use Rattle.cov_pods.proofs.FoundFiles.{dir_more}
use Rattle.cov_pods.proofs.Passes.{counters_none}
use Rattle.cov_pods.proofs.TextPaths.{pods_utf8}
use Rattle.cov_pods.proofs.group.collect.Goals as goal

pub loop-dir-init : goal.loop-dir-init
loop-dir-init c = counters_none (found meta_hash c.args.dirs.now) c.metas_of.new.hashes c.in_ok-pods.pods.items (c.in_ok-pods.ensures c.new-hashes.ensures)

pub loop-dir-preserved : goal.loop-dir-preserved
loop-dir-preserved c =
    rw (dir_more counter_hash c.args.dirs.now c.loop-dir.dir-index c.dir-item.result c.loop-dir-test.true c.dir-item.is) (c.in_ok-add_counters.ensures (found meta_hash c.args.dirs.now) (found counter_hash (take c.loop-dir.dir-index c.args.dirs.now)) c.loop-dir.invariant)

pub returns : goal.returns
returns c =
    let dirs = c.args.dirs.now in
    let all : take c.loop-dir.dir-index dirs ≡ dirs = take_all c.loop-dir.dir-index dirs c.loop-dir-test.false in
    let exact : c.loop-dir.pods.items ≡ pods_of dirs = c.loop-dir.invariant.pods_are ∙ ap (λ (t : List DirNames). map (pod_of (found counter_hash t)) (firsts (found meta_hash dirs))) all in
    record {
      pods = exact;
      utf8 = λ texts. subst (All HasTextPaths) (sym exact) (pods_utf8 dirs texts);
    }
