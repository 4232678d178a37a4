use Rattle.std.proofs.Common.{◌≡◌, List, ◌++◌, Some, None, ap, subst, ◌∙◌}
use Rattle.cov_pods.specs.Names.{meta_hash}
use Rattle.cov_pods.specs.Pods.{Found, HoldsMetas}
use Rattle.cov_pods.proofs.FoundFiles.{found_before, named, unnamed}
use Rattle.cov_pods.proofs.group.add_metas.Goals as goal
use Rattle.cov_pods.proofs.group.add_metas.Goals.{in-Some+in_ok-add_meta, in_default}

pub loop-name-preserved : goal.loop-name-preserved
loop-name-preserved c = λ metas h.
    let held = c.loop-name.invariant metas h in
    let before = found_before meta_hash c.args.dir.now c.loop-name.name-index in
    elim c.match-meta_hash.branch [
      | in-Some+in_ok-add_meta w ↦
          let has : Some w.in-Some.hash.now ≡ meta_hash c.name-item.result = w.in-Some.ensures ∙ ap meta_hash c.bytes.ensures in
          subst (λ (t : List Found). HoldsMetas t c.match-meta_hash.hashes c.match-meta_hash.pods.items)
          (named metas meta_hash c.args.dir.now c.as_slice-name-items.result.now c.loop-name.name-index c.name-item.result w.in-Some.hash.now c.as_slice-name-items.ensures c.loop-name-test.true c.name-item.is has)
          (rw (w.hashes-is, w.pods-is) (w.in_ok-add_meta.ensures (metas ++ before) held))
      | in_default w ↦
          let has : None ≡ meta_hash c.name-item.result = w.in_default.ensures ∙ ap meta_hash c.bytes.ensures in
          subst (λ (t : List Found). HoldsMetas t c.match-meta_hash.hashes c.match-meta_hash.pods.items)
          (unnamed metas meta_hash c.args.dir.now c.as_slice-name-items.result.now c.loop-name.name-index c.name-item.result c.as_slice-name-items.ensures c.loop-name-test.true c.name-item.is has)
          (rw (w.hashes-is, w.pods-is) held)
    ]
