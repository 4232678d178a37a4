use Rattle.std.proofs.Common.{◌≡◌, List, ◌++◌, Some, None, ap, subst, ◌∙◌}
use Rattle.cov_pods.specs.Names.{counter_hash}
use Rattle.cov_pods.specs.Pods.{Found, HoldsCounters}
use Rattle.cov_pods.proofs.FoundFiles.{found_before, named, unnamed}
use Rattle.cov_pods.proofs.group.add_counters.Goals as goal
use Rattle.cov_pods.proofs.group.add_counters.Goals.{in-Some+in_ok-add_counter, in_default}

pub loop-name-preserved : goal.loop-name-preserved
loop-name-preserved c = λ metas counters h.
    let held = c.loop-name.invariant metas counters h in
    let before = found_before counter_hash c.args.dir.now c.loop-name.name-index in
    elim c.match-counter_hash.branch [
      | in-Some+in_ok-add_counter w ↦
          let has : Some w.in-Some.hash.now ≡ counter_hash c.name-item.result = w.in-Some.ensures ∙ ap counter_hash c.bytes.ensures in
          subst (λ (t : List Found). HoldsCounters metas t c.match-counter_hash.hashes c.match-counter_hash.pods.items)
          (named counters counter_hash c.args.dir.now c.as_slice-name-items.result.now c.loop-name.name-index c.name-item.result w.in-Some.hash.now c.as_slice-name-items.ensures c.loop-name-test.true c.name-item.is has)
          (rw (w.hashes-is, w.pods-is) (w.in_ok-add_counter.ensures metas (counters ++ before) held))
      | in_default w ↦
          let has : None ≡ counter_hash c.name-item.result = w.in_default.ensures ∙ ap counter_hash c.bytes.ensures in
          subst (λ (t : List Found). HoldsCounters metas t c.match-counter_hash.hashes c.match-counter_hash.pods.items)
          (unnamed counters counter_hash c.args.dir.now c.as_slice-name-items.result.now c.loop-name.name-index c.name-item.result c.as_slice-name-items.ensures c.loop-name-test.true c.name-item.is has)
          (rw (w.hashes-is, w.pods-is) held)
    ]
