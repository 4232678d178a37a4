use Rattle.std.proofs.Common.{◌≡◌, ap, ◌∙◌, true, false, rules}
use Rattle.cov_bytes.specs.Intern.{with_text}
use Rattle.go_load.specs.Paths as paths
use Rattle.go_load.proofs.Imports.{met_more, not_met}
use Rattle.go_load.proofs.discovery.meet_imports.Goals as goal
use Rattle.go_load.proofs.discovery.meet_imports.Goals.{then-is_own+in_ok-meet, else-is_own}

pub loop-import-preserved : goal.loop-import-preserved
loop-import-preserved c =
    let own = paths.is_own c.args.home.now.path in
    let x = c.import-item.result in
    let i = c.loop-import.import-index in
    elim c.if-is_own.branch [
      | then-is_own+in_ok-meet w ↦
          let is_ours : own x.path ≡ true = search rules in
          let meets : c.if-is_own.met ≡ with_text c.loop-import.met x.path = w.met-is ∙ w.in_ok-meet.ensures ∙ ap (with_text c.loop-import.met) c.bytes-path.ensures in
          met_more own (λ j. j.path) c.args.imports.now i x c.args.met.now c.loop-import.met c.if-is_own.met c.loop-import-test.true c.import-item.is is_ours c.loop-import.invariant meets
      | else-is_own w ↦
          let is_other : own x.path ≡ false = search rules in
          w.met-is ∙ not_met own (λ j. j.path) c.args.imports.now i x c.args.met.now c.loop-import.met c.loop-import-test.true c.import-item.is is_other c.loop-import.invariant
    ]
