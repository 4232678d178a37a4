use Rattle.std.proofs.Common.{◌≡◌, ap, ◌∙◌}
use Rattle.std.specs.Prelude.{slice_set}
use Rattle.go_step.specs.Goroutines.{holed}
use Rattle.go_step.proofs.Restored.{restored}
use Rattle.go_step.proofs.alone.begin_at.Goals as goal

pub returns : goal.returns
returns c =
    let config = c.args.config.now in
    let i = c.args.index in
    let go = c.replace-goroutine.result in
    let hole = c.empty_goroutine.result in
    let row : c.replace-hole.new.self ≡ config.goroutines =
    c.replace-hole.ensures.new ∙ ap (λ l. slice_set l i c.begin-done.new.goroutine) c.replace-goroutine.ensures.new ∙ ap (slice_set (slice_set config.goroutines i hole) i) c.in-Err.ensures.err ∙ restored config.goroutines i hole go c.replace-goroutine.ensures.old in
    ap (λ l. holed l config) row
