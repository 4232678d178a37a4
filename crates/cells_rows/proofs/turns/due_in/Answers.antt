use Rattle.std.proofs.Common.{refl, sym, ap, ◌∙◌, ◌-◌}
use Rattle.std.specs.Prelude.{slice_get}
use Rattle.go_meaning.specs.Steps.{due}
use Rattle.cells_rows.proofs.Standing.{due_at}
use Rattle.cells_rows.proofs.turns.due_in.Goals as goal

pub returns : goal.returns
returns c = c.due_of.ensures ∙ ap (λ p. due p (slice_get c.config.result.now.goroutines (c.args.goroutine - 1))) c.requires.program
    ∙ sym (due_at c.args.run.now.program c.args.run.now.history c.config.result.now c.args.goroutine _ c.requires.number c.config.ensures refl)
