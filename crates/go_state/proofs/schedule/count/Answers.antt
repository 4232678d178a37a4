use Rattle.std.proofs.Common.{◌∙◌, ap, sym}
use Rattle.go_meaning.specs.Programs.{Parts}
use Rattle.go_meaning.specs.Steps.{due, numbered}
use Rattle.go_state.proofs.Scheduling.{can_count}
use Rattle.go_state.proofs.schedule.count.Goals as goal

pub advance-requires-clause-can : goal.advance-requires-clause-can
advance-requires-clause-can c = can_count c.args.run.now c.config.result.now c.args.goroutine c.in-Some.unit c.known.ensures.history c.config.ensures (ap (λ (P : Parts). due P (numbered c.config.result.now c.args.goroutine)) (sym c.requires.same) ∙ sym c.in-Some.ensures)
