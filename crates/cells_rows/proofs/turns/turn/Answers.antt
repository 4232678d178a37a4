use Rattle.std.proofs.Common.{ap, ◌∙◌}
use Rattle.cov_cells.specs.declared.view.View.{View}
use Rattle.cov_cells.specs.Seats.{origin}
use Rattle.cells_rows.proofs.Giving.{may_give}
use Rattle.cells_rows.proofs.turns.turn.Goals as goal

pub give_turn-requires-clause-run : goal.give_turn-requires-clause-run
give_turn-requires-clause-run g c = may_give (origin c.args.cells.now) _ _ _ _ _ _ c.requires.between.origin c.take_turn-run.ensures.view c.take_turn-run.ensures.run c.in_ok-recorded.ensures.run (c.pending-pending.ensures ∙ ap (λ (x : View). x.pending) c.take_turn-run.ensures.view) (c.number-number.ensures ∙ ap (λ (x : View). x.number) c.take_turn-run.ensures.view) c.in_ok-recorded.ensures.room
