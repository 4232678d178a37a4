use Rattle.std.proofs.Common.{rules, arith, sym, ap, ◌∙◌}
use Rattle.cov_cells.specs.declared.view.View.{View}
use Rattle.cov_cells.specs.Rule.{due_after}
use Rattle.cov_cells.specs.Steps.{after_split}
use Rattle.cov_cells.specs.Seats.{origin}
use Rattle.cells_rows.proofs.Giving.{may_give_split}
use Rattle.cells_rows.proofs.Standing.{nobody}
use Rattle.cells_rows.proofs.turns.first_turn.Goals as goal

pub give_turn-requires-clause-run : goal.give_turn-requires-clause-run
give_turn-requires-clause-run g c = may_give_split (origin c.args.cells.now) _ _ _ _ c.requires.between.origin (c.split-worker.ensures.view ∙ ap after_split c.take_turn-run.ensures.view) c.take_turn-run.ensures.run c.split-worker.ensures.run c.requires.first.1

pub give_turn-requires-clause-due : goal.give_turn-requires-clause-due
give_turn-requires-clause-due g c = sym (ap (due_after _ _) (ap (λ (x : View). x.number) (c.split-worker.ensures.view ∙ ap after_split c.take_turn-run.ensures.view) ∙ c.requires.first.0) ∙ nobody _ _)
