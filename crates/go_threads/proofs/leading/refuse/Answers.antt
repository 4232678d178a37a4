use Rattle.std.proofs.Common.{rules, arith, refl, sym, ap, ◌∙◌, true}
use Rattle.cov_cells.specs.declared.view.View.{View}
use Rattle.cov_cells.specs.Seats.{view, origin}
use Rattle.go_threads.proofs.FirstSeat.{may_return, nobody}
use Rattle.go_threads.proofs.leading.refuse.Goals as goal

pub give_turn-requires-clause-run : goal.give_turn-requires-clause-run
give_turn-requires-clause-run g c = may_return (origin c.args.cells.now) _ _ c.take_turn-run.result c.refuse.new.self true c.requires.origin c.take_turn-run.ensures.view c.take_turn-run.ensures.run c.refuse.ensures c.requires.pending

pub give_turn-requires-clause-due : goal.give_turn-requires-clause-due
give_turn-requires-clause-due g c = nobody _ _ _ (ap (λ (x : View). x.number) c.take_turn-run.ensures.view ∙ c.requires.number)
