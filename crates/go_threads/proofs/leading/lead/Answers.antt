use Rattle.std.proofs.Common.{rules, arith, refl, sym, ap, ◌∙◌, ◌≡◌}
use Rattle.cov_cells.specs.declared.view.View.{View}
use Rattle.cov_cells.specs.Steps.{after_split}
use Rattle.cov_cells.specs.Seats.{view, origin}
use Rattle.go_threads.proofs.FirstSeat.{end_of, finished, may_return, may_split, nobody}
use Rattle.go_threads.proofs.leading.lead.Goals as goal

pub give_turn-requires-clause-run : goal.give_turn-requires-clause-run
give_turn-requires-clause-run g c = may_split (origin c.args.cells.now) _ _ _ _ c.requires.origin (c.split-new.ensures.view ∙ ap after_split c.take_turn-run.ensures.view) c.take_turn-run.ensures.run c.split-new.ensures.run c.requires.pending

pub give_turn-requires-clause-due : goal.give_turn-requires-clause-due
give_turn-requires-clause-due g c = nobody _ _ _ (ap (λ (x : View). x.number) (c.split-new.ensures.view ∙ ap after_split c.take_turn-run.ensures.view) ∙ c.requires.number)

pub give_turn-requires-2-clause-run : goal.give_turn-requires-2-clause-run
give_turn-requires-2-clause-run g c = may_return (origin c.args.cells.now) _ _ c.take_turn-run.result c.take_turn-run.result c.take_turn-run.result.refused c.requires.origin c.take_turn-run.ensures.view c.take_turn-run.ensures.run refl c.requires.pending

pub give_turn-requires-2-clause-due : goal.give_turn-requires-2-clause-due
give_turn-requires-2-clause-due g c = nobody _ _ _ (ap (λ (x : View). x.number) c.take_turn-run.ensures.view ∙ c.requires.number)

pub returns-clause-finished : goal.returns-clause-finished
returns-clause-finished g c = λ is. let run = c.take_turn-run.result in
    finished c.args.cells.now c.give_turn-2.new.seat (view c.args.seat.now) run c.requires.origin c.take_turn-run.ensures.run c.requires.number
    (ap (λ (x : View). x.given) c.give_turn-2.ensures.view)
    (ap (λ (x : View). x.made) (c.give_turn-2.ensures.view) ∙ ap (λ (x : View). x.made) c.take_turn-run.ensures.view)
    c.known.ensures.history
    (end_of run.program run.limits.steps run.history c.end.result c.end.ensures (sym c.is_some-ended.ensures ∙ is))
    (let a = c.known.ensures.served in let b = c.if-served-goroutines.false in let s = c.served.ensures in let t = c.goroutines.ensures in omega (arith, a, b, s, t))
