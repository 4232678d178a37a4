use Rattle.std.proofs.Common.{rules, ◌≡◌, ◌∙◌, sym, ap, subst}
use Rattle.cov_cells.specs.declared.view.View.{View}
use Rattle.cov_cells.specs.Seats.{origin, view}
use Rattle.go_threads.proofs.Giving.{found, may_give, whole}
use Rattle.go_threads.proofs.Recording.{below}
use Rattle.go_meaning.specs.WellFormed.{IsProgram}
use Rattle.cov_cells.specs.Steps.{after_count, after_give}
use Rattle.go_threads.proofs.turning.turn.Goals as goal

pub give_turn-requires-clause-run : goal.give_turn-requires-clause-run
give_turn-requires-clause-run g c = may_give (origin c.args.cells.now) _ _ _ _ _ _ _ _ _ c.requires.between.origin c.take_turn-run.ensures.view c.take_turn-run.ensures.run c.record.ensures c.advance.ensures
    (c.pending.ensures ∙ ap (λ (s : View). s.pending) c.take_turn-run.ensures.view) (c.number-goroutine.ensures ∙ ap (λ (s : View). s.number) c.take_turn-run.ensures.view)

pub count-requires-clause-below : goal.count-requires-clause-below
count-requires-clause-below g c = λ u e. let same : c.advance.new.run.program ≡ (origin c.args.cells.now).program = search rules in
    below (origin c.args.cells.now).program c.advance.new.run.program c.advance.new.run.history c.number-goroutine.result u c.standing.ensures.units (subst IsProgram c.requires.program c.known-2.ensures) same (sym c.due_in-due.ensures ∙ e)

pub returns-else-refused-clause-whole : goal.returns-else-refused-clause-whole
returns-else-refused-clause-whole g c = whole c.args.program.now (origin c.args.cells.now).limits.steps (view c.args.seat.now) (view c.count.new.seat) c.take_turn-run.result c.record.new.run c.advance.new.run c.number-goroutine.result c.pending.result c.due_in-due.result
    (c.count.ensures.view ∙ ap after_count (c.give_turn.ensures.view ∙ ap (λ v. after_give v c.advance.new.run c.due_in-due.result) c.take_turn-run.ensures.view)) c.record.ensures c.advance.ensures
    (c.pending.ensures ∙ ap (λ (s : View). s.pending) c.take_turn-run.ensures.view) (c.number-goroutine.ensures ∙ ap (λ (s : View). s.number) c.take_turn-run.ensures.view) (search rules) (search rules) (search rules)

pub returns-else-refused-clause-finds : goal.returns-else-refused-clause-finds
returns-else-refused-clause-finds g c = found c.args.program.now (origin c.args.cells.now).limits.steps (view c.count.new.seat).taken (view c.args.seat.now).number c.number-goroutine.result c.take_turn-run.result c.found-found.result c.found-found.ensures
    (search rules) (search rules) (search rules) (c.number-goroutine.ensures ∙ ap (λ (s : View). s.number) c.take_turn-run.ensures.view)
