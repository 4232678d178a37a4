use Rattle.std.proofs.Common.{rules, refl}
use Rattle.cov_cells.specs.Seats.{view, origin}
use Rattle.go_threads.proofs.Ending.{done}
use Rattle.go_threads.proofs.rounds.has_ended.Goals as goal

pub returns-in-Ended-clause-done : goal.returns-in-Ended-clause-done
returns-in-Ended-clause-done g c = λ _. done c.args.cells.now c.args.program.now (origin c.args.cells.now).limits.steps (view c.args.seat.now) c.turn.new.seat c.requires.program refl c.standing.ensures.over c.histories_grow.ensures.end c.histories_grow.ensures.begin c.turn.ensures.between c.turn.ensures.turn (search rules)
