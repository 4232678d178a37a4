use Rattle.std.proofs.Common.{rules, refl, ap, sym}
use Rattle.cov_cells.specs.Seats.{view, origin}
use Rattle.go_threads.proofs.Ending.{done}
use Rattle.go_threads.proofs.serving.serve.Goals as goal

pub returns-in-Ok-Ended : goal.returns-in-Ok-Ended
returns-in-Ok-Ended g c = record {
  between = c.turn.ensures.between;
  same = search rules;
  done = λ _. done c.args.cells.now c.args.program.now (origin c.args.cells.now).limits.steps (view c.loop.seat) c.turn.new.seat c.requires.program refl c.standing.ensures.over c.histories_grow.ensures.end c.histories_grow.ensures.begin c.turn.ensures.between c.turn.ensures.turn (search rules);
}
