use Rattle.cov_cells.specs.Seats.{view}
use Rattle.go_threads.specs.Seats.{IsBetween, IsSame}
use Rattle.go_threads.proofs.serving.serve.Given as goal

abbrev pub invariant-loop : goal.invariant-loop
invariant-loop g l =
    (goal.iterator-loop g).can_next l.iterator' × (goal.iterator-loop g).is_finite l.iterator'
    × IsBetween l.cells l.seat × IsSame (view l.fn.seat) (view l.seat)
