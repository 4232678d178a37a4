use Rattle.std.proofs.Common.{◌≡◌, ℕ, ◌+◌, ◌<◌, vec_len, length, get_or}
use Rattle.cov_cells.specs.Seats.{view}
use Rattle.go_threads.specs.Seats.{Leads}
use Rattle.go_threads.specs.Starts.{Starts, number_of}
use Rattle.go_threads.proofs.starting.start_all.Given as goal

abbrev pub invariant-loop : goal.invariant-loop
invariant-loop g l =
    (goal.iterator-loop g).can_next l.iterator' × (goal.iterator-loop g).is_finite l.iterator'
    × Leads l.cells l.seat × ((view l.seat).gathered ≡ 0) × ((view l.seat).made ≡ vec_len l.started)
    × ((k : ℕ) (d : _) → k < length l.started.items → Starts l.cells (get_or l.started.items k d) × (number_of (get_or l.started.items k d) ≡ k + 1))
