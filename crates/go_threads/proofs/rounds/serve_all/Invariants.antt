use Rattle.std.proofs.Common.{◌≡◌, ℕ, ◌<◌, length, get_or}
use Rattle.go_threads.specs.Starts.{Starts, number_of}
use Rattle.go_threads.proofs.rounds.serve_all.Given as goal

abbrev pub invariant-loop : goal.invariant-loop
invariant-loop g l =
    (goal.iterator-loop g).can_next l.iterator' × (goal.iterator-loop g).is_finite l.iterator'
    × (length l.started.items ≡ length l.fn.started.items)
    × ((k : ℕ) (d : _) → k < length l.started.items → Starts l.cells (get_or l.started.items k d))
    × ((k : ℕ) (d : _) → k < length l.started.items → number_of (get_or l.started.items k d) ≡ number_of (get_or l.fn.started.items k d))
