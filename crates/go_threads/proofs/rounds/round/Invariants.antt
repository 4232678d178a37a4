use Rattle.std.proofs.Common.{◌≡◌, ℕ, ◌-◌, ◌<◌, ◌≤◌, false, length, get_or}
use Rattle.go_threads.specs.Starts.{IsServed, Starts, number_of}
use Rattle.go_threads.proofs.rounds.round.Given as goal

abbrev pub invariant-loop-i : goal.invariant-loop-i
invariant-loop-i g l = record {
  low : l.i ≤ length l.started.items;
  same : length l.started.items ≡ length l.initial.started.items;
  starts : (k : ℕ) (d : _) → k < length l.started.items → Starts l.cells (get_or l.started.items k d);
  numbers : (k : ℕ) (d : _) → k < length l.started.items → number_of (get_or l.started.items k d) ≡ number_of (get_or l.initial.started.items k d);
  served : l.going ≡ false → (k : ℕ) (d : _) → k < l.i → IsServed l.cells (get_or l.started.items k d);
}

abbrev pub decreases-loop-i : goal.decreases-loop-i
decreases-loop-i g l = length l.started.items - l.i
