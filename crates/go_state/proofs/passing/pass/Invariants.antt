use Rattle.std.proofs.Common.{◌<◌, ◌≤◌, length}
use Rattle.go_state.specs.Schedule.{IsAt}
use Rattle.go_state.proofs.Distances.{distance}
use Rattle.go_state.proofs.passing.pass.Given as goal

abbrev pub invariant-loop-at : goal.invariant-loop-at
invariant-loop-at l = record {
  at : IsAt l.run l.at 0;
  some : 0 < l.at;
  there : l.at ≤ length l.config.goroutines;
}

abbrev pub decreases-loop-at : goal.decreases-loop-at
decreases-loop-at l = distance l.at l.target
