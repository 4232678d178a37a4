use Rattle.std.proofs.Common.{◌≡◌, ◌<◌, ◌≤◌, ◌⊎◌}
use Rattle.go_state.specs.Remaining.{remaining}
use Rattle.go_state.specs.Schedule.{Extends, IsAt, IsNumber}
use Rattle.go_state.proofs.turns.turn.Given as goal

abbrev pub invariant-loop-taken : goal.invariant-loop-taken
invariant-loop-taken l = record {
  extends : Extends l.fn.run l.run;
  at : IsAt l.run l.now l.taken;
  number : IsNumber l.run l.now;
  within : l.taken ≤ 1000;
  moved : ((l.run ≡ l.fn.run) × (l.taken ≡ 0)) ⊎ (remaining l.run < remaining l.fn.run);
}

abbrev pub decreases-loop-taken : goal.decreases-loop-taken
decreases-loop-taken l = remaining l.run
