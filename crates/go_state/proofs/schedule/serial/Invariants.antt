use Rattle.std.proofs.Common.{None}
use Rattle.go_state.specs.Remaining.{remaining}
use Rattle.go_state.specs.Runs.{IsFresh}
use Rattle.go_state.specs.Schedule.{IsAt, IsNumber, EndsBy, CanPass}
use Rattle.go_state.proofs.schedule.serial.Given as goal

abbrev pub invariant-loop-run : goal.invariant-loop-run
invariant-loop-run l = record {
  started : IsFresh l.program l.fn.limits l.run;
  at : IsAt l.run l.now l.taken;
  number : IsNumber l.run l.now;
  passes : EndsBy l.run None → CanPass l.run l.now l.taken;
}

abbrev pub decreases-loop-run : goal.decreases-loop-run
decreases-loop-run l = remaining l.run
