use Rattle.go_state.specs.Schedule.{Extends}
use Rattle.go_state.proofs.Dues.{Counted}
use Rattle.go_state.proofs.schedule.count_rest.Given as goal

abbrev pub invariant-loop-i : goal.invariant-loop-i
invariant-loop-i l = record {
  extends : Extends l.fn.run l.run;
  counted : Counted l.fn.run.program l.fn.run.history l.run.history l.i;
}
