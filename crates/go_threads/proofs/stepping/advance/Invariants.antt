use Rattle.std.proofs.Common.{◌≡◌, ◌≤◌, List, length}
use Rattle.go_meaning.specs.declared.event.Event.{Event}
use Rattle.go_state.specs.Runs.{goroutines_after}
use Rattle.go_threads.specs.Turns.{Grows, OwnSteps}
use Rattle.go_threads.proofs.stepping.advance.Given as goal

abbrev pub invariant-loop : goal.invariant-loop
invariant-loop l = (steps : List Event) × Grows l.initial.run steps l.run × OwnSteps l.goroutine steps × (length steps ≡ l.counter) × (l.goroutine ≤ goroutines_after l.run.program l.run.history)
