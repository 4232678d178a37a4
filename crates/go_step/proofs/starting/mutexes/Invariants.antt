use Rattle.std.proofs.Common.{◌≡◌, ◌++◌, drop}
use Rattle.go_meaning.specs.Histories.{start_mutexes}
use Rattle.go_step.proofs.starting.mutexes.Given as goal

abbrev pub invariant-loop-variable : goal.invariant-loop-variable
invariant-loop-variable l = l.all ++ start_mutexes (drop l.variable-index l.variables) ≡ start_mutexes l.variables
