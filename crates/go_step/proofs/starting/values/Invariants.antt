use Rattle.std.proofs.Common.{◌≡◌, ◌++◌, drop}
use Rattle.go_meaning.specs.Histories.{start_values}
use Rattle.go_step.proofs.starting.values.Given as goal

abbrev pub invariant-loop-variable : goal.invariant-loop-variable
invariant-loop-variable l = l.all ++ start_values l.made (drop l.variable-index l.variables) ≡ start_values 0 l.variables
