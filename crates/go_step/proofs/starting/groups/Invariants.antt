use Rattle.std.proofs.Common.{◌≡◌, ◌++◌, drop}
use Rattle.go_meaning.specs.Histories.{start_groups}
use Rattle.go_step.proofs.starting.groups.Given as goal

abbrev pub invariant-loop-variable : goal.invariant-loop-variable
invariant-loop-variable l = l.all ++ start_groups (drop l.variable-index l.variables) ≡ start_groups l.variables
