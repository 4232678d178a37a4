use Rattle.std.proofs.Common.{◌≡◌, ◌++◌, drop}
use Rattle.go_meaning.specs.Histories.{start_channels}
use Rattle.go_step.proofs.starting.channels.Given as goal

abbrev pub invariant-loop-variable : goal.invariant-loop-variable
invariant-loop-variable l = l.all ++ start_channels (drop l.variable-index l.variables) ≡ start_channels l.variables
