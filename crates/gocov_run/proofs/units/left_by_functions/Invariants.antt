use Rattle.std.proofs.Common.{◌≡◌, ◌+◌, take}
use Rattle.gocov_run.specs.Units as spec
use Rattle.gocov_run.proofs.units.left_by_functions.Given as goal

abbrev pub invariant-loop-function : goal.invariant-loop-function
invariant-loop-function l = l.left + spec.units_in_functions (take l.function-index l.functions) ≡ l.many
