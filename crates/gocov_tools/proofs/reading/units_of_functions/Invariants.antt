use Rattle.std.proofs.Common.{◌≡◌, ◌-◌, ◌^◌, min, take, length}
use Rattle.std.specs.Prelude.{sum_by}
use Rattle.gocov_tools.proofs.reading.units_of_functions.Given as goal

abbrev pub invariant-loop-function : goal.invariant-loop-function
invariant-loop-function l = l.units ≡ min (sum_by (λ f. length f.units) (take l.function-index l.functions)) (2 ^ 64 - 1)
