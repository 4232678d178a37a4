use Rattle.std.proofs.Common.{take}
use Rattle.cov_report.specs.TextProfile.{kept_units}
use Rattle.cov_report.specs.FunctionSums.{AreSums}
use Rattle.cov_report.proofs.function_sums.sum_functions.Given as goal

abbrev pub invariant-loop-i : goal.invariant-loop-i
invariant-loop-i l = AreSums (kept_units l.filter.patterns (take l.i l.units)) l.functions.entries
