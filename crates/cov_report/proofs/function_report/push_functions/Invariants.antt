use Rattle.std.proofs.Common.{◌≡◌, ◌++◌, All, map}
use Rattle.std.specs.List.{flat_map}
use Rattle.cov_report.specs.FunctionSums.{named_sum, sum_line, IsSmall}
use Rattle.cov_report.proofs.function_report.push_functions.Given as goal

abbrev pub invariant-loop-name : goal.invariant-loop-name
invariant-loop-name l = record {
  lines : l.text.items ++ flat_map sum_line (map named_sum l.name-iterator) ≡ l.fn.text.items ++ flat_map sum_line (map named_sum l.functions.entries);
  small : All (λ e. IsSmall e.1) l.name-iterator;
}
