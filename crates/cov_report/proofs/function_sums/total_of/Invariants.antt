use Rattle.std.proofs.Common.{◌≡◌, ◌+◌, ◌*◌, ◌^◌, ◌≤◌, drop}
use Rattle.cov_report.specs.Shares.{statements_of, covered_of}
use Rattle.cov_report.specs.TextProfile.{kept_units}
use Rattle.cov_report.proofs.function_sums.total_of.Given as goal

abbrev pub invariant-loop-i : goal.invariant-loop-i
invariant-loop-i l = record {
  statements : l.total.statements + statements_of (kept_units l.filter.patterns (drop l.i l.units)) ≡ statements_of (kept_units l.filter.patterns l.units);
  covered : l.total.covered + covered_of (kept_units l.filter.patterns (drop l.i l.units)) ≡ covered_of (kept_units l.filter.patterns l.units);
  few_statements : l.total.statements ≤ l.i * 2 ^ 32;
  few_covered : l.total.covered ≤ l.i * 2 ^ 32;
}
