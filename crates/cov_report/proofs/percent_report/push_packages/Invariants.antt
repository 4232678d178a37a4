use Rattle.std.proofs.Common.{◌≡◌, ◌++◌, ◌≤◌, ℕ, List, drop}
use Rattle.std.specs.Prelude.{slice_get, Some}
use Rattle.std.specs.List.{flat_map}
use Rattle.cov_report.specs.Packages.{kept_packages}
use Rattle.cov_report.specs.Shares.{units_of, percent_line}
use Rattle.cov_report.proofs.percent_report.push_packages.Given as goal

abbrev pub invariant-loop-i : goal.invariant-loop-i
invariant-loop-i l = record {
  lines : l.text.items ++ flat_map (percent_line l.units) (kept_packages l.filter.patterns (drop l.i l.packages)) ≡ l.fn.text.items ++ flat_map (percent_line l.units) (kept_packages l.filter.patterns l.packages);
  ahead : (k : ℕ) (p : List ℕ × (List ℕ × List ℕ)) → l.i ≤ k → Some p ≡ slice_get l.packages k → units_of p.0 (drop l.at l.units) ≡ units_of p.0 l.units;
}
