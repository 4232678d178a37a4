use Rattle.std.proofs.Common.{◌≡◌, ◌++◌, drop}
use Rattle.std.specs.List.{flat_map}
use Rattle.cov_report.specs.Packages.{path_line, kept_packages}
use Rattle.cov_report.proofs.package_list.push_packages.Given as goal

abbrev pub invariant-loop-i : goal.invariant-loop-i
invariant-loop-i l =
    l.text.items ++ flat_map path_line (kept_packages l.filter.patterns (drop l.i l.packages)) ≡ l.fn.text.items ++ flat_map path_line (kept_packages l.filter.patterns l.packages)
