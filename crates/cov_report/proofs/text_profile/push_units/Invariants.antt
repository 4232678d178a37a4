use Rattle.std.proofs.Common.{◌≡◌, ◌++◌, drop}
use Rattle.std.specs.List.{flat_map}
use Rattle.cov_report.specs.TextProfile.{unit_line, kept_units}
use Rattle.cov_report.proofs.text_profile.push_units.Given as goal

abbrev pub invariant-loop-i : goal.invariant-loop-i
invariant-loop-i l =
    l.text.items ++ flat_map unit_line (kept_units l.filter.patterns (drop l.i l.units)) ≡ l.fn.text.items ++ flat_map unit_line (kept_units l.filter.patterns l.units)
