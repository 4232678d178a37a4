use Rattle.std.proofs.Common.{◌≡◌, ◌-◌, ◌^◌, min, take}
use Rattle.std.specs.Prelude.{sum_by}
use Rattle.gocov_tools.specs.Reading.{package_units}
use Rattle.gocov_tools.proofs.reading.count_units.Given as goal

abbrev pub invariant-loop-package : goal.invariant-loop-package
invariant-loop-package l = l.units ≡ min (sum_by package_units (take l.package-index l.meta.packages)) (2 ^ 64 - 1)
