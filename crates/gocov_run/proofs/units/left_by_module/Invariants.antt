use Rattle.std.proofs.Common.{◌≡◌, ◌+◌, take}
use Rattle.std.specs.Prelude.{sum_by}
use Rattle.gocov_run.specs.Units as spec
use Rattle.gocov_run.proofs.units.left_by_module.Given as goal

abbrev pub invariant-loop-package : goal.invariant-loop-package
invariant-loop-package l = l.left + sum_by spec.units_in_package (take l.package-index l.package-items) ≡ l.many
