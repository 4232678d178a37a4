use Rattle.std.proofs.Common.{◌≡◌, ◌++◌, map, take, drop, length}
use Rattle.std.specs.Prelude.{flat_map, []}
use Rattle.go_types.specs.Packages as spec
use Rattle.go_types.proofs.package_names.declared_in.Given as goal

abbrev pub invariant-loop-number : goal.invariant-loop-number
invariant-loop-number l = spec.declared_from l.before 0 l.files ≡ l.all ++ spec.declared_from l.before l.number (drop l.number l.files)
