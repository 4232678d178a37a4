use Rattle.std.proofs.Common.{◌≡◌, ◌++◌, map, take, drop, length}
use Rattle.std.specs.Prelude.{flat_map, []}
use Rattle.go_types.specs.Packages as spec
use Rattle.go_types.proofs.package_names.add_names.Given as goal

abbrev pub invariant-loop-name : goal.invariant-loop-name
invariant-loop-name l = l.all ≡ l.fn.all ++ map (spec.declared_name l.file) (take l.name-index l.names)
