use Rattle.std.proofs.Common.{◌≡◌, ◌++◌, map, take, drop, length}
use Rattle.std.specs.Prelude.{flat_map, []}
use Rattle.go_types.specs.Packages as spec
use Rattle.go_types.proofs.package_names.add_consts.Given as goal

abbrev pub invariant-loop-one : goal.invariant-loop-one
invariant-loop-one l = l.all ≡ l.fn.all ++ map (spec.declared_const l.file) (take l.one-index l.specs)
