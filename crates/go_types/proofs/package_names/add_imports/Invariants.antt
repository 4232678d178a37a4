use Rattle.std.proofs.Common.{◌≡◌, ◌++◌, map, take, drop, length}
use Rattle.std.specs.Prelude.{flat_map, []}
use Rattle.go_types.specs.Packages as spec
use Rattle.go_types.proofs.package_names.add_imports.Given as goal

abbrev pub invariant-loop-import : goal.invariant-loop-import
invariant-loop-import l = l.all ≡ l.fn.all ++ map (spec.declared_import l.before l.file) (take l.import-index l.imports)
