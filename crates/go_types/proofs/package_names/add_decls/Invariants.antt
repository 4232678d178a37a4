use Rattle.std.proofs.Common.{◌≡◌, ◌++◌, map, take, drop, length}
use Rattle.std.specs.Prelude.{flat_map, []}
use Rattle.go_types.specs.Packages as spec
use Rattle.go_types.proofs.package_names.add_decls.Given as goal

abbrev pub invariant-loop-decl : goal.invariant-loop-decl
invariant-loop-decl l = l.all ≡ l.fn.all ++ flat_map (spec.declared_by l.file) (take l.decl-index l.decls)
