use Rattle.std.proofs.Common.{◌≡◌, ℕ, ◌+◌, List, [], ◌++◌, map, take, drop, length, Ok}
use Rattle.go_types.specs.Checking.{and_then}
use Rattle.go_packages.specs.Bodies as spec
use Rattle.go_packages.proofs.bodies.Bodies.add_decls.Given as goal

abbrev pub invariant-loop-decl : goal.invariant-loop-decl
invariant-loop-decl l = spec.with_decls l.file l.decls l.fn.self ≡ spec.with_decls l.file (drop l.decl-index l.decls) l.self
