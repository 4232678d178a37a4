use Rattle.std.proofs.Common.{◌≡◌, ℕ, ◌+◌, List, [], ◌++◌, map, take, drop, length, Ok}
use Rattle.go_types.specs.Checking.{and_then}
use Rattle.go_packages.specs.Variables as spec
use Rattle.go_packages.proofs.draft.Draft.pass_decls.Given as goal

abbrev pub invariant-loop-decl : goal.invariant-loop-decl
invariant-loop-decl l = spec.pass_decls l.files l.sources l.file l.decls l.fn.self ≡ spec.pass_decls l.files l.sources l.file (drop l.decl-index l.decls) l.self
