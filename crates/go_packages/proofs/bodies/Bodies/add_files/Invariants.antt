use Rattle.std.proofs.Common.{◌≡◌, ℕ, ◌+◌, List, [], ◌++◌, map, take, drop, length, Ok}
use Rattle.go_types.specs.Checking.{and_then}
use Rattle.go_packages.specs.Bodies as spec
use Rattle.go_packages.proofs.bodies.Bodies.add_files.Given as goal

abbrev pub invariant-loop-number : goal.invariant-loop-number
invariant-loop-number l = spec.with_files l.imports 0 l.files l.fn.self ≡ spec.with_files l.imports l.number (drop l.number l.files) l.self
