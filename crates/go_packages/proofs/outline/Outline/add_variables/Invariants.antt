use Rattle.std.proofs.Common.{◌≡◌, ℕ, ◌+◌, List, [], ◌++◌, map, take, drop, length, Ok}
use Rattle.go_types.specs.Checking.{and_then}
use Rattle.go_packages.specs.Outlines as spec
use Rattle.go_packages.proofs.outline.Outline.add_variables.Given as goal

abbrev pub invariant-loop-name : goal.invariant-loop-name
invariant-loop-name l = spec.with_variables l.of l.names l.fn.self ≡ spec.with_variables l.of (drop l.name-index l.names) l.self
