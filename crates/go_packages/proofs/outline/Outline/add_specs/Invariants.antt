use Rattle.std.proofs.Common.{◌≡◌, ℕ, ◌+◌, List, [], ◌++◌, map, take, drop, length, Ok}
use Rattle.go_types.specs.Checking.{and_then}
use Rattle.go_packages.specs.Outlines as spec
use Rattle.go_packages.proofs.outline.Outline.add_specs.Given as goal

abbrev pub invariant-loop-one : goal.invariant-loop-one
invariant-loop-one l = spec.with_specs l.specs l.fn.self ≡ spec.with_specs (drop l.one-index l.specs) l.self
