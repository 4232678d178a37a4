use Rattle.std.proofs.Common.{◌≡◌, ℕ, ◌+◌, List, [], ◌++◌, map, take, drop, length, Ok}
use Rattle.go_types.specs.Checking.{and_then}
use Rattle.go_packages.specs.Variables as spec
use Rattle.go_packages.proofs.draft.Draft.pass.Given as goal

abbrev pub invariant-loop-number : goal.invariant-loop-number
invariant-loop-number l = spec.pass_from l.files l.sources 0 l.files l.fn.self ≡ spec.pass_from l.files l.sources l.number (drop l.number l.files) l.self
