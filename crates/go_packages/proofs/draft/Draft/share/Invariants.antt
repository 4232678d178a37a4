use Rattle.std.proofs.Common.{◌≡◌, ℕ, ◌+◌, List, [], ◌++◌, map, take, drop, length, Ok}
use Rattle.go_types.specs.Checking.{and_then}
use Rattle.go_packages.specs.Variables as spec
use Rattle.go_packages.proofs.draft.Draft.share.Given as goal

abbrev pub invariant-loop-name : goal.invariant-loop-name
invariant-loop-name l = spec.share l.of l.names l.fn.self ≡ spec.share l.of (drop l.name-index l.names) l.self
