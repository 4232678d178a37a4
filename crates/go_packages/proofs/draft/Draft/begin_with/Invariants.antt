use Rattle.std.proofs.Common.{◌≡◌, ℕ, ◌+◌, List, [], ◌++◌, map, take, drop, length, Ok}
use Rattle.go_types.specs.Checking.{and_then}
use Rattle.go_packages.specs.Variables as spec
use Rattle.go_packages.proofs.draft.Draft.begin_with.Given as goal

abbrev pub invariant-loop-name : goal.invariant-loop-name
invariant-loop-name l = spec.begin_each l.wanted l.names l.initial.arguments l.values l.initial.self ≡ spec.begin_each l.wanted (drop l.name-index l.names) l.arguments l.left l.self
