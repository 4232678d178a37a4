use Rattle.std.proofs.Common.{◌≡◌, ℕ, ◌+◌, List, [], ◌++◌, map, take, drop, length, Ok}
use Rattle.go_types.specs.Checking.{and_then}
use Rattle.go_packages.specs.Constants as spec
use Rattle.go_packages.proofs.draft.Draft.know_each.Given as goal

abbrev pub invariant-loop-place : goal.invariant-loop-place
invariant-loop-place l = spec.know_each l.files l.sources l.places l.fn.self ≡ spec.know_each l.files l.sources (drop l.place-index l.places) l.self
