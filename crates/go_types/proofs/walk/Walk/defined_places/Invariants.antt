use Rattle.std.proofs.Common.{◌≡◌, ◌++◌, drop, Ok}
use Rattle.go_types.specs.Checking.{and_then}
use Rattle.go_types.specs.Scopes as spec
use Rattle.go_types.proofs.walk.Walk.defined_places.Given as goal

abbrev pub invariant-loop-name : goal.invariant-loop-name
invariant-loop-name l =
    spec.defined_places l.names l.self ≡ and_then (spec.defined_places (drop l.name-index l.names) l.self) (λ r. Ok (l.places ++ r.0, r.1))
