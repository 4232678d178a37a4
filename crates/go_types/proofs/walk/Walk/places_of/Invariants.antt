use Rattle.std.proofs.Common.{◌≡◌, ◌++◌, drop, Ok}
use Rattle.go_types.specs.Checking.{and_then}
use Rattle.go_types.specs.Scopes as spec
use Rattle.go_types.proofs.walk.Walk.places_of.Given as goal

abbrev pub invariant-loop-target : goal.invariant-loop-target
invariant-loop-target l =
    spec.places_of l.targets l.fn.self ≡ and_then (spec.places_of (drop l.target-index l.targets) l.self) (λ r. Ok (l.places ++ r.0, r.1))
