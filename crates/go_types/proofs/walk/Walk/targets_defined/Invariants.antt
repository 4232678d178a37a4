use Rattle.std.proofs.Common.{◌≡◌, ◌++◌, drop, Ok}
use Rattle.go_types.specs.Checking.{and_then}
use Rattle.go_types.specs.Scopes as spec
use Rattle.go_types.proofs.walk.Walk.targets_defined.Given as goal

abbrev pub invariant-loop-name : goal.invariant-loop-name
invariant-loop-name l =
    spec.targets_defined l.names l.places l.types l.fn.self ≡ and_then (spec.targets_defined (drop l.name-index l.names) l.left l.kinds l.self) (λ r. Ok (l.targets ++ r.0, r.1))
