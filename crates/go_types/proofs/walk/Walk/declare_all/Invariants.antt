use Rattle.std.proofs.Common.{◌≡◌, ◌++◌, drop, Ok}
use Rattle.go_types.specs.Checking.{and_then}
use Rattle.go_types.specs.Scopes as spec
use Rattle.go_types.proofs.walk.Walk.declare_all.Given as goal

abbrev pub invariant-loop-name : goal.invariant-loop-name
invariant-loop-name l =
    spec.declare_all l.names l.types l.fn.self ≡ and_then (spec.declare_all (drop l.name-index l.names) l.left l.self) (λ r. Ok (l.targets ++ r.0, r.1))
