use Rattle.std.proofs.Common.{◌≡◌, ◌++◌, drop, Ok}
use Rattle.go_types.specs.Checking.{and_then}
use Rattle.go_types.specs.Bodies as spec
use Rattle.go_types.proofs.clause.case_values.Given as goal

abbrev pub invariant-loop-e : goal.invariant-loop-e
invariant-loop-e l =
    spec.case_values l.of l.fn.seen l.es l.fn.walk ≡ and_then (spec.case_values l.of l.seen (drop l.e-index l.es) l.walk) (λ r. Ok ((l.codes ++ r.0.0, r.0.1), r.1))
