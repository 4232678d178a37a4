use Rattle.std.proofs.Common.{◌≡◌, ◌++◌, drop, Ok, true}
use Rattle.go_ast.specs.declared.expr.Expr.{Expr}
use Rattle.go_types.specs.Checking.{and_then}
use Rattle.go_types.specs.Expressions as spec
use Rattle.go_types.proofs.check.+check.Given as goal

abbrev pub invariant-check_values-loop-e : goal.invariant-check_values-loop-e
invariant-check_values-loop-e l =
    spec.values_of Expr spec.check l.es l.names l.fn.marks ≡ and_then (spec.values_of Expr spec.check (drop l.e-index l.es) l.names l.marks) (λ r. Ok (l.values.items ++ r.0, r.1))

abbrev pub invariant-check_parts-loop-e : goal.invariant-check_parts-loop-e
invariant-check_parts-loop-e l =
    spec.parts_of Expr spec.check true l.es l.names l.fn.marks ≡ and_then (spec.parts_of Expr spec.check l.may (drop l.e-index l.es) l.names l.marks) (λ r. Ok (l.parts.items ++ r.0, r.1))
