use Rattle.std.proofs.Common.{◌≡◌, ◌++◌, drop, Ok}
use Rattle.go_types.specs.Checking.{and_then}
use Rattle.go_types.specs.Statements as statements
use Rattle.go_types.proofs.declaration.var_specs.Given as goal

abbrev pub invariant-loop-one : goal.invariant-loop-one
invariant-loop-one l =
    statements.var_specs l.at l.specs l.fn.walk ≡ and_then (statements.var_specs l.at (drop l.one-index l.specs) l.walk) (λ r. Ok (l.all ++ r.0, r.1))
