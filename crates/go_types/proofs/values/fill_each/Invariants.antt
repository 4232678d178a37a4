use Rattle.std.proofs.Common.{◌≡◌, ◌++◌, length, Ok}
use Rattle.go_types.specs.Checking.{and_then}
use Rattle.go_types.specs.Statements as spec
use Rattle.go_types.proofs.values.fill_each.Given as goal

abbrev pub invariant-loop-a : goal.invariant-loop-a
invariant-loop-a l =
    spec.fill_each l.wanted l.fn.of ≡ and_then (spec.fill_each l.left l.of) (λ f. Ok (record { codes = l.codes ++ f.codes; types = l.types ++ f.types }))

abbrev pub decreases-loop-a : goal.decreases-loop-a
decreases-loop-a l = length l.of
