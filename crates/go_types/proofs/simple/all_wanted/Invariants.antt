use Rattle.std.proofs.Common.{◌≡◌, ◌++◌, drop, map, Some}
use Rattle.go_types.specs.declared.types.ValueType.{ValueType}
use Rattle.go_types.proofs.simple.all_wanted.Given as goal

abbrev pub invariant-loop-of : goal.invariant-loop-of
invariant-loop-of l = map (λ (t : ValueType). Some t) l.types ≡ l.wanted ++ map (λ (t : ValueType). Some t) (drop l.of-index l.types)
