use Rattle.std.proofs.Common.{◌≡◌, drop}
use Rattle.go_types.specs.Statements as spec
use Rattle.go_types.proofs.values.fit_all.Given as goal

abbrev pub invariant-loop-of : goal.invariant-loop-of
invariant-loop-of l = spec.fit_all l.at l.types l.wanted ≡ spec.fit_all l.at (drop l.of-index l.types) l.left
