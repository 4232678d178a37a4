use Rattle.std.proofs.Common.{◌≡◌, ◌++◌, drop, map}
use Rattle.go_types.specs.Statements as spec
use Rattle.go_types.proofs.simple.wanted_types.Given as goal

abbrev pub invariant-loop-place : goal.invariant-loop-place
invariant-loop-place l = map spec.wanted_by l.places ≡ l.wanted ++ map spec.wanted_by (drop l.place-index l.places)
