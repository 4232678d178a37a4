use Rattle.std.proofs.Common.{◌≡◌, ◌++◌, drop, map}
use Rattle.go_types.specs.Scopes as spec
use Rattle.go_types.proofs.target.old_targets.Given as goal

abbrev pub invariant-loop-place : goal.invariant-loop-place
invariant-loop-place l = map spec.old_target l.places ≡ l.targets ++ map spec.old_target (drop l.place-index l.places)
