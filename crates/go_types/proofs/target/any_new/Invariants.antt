use Rattle.std.proofs.Common.{◌≡◌, drop}
use Rattle.go_types.specs.Scopes as spec
use Rattle.go_types.proofs.target.any_new.Given as goal

abbrev pub invariant-loop-place : goal.invariant-loop-place
invariant-loop-place l = spec.any_new l.places ≡ spec.any_new (drop l.place-index l.places)
