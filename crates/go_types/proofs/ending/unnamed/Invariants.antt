use Rattle.std.proofs.Common.{◌≡◌, drop}
use Rattle.go_types.specs.Endings as spec
use Rattle.go_types.proofs.ending.unnamed.Given as goal

abbrev pub invariant-loop-was_named : goal.invariant-loop-was_named
invariant-loop-was_named l = spec.unnamed l.named l.labels ≡ spec.unnamed (drop l.was_named-index l.named) l.left
