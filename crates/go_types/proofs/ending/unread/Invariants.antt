use Rattle.std.proofs.Common.{◌≡◌, drop}
use Rattle.go_types.specs.Endings as spec
use Rattle.go_types.proofs.ending.unread.Given as goal

abbrev pub invariant-loop-was_read : goal.invariant-loop-was_read
invariant-loop-was_read l = spec.unread l.read l.declared ≡ spec.unread (drop l.was_read-index l.read) l.left
