use Rattle.std.proofs.Common.{◌≡◌, Some, map}
use Rattle.go_load.proofs.loaded.slots_of.Given as goal

abbrev pub invariant-loop-found : goal.invariant-loop-found
invariant-loop-found l = l.slots.items ≡ map (λ found. Some found) l.yielded
