use Rattle.std.proofs.Common.{◌≡◌, ◌-◌, ◌+◌, drop, length}
use Rattle.go_step.proofs.values.further.Given as goal

abbrev pub invariant-loop-k : goal.invariant-loop-k
invariant-loop-k l = l.rest ≡ drop (length l.targets + 1 - l.k) l.targets
