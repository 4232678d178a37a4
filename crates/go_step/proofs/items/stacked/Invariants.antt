use Rattle.std.proofs.Common.{◌≡◌, ◌-◌, drop, length}
use Rattle.go_step.proofs.items.stacked.Given as goal

abbrev pub invariant-loop-k : goal.invariant-loop-k
invariant-loop-k l = l.stack ≡ drop (length l.targets - l.k) l.targets
