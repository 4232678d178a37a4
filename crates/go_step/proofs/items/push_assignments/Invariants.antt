use Rattle.std.proofs.Common.{◌≡◌, ◌-◌, ◌++◌, flat_map, drop, length}
use Rattle.go_meaning.specs.Acts.{assignment}
use Rattle.go_step.proofs.items.push_assignments.Given as goal

abbrev pub invariant-loop-k : goal.invariant-loop-k
invariant-loop-k l = l.items ≡ flat_map assignment (drop (length l.assignments - l.k) l.assignments) ++ l.fn.items
