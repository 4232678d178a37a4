use Rattle.std.proofs.Common.{◌≡◌}
use Rattle.std.specs.Vec.Iter.{into_iter_items}
use Rattle.go_reading.specs.Simple.{plains_of}
use Rattle.go_parse.proofs.Plains.{joined}
use Rattle.go_parse.proofs.targets.into_names.Given as goal

abbrev pub invariant-loop-target : goal.invariant-loop-target
invariant-loop-target l = plains_of l.fn.targets.items ≡ joined l.names (plains_of (into_iter_items l.target-iterator))
