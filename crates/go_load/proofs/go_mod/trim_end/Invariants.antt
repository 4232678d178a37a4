use Rattle.std.proofs.Common.{◌≡◌, ◌≤◌, length, take}
use Rattle.go_load.specs.GoMod as spec
use Rattle.go_load.proofs.go_mod.trim_end.Given as goal

abbrev pub invariant-loop-end : goal.invariant-loop-end
invariant-loop-end l = record {
  within : l.end ≤ length l.bytes;
  same : spec.trimmed_end l.bytes ≡ spec.trimmed_end (take l.end l.bytes);
}

abbrev pub decreases-loop-end : goal.decreases-loop-end
decreases-loop-end l = l.end
