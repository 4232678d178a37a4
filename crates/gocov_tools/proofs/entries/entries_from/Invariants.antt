use Rattle.std.proofs.Common.{◌≡◌, take}
use Rattle.std.specs.List.{flat_map, enumerate_from}
use Rattle.cov_table.specs.PodOf.{entries_of}
use Rattle.gocov_tools.proofs.entries.entries_from.Given as goal

abbrev pub invariant-loop-i : goal.invariant-loop-i
invariant-loop-i l = l.entries.items ≡ flat_map entries_of (enumerate_from 0 (take l.i l.counts))
