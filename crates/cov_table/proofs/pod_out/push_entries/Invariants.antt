use Rattle.std.proofs.Common.{◌≡◌, ◌++◌, map, take}
use Rattle.std.specs.List.{flat_map, enumerate_from}
use Rattle.cov_table.specs.PodOf.{entry_out}
use Rattle.cov_table.specs.Grouping.{row_counts}
use Rattle.cov_table.proofs.pod_out.push_entries.Given as goal

abbrev pub invariant-loop-i : goal.invariant-loop-i
invariant-loop-i l = l.entries.items ≡ l.fn.entries.items ++ flat_map (entry_out l.package) (enumerate_from 0 (map row_counts (take l.i l.groups)))
