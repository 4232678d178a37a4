use Rattle.std.proofs.Common.{◌≡◌, ◌++◌, take}
use Rattle.std.specs.List.{flat_map, enumerate_from}
use Rattle.cov_table.specs.PodOf.{entry_out}
use Rattle.gocov_tools.proofs.entries.push_package.Given as goal

abbrev pub invariant-loop-i : goal.invariant-loop-i
invariant-loop-i l = l.entries.items ≡ l.fn.entries.items ++ flat_map (entry_out l.place) (enumerate_from 0 (take l.i l.functions))
