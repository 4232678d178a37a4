use Rattle.std.proofs.Common.{◌≡◌, map, take}
use Rattle.std.specs.List.{flat_map, enumerate_from}
use Rattle.cov_table.specs.PodOf.{entries_of}
use Rattle.cov_table.specs.PodRows.{package_in, counts_in}
use Rattle.cov_table.proofs.pod_out.pod_from.Given as goal

abbrev pub invariant-loop-i : goal.invariant-loop-i
invariant-loop-i l = record {
  packages : l.made.items ≡ map (package_in l.texts l.rows) (take l.i l.packages);
  entries : l.entries.items ≡ flat_map entries_of (enumerate_from 0 (map (counts_in l.texts l.rows) (take l.i l.packages)));
}
