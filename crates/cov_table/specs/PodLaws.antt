-- What the pod of a table decodes to.
use Rattle.std.specs.Prelude.{◌≡◌, ℕ, ◌≤◌, true, Some, List, map, All}
use Rattle.std.specs.FinMap as finmap
use Rattle.cov_outside.specs.declared.mode.Mode.{Mode}
use Rattle.cov_outside.specs.Mode.{greatest}
use Rattle.cov_pods.specs.PodCounts.{pod_counts}
use Rattle.cov_table.specs.declared.pod_out.PodOut.{PodOut}
use Rattle.cov_table.specs.Key.{Key}
use Rattle.cov_table.specs.Coverage.{Coverage, empty, extended, counts_of, package_of}
use Rattle.cov_table.specs.PodOf.{pod_of}

-- a table's counts keep the greatest of its mode, and its units are of its packages
pub record IsSound (table : Coverage) : Type 0 where
  pub bounded : (mode : Mode) → table.mode ≡ Some mode → All (λ e. e.1 ≤ greatest mode) (finmap.entries table.counts)
  pub covered : (key : Key) → finmap.contains_key table.counts key ≡ true → finmap.contains_key table.packages key.package_path ≡ true

-- the empty table with a pod of this meta value and of the counts that these entries give
abbrev pub decoded : PodOut → Coverage
decoded pod = extended empty pod.meta.mode (counts_of pod.meta.packages (pod_counts pod.meta pod.entries)) (map package_of pod.meta.packages)

-- the pod of a table decodes to the table
abbrev pub PodIsTable : Type 0
PodIsTable = (table : Coverage) (pod : PodOut) → IsSound table → pod_of table ≡ Some pod → decoded pod ≡ table
