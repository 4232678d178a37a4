-- What the fields of a table mean is sound.
use Rattle.std.proofs.Common.{◌≡◌, ℕ, ◌≤◌, List, map, All, Option, Some, sym, ap, subst, ◌∙◌}
use Rattle.std.specs.FinMap as finmap
use Rattle.cov_outside.specs.declared.mode.Mode.{Mode}
use Rattle.cov_table.specs.declared.row.Row.{Row}
use Rattle.cov_table.specs.declared.row.PackageRow.{PackageRow}
use Rattle.cov_table.specs.PodLaws.{IsSound}
use Rattle.cov_table.specs.Rows.{row_entry, package_entry, IsTable, coverage_of, counts_up_to, greatest_of}
use Rattle.cov_table.proofs.Covered.{contains_counts, contains_path, entries_bounded}

pub sound_coverage : (mode : Option Mode) (texts : List (List ℕ)) (rows : List Row) (packages : List PackageRow) → IsTable mode texts rows packages → IsSound (coverage_of mode texts rows packages)
sound_coverage mode texts rows packages t = record {
  bounded = λ m is. subst (λ (n : ℕ). All (λ e. e.1 ≤ n) (finmap.entries (counts_up_to (greatest_of mode) texts rows))) (ap greatest_of is) (entries_bounded (greatest_of mode) (map (row_entry texts) rows));
  covered = λ key h. contains_path (map (package_entry texts) packages) key.package_path ∙ t.covered key (sym (contains_counts (greatest_of mode) (map (row_entry texts) rows) key) ∙ h);
}
