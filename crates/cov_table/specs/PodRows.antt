-- The pod that rows in order make.
use Rattle.std.specs.Prelude.{ℕ, List, map}
use Rattle.std.specs.List.{filter}
use Rattle.std.specs.Str.{bytes_eq}
use Rattle.cov_outside.specs.declared.mode.Mode.{Mode}
use Rattle.cov_meta.specs.declared.meta.MetaPackage.{MetaPackage}
use Rattle.cov_table.specs.declared.row.Row.{Row}
use Rattle.cov_table.specs.declared.row.PackageRow.{PackageRow}
use Rattle.cov_table.specs.declared.pod_out.PodOut.{PodOut}
use Rattle.cov_table.specs.Key.{Key}
use Rattle.cov_table.specs.Functions.{groups_of}
use Rattle.cov_table.specs.PodOf.{Group, group_counts, package_out, entries_out}
use Rattle.cov_table.specs.Rows.{row_entry, package_entry, text_at}

-- the units of a package
abbrev pub units_at : List (Key × ℕ) → List ℕ → List (Key × ℕ)
units_at units path = filter (λ u. bytes_eq path u.0.package_path) units

abbrev pub groups_in : List (List ℕ) → List Row → PackageRow → List Group
groups_in texts rows p = groups_of (units_at (map (row_entry texts) rows) (text_at texts p.path))

abbrev pub package_in : List (List ℕ) → List Row → PackageRow → MetaPackage
package_in texts rows p = package_out (package_entry texts p) (groups_in texts rows p)

abbrev pub counts_in : List (List ℕ) → List Row → PackageRow → List (List ℕ)
counts_in texts rows p = map group_counts (groups_in texts rows p)

abbrev pub pod_in_rows : Mode → List (List ℕ) → List Row → List PackageRow → PodOut
pod_in_rows mode texts rows packages = record { meta = record { mode = mode; packages = map (package_in texts rows) packages }; entries = entries_out (map (counts_in texts rows) packages) }
