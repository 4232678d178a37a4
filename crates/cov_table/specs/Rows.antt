-- What rows of numbers mean over a pool of texts.
use Rattle.std.specs.Prelude.{◌≡◌, ℕ, ◌+◌, ◌<◌, min, List, [], ◌∷◌, ◌++◌, map, length, slice_index_or, Option, None, Some, is_some, true, T}
use Rattle.std.specs.List.{zip}
use Rattle.std.specs.FinMap as finmap
use Rattle.cov_outside.specs.declared.mode.Mode.{Mode}
use Rattle.cov_outside.specs.Mode.{greatest}
use Rattle.cov_meta.specs.declared.meta.MetaUnit.{MetaUnit}
use Rattle.cov_meta.specs.declared.meta.MetaFunction.{MetaFunction}
use Rattle.cov_table.specs.declared.row.Row.{Row}
use Rattle.cov_table.specs.declared.row.PackageRow.{PackageRow}
use Rattle.cov_table.specs.Key.{Key, key_cmp, text_cmp}
use Rattle.cov_table.specs.Coverage.{Coverage, Counts, Packages}
use Rattle.cov_table.specs.Counts.{with_counts, has}

abbrev pub text_at : List (List ℕ) → ℕ → List ℕ
text_at texts i = slice_index_or texts i []

abbrev pub row_key : List (List ℕ) → Row → Key
row_key texts r = record { package_path = text_at texts r.package_path; file = text_at texts r.file; function = text_at texts r.function; literal = r.literal; start_line = r.start_line; start_column = r.start_column; end_line = r.end_line; end_column = r.end_column; statements = r.statements }

abbrev pub row_entry : List (List ℕ) → Row → Key × ℕ
row_entry texts r = (row_key texts r, r.count)

abbrev pub package_entry : List (List ℕ) → PackageRow → List ℕ × (List ℕ × List ℕ)
package_entry texts r = (text_at texts r.path, (text_at texts r.name, text_at texts r.module))

abbrev pub package_path : List (List ℕ) → PackageRow → List ℕ
package_path texts r = text_at texts r.path

-- sums that stop at a greatest count
abbrev pub counts_up_to : ℕ → List (List ℕ) → List Row → Counts
counts_up_to most texts rows = with_counts (λ a b. min (a + b) most) finmap.empty (map (row_entry texts) rows)

abbrev pub greatest_of : Option Mode → ℕ
greatest_of None = 0
greatest_of (Some m) = greatest m

abbrev pub packages_in : List (List ℕ) → List PackageRow → Packages
packages_in texts rows = finmap.from_entries (map (package_entry texts) rows)

-- texts that only grow
abbrev pub Extends : List (List ℕ) → List (List ℕ) → Type 0
Extends old new = (more : List (List ℕ)) × (new ≡ old ++ more)

-- the text stands at number i
abbrev pub Names : List (List ℕ) → ℕ → List ℕ → Type 0
Names texts i text = (i < length texts) × (text_at texts i ≡ text)

-- every number of a row has a text
abbrev pub Within : ℕ → Row → Type 0
Within n r = (r.package_path < n) × (r.file < n) × (r.function < n)

abbrev pub AllWithin : ℕ → List Row → Type 0
AllWithin n [] = Unit {0}
AllWithin n (r ∷ rows) = Within n r × AllWithin n rows

abbrev pub PackageWithin : ℕ → PackageRow → Type 0
PackageWithin n r = (r.path < n) × (r.name < n) × (r.module < n)

abbrev pub AllPackagesWithin : ℕ → List PackageRow → Type 0
AllPackagesWithin n [] = Unit {0}
AllPackagesWithin n (r ∷ rows) = PackageWithin n r × AllPackagesWithin n rows

-- the rows of a function's units, by the numbers of its texts
abbrev pub unit_row : ℕ → ℕ → ℕ → MetaFunction → MetaUnit × ℕ → Row
unit_row package_path file function f (u, n) = record { package_path = package_path; file = file; function = function; literal = f.literal; start_line = u.start.line; start_column = u.start.column; end_line = u.end.line; end_column = u.end.column; statements = u.statements; count = n }

abbrev pub unit_rows : ℕ → ℕ → ℕ → MetaFunction → List ℕ → List Row
unit_rows package_path file function f counts = map (unit_row package_path file function f) (zip f.units counts)

-- rows that were added, with what they mean
pub record Adds (old new : List (List ℕ)) (before after : List Row) (added : List (Key × ℕ)) : Type 0 where
  pub within : AllWithin (length old) before → AllWithin (length new) after
  pub entries : AllWithin (length old) before → map (row_entry new) after ≡ map (row_entry old) before ++ added

-- packages that were added, with what they mean
pub record AddsPackages (old new : List (List ℕ)) (before after : List PackageRow) (added : List (List ℕ × (List ℕ × List ℕ))) : Type 0 where
  pub within : AllPackagesWithin (length old) before → AllPackagesWithin (length new) after
  pub entries : AllPackagesWithin (length old) before → map (package_entry new) after ≡ map (package_entry old) before ++ added

-- rows in the order of their keys, each key once
abbrev pub Rises : List (List ℕ) → List Row → Type 0
Rises texts rows = T (finmap.is_sorted key_cmp (map (row_entry texts) rows))

-- packages in the order of their paths, each path once
abbrev pub PackagesRise : List (List ℕ) → List PackageRow → Type 0
PackagesRise texts rows = T (finmap.is_sorted text_cmp (map (package_entry texts) rows))

-- what rows add to a table
pub record Means (texts : List (List ℕ)) (rows : List Row) (packages : List PackageRow) (counts : List (Key × ℕ)) (paths : List (List ℕ × (List ℕ × List ℕ))) : Type 0 where
  pub rows_within : AllWithin (length texts) rows
  pub packages_within : AllPackagesWithin (length texts) packages
  pub counts_are : map (row_entry texts) rows ≡ counts
  pub packages_are : map (package_entry texts) packages ≡ paths

-- each unit's package is among the packages
abbrev pub IsCovered : List (Key × ℕ) → List (List ℕ × (List ℕ × List ℕ)) → Type 0
IsCovered units paths = (key : Key) → has key_cmp key units ≡ true → is_some (finmap.find text_cmp key.package_path paths) ≡ true

-- the fields of a table: every number has a text, without a mode there is nothing, and each unit's package is there
pub record IsTable (mode : Option Mode) (texts : List (List ℕ)) (rows : List Row) (packages : List PackageRow) : Type 0 where
  pub rows_within : AllWithin (length texts) rows
  pub packages_within : AllPackagesWithin (length texts) packages
  pub nothing : mode ≡ None → (rows ≡ []) × (packages ≡ [])
  pub covered : IsCovered (map (row_entry texts) rows) (map (package_entry texts) packages)

abbrev pub coverage_of : Option Mode → List (List ℕ) → List Row → List PackageRow → Coverage
coverage_of mode texts rows packages = record { mode = mode; counts = counts_up_to (greatest_of mode) texts rows; packages = packages_in texts packages }

-- every text of a pool has its number in another
pub record NamesAll (texts : List (List ℕ)) (numbers : List ℕ) (from : List (List ℕ)) : Type 0 where
  pub whole : length numbers ≡ length from
  pub names : (i : ℕ) → i < length from → Names texts (slice_index_or numbers i 0) (text_at from i)

abbrev pub renumbered_row : List ℕ → Row → Row
renumbered_row numbers r = record r { package_path = slice_index_or numbers r.package_path 0; file = slice_index_or numbers r.file 0; function = slice_index_or numbers r.function 0 }

abbrev pub renumbered_package : List ℕ → PackageRow → PackageRow
renumbered_package numbers r = record { path = slice_index_or numbers r.path 0; name = slice_index_or numbers r.name 0; «module» = slice_index_or numbers r.module 0 }
