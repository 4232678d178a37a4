-- The pod that a table makes: its packages in the order of their paths, their functions in the order of their first units,
-- the units of each in order, and an entry for each function with a count that isn't 0.
use Rattle.std.specs.Prelude.{ℕ, ◌==◌, not, List, [], ◌∷◌, map, Option, None, Some, if◌then◌else◌}
use Rattle.std.specs.List.{filter, flat_map, list_any, enumerate_from}
use Rattle.std.specs.Str.{bytes_eq}
use Rattle.std.specs.FinMap as finmap
use Rattle.cov_outside.specs.declared.mode.Mode.{Mode}
use Rattle.cov_meta.specs.declared.meta.MetaUnit.{MetaUnit}
use Rattle.cov_meta.specs.declared.meta.MetaFunction.{MetaFunction}
use Rattle.cov_meta.specs.declared.meta.MetaPackage.{MetaPackage}
use Rattle.cov_counter.specs.declared.entry.Entry.{Entry}
use Rattle.cov_table.specs.declared.pod_out.PodOut.{PodOut}
use Rattle.cov_table.specs.Key.{Key}
use Rattle.cov_table.specs.Coverage.{Coverage}
use Rattle.cov_table.specs.Functions.{groups_of}

-- a function as a group of units: the first, and all
abbrev pub Group : Type 0
Group = (Key × ℕ) × List (Key × ℕ)

abbrev pub unit_out : Key × ℕ → MetaUnit
unit_out (k, n) = record { start = record { line = k.start_line; column = k.start_column }; end = record { line = k.end_line; column = k.end_column }; statements = k.statements }

abbrev pub function_out : Group → MetaFunction
function_out (u, units) = record { name = u.0.function; file = u.0.file; literal = u.0.literal; units = map unit_out units }

abbrev pub group_counts : Group → List ℕ
group_counts (u, units) = map (λ e. e.1) units

-- the functions of a package by their groups
abbrev pub groups_at : Coverage → List ℕ → List Group
groups_at table path = groups_of (filter (λ u. bytes_eq path u.0.package_path) (finmap.entries table.counts))

abbrev pub package_out : List ℕ × (List ℕ × List ℕ) → List Group → MetaPackage
package_out p groups = record { name = p.1.0; path = p.0; «module» = p.1.1; functions = map function_out groups }

-- also the packages without units
abbrev pub packages_out : Coverage → List MetaPackage
packages_out table = map (λ p. package_out p (groups_at table p.0)) (finmap.entries table.packages)

-- the count of each unit, by package and function
abbrev pub counts_out : Coverage → List (List (List ℕ))
counts_out table = map (λ p. map group_counts (groups_at table p.0)) (finmap.entries table.packages)

-- the entry of a function of a package, by their numbers, where a count isn't 0
abbrev pub entry_out : ℕ → ℕ × List ℕ → List Entry
entry_out place (i, counts) = if list_any (λ n. not (n == 0)) counts then record { «package» = place; function = i; counts = counts } ∷ [] else []

abbrev pub entries_of : ℕ × List (List ℕ) → List Entry
entries_of (i, functions) = flat_map (entry_out i) (enumerate_from 0 functions)

abbrev pub entries_out : List (List (List ℕ)) → List Entry
entries_out counts = flat_map entries_of (enumerate_from 0 counts)

-- none where the table is empty
abbrev pub pod_in : Option Mode → Coverage → Option PodOut
pod_in None table = None
pod_in (Some mode) table = Some (record { meta = record { mode = mode; packages = packages_out table }; entries = entries_out (counts_out table) })

abbrev pub pod_of : Coverage → Option PodOut
pod_of table = pod_in table.mode table
