-- How often each unit of a meta value was counted.
use Rattle.std.specs.Prelude.{◌≡◌, ℕ, ◌++◌, min, List, length, map, sum_by, slice_index, if◌then◌else◌, ◌==◌, ◌&&◌}
use Rattle.std.specs.List.{enumerate_from, range_with_len}
use Rattle.cov_outside.specs.declared.mode.Mode.{Mode}
use Rattle.cov_outside.specs.Mode.{greatest}
use Rattle.cov_meta.specs.declared.meta.Meta.{Meta}
use Rattle.cov_meta.specs.declared.meta.MetaPackage.{MetaPackage}
use Rattle.cov_meta.specs.declared.meta.MetaFunction.{MetaFunction}
use Rattle.cov_counter.specs.declared.entry.Entry.{Entry}

-- the counter of an entry for a unit of a function of a package, 0 where the entry is of another function
abbrev pub counter_of : ℕ → ℕ → ℕ → Entry → ℕ
counter_of place function unit entry = if (entry.«package» == place) && (entry.function == function) then slice_index entry.counts unit else 0

-- the combined count of a unit: the sum of all its counters, or the greatest count if the sum is above it
abbrev pub unit_count : Mode → List Entry → ℕ → ℕ → ℕ → ℕ
unit_count mode entries place function unit = min (sum_by (counter_of place function unit) entries) (greatest mode)

-- the counts of the units of a function, which is given with its number
unfoldable pub function_counts : Mode → List Entry → ℕ → ℕ × MetaFunction → List ℕ
function_counts mode entries place (i, function) = map (unit_count mode entries place i) (range_with_len 0 (length function.units))

-- those of the functions of a package, which is given with its number
unfoldable pub package_counts : Mode → List Entry → ℕ × MetaPackage → List (List ℕ)
package_counts mode entries (i, p) = map (function_counts mode entries i) (enumerate_from 0 p.functions)

-- the count of each unit, by package and function
unfoldable pub pod_counts : Meta → List Entry → List (List (List ℕ))
pod_counts meta entries = map (package_counts meta.mode entries) (enumerate_from 0 meta.packages)

-- the counts after some entries
abbrev pub IsCounted : Meta → List (List (List ℕ)) → Type 0
IsCounted meta counts = (entries : List Entry) × (counts ≡ pod_counts meta entries)

-- new counts are the old ones and these entries
abbrev pub Grows : Meta → List (List (List ℕ)) → List (List (List ℕ)) → List Entry → Type 0
Grows meta old new more = (entries : List Entry) → old ≡ pod_counts meta entries → new ≡ pod_counts meta (entries ++ more)
