-- What subtracting and intersecting make of two tables.
use Rattle.std.specs.Prelude.{ℕ, Bool, not, ◌==◌, List, map, if◌then◌else◌}
use Rattle.std.specs.FinMap as finmap
use Rattle.cov_table.specs.Counts.{count_of}
use Rattle.cov_table.specs.Coverage.{Coverage}

-- counts of which those stay whose keys pass a test; the others become 0
abbrev pub only : {K : Type 0} → (K → Bool) → List (K × ℕ) → List (K × ℕ)
only {K} stays entries = map (λ (e : K × ℕ). (e.0, if stays e.0 then e.1 else 0)) entries

-- the first table, in which the counts stay where the second table's count passes a test
abbrev pub kept_where : (ℕ → Bool) → Coverage → Coverage → Coverage
kept_where test table other = record table { counts = finmap.from_entries (only (λ key. test (count_of other.counts key)) (finmap.entries table.counts)) }

-- each count of the first where the second's is 0 or the key is missing there, else 0
abbrev pub subtracted : Coverage → Coverage → Coverage
subtracted table other = kept_where (λ n. n == 0) table other

-- each count of the first where the second's isn't 0, else 0
abbrev pub intersected : Coverage → Coverage → Coverage
intersected table other = kept_where (λ n. not (n == 0)) table other
