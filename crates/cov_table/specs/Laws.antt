-- What the counts and packages of a table are, key by key.
use Rattle.std.specs.Prelude.{◌≡◌, ℕ, ◌+◌, ◌==◌, min, Some, List, if◌then◌else◌}
use Rattle.std.specs.Option.{option_or, option_map}
use Rattle.std.specs.FinMap as finmap
use Rattle.cov_outside.specs.declared.mode.Mode.{Mode}
use Rattle.cov_outside.specs.Mode.{combined, greatest}
use Rattle.cov_table.specs.Key.{Key, key_cmp, text_cmp}
use Rattle.cov_table.specs.Counts.{count_of, with_counts, has, total}
use Rattle.cov_table.specs.Firsts.{with_firsts}
use Rattle.cov_table.specs.Coverage.{Coverage, Counts, Packages, merged}
use Rattle.cov_table.specs.Operations.{subtracted, intersected}

-- a key's count is the sum of all its counts, up to the greatest; keys without more counts keep theirs
abbrev pub CountsAreSums : Type 0
CountsAreSums = (mode : Mode) (counts : Counts) (more : List (Key × ℕ)) (key : Key)
    → finmap.get (with_counts (combined mode) counts more) key ≡ (if has key_cmp key more then Some (min (count_of counts key + total key_cmp key more) (greatest mode)) else finmap.get counts key)

-- a path's package is the one that was there, else the first that comes
abbrev pub PackagesAreFirsts : Type 0
PackagesAreFirsts = (packages : Packages) (more : List (List ℕ × (List ℕ × List ℕ))) (path : List ℕ) → finmap.get (with_firsts packages more) path ≡ option_or (finmap.get packages path) (finmap.find text_cmp path more)

-- a table merged with itself: each count is the lesser of twice the count and the greatest
abbrev pub MergedWithItself : Type 0
MergedWithItself = (table : Coverage) (mode : Mode) (key : Key) → table.mode ≡ Some mode → finmap.get (merged table table).counts key ≡ option_map (λ n. min (n + n) (greatest mode)) (finmap.get table.counts key)

-- subtracting keeps a count of the first where the second's is 0 or missing, and the others become 0
abbrev pub SubtractedByKey : Type 0
SubtractedByKey = (table other : Coverage) (key : Key) → finmap.get (subtracted table other).counts key ≡ option_map (λ n. if count_of other.counts key == 0 then n else 0) (finmap.get table.counts key)

-- intersecting keeps a count of the first where the second's isn't 0, and the others become 0
abbrev pub IntersectedByKey : Type 0
IntersectedByKey = (table other : Coverage) (key : Key) → finmap.get (intersected table other).counts key ≡ option_map (λ n. if count_of other.counts key == 0 then 0 else n) (finmap.get table.counts key)
