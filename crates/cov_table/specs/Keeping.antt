-- Rows in which some counts become 0, by those of other rows over the same texts.
use Rattle.std.specs.Prelude.{ℕ, Bool, not, ◌==◌, List, map, if◌then◌else◌, unwrap_or}
use Rattle.std.specs.FinMap as finmap
use Rattle.cov_table.specs.declared.row.Row.{Row}
use Rattle.cov_table.specs.declared.keep.Keeps.{Keeps}
use Rattle.cov_table.specs.declared.keep.Keeps.TheVariants.{WhereZero, WhereCounted}
use Rattle.cov_table.specs.Key.{Key, key_cmp}
use Rattle.cov_table.specs.Rows.{row_key, row_entry}

abbrev pub passes : Keeps → ℕ → Bool
passes WhereZero n = n == 0
passes WhereCounted n = not (n == 0)

-- the count of a key among rows
abbrev pub count_among : List (List ℕ) → List Row → Key → ℕ
count_among texts rows key = unwrap_or (finmap.find key_cmp key (map (row_entry texts) rows)) 0

abbrev pub kept_row : Keeps → List (List ℕ) → List Row → Row → Row
kept_row keeps texts others r = record r { count = if passes keeps (count_among texts others (row_key texts r)) then r.count else 0 }
