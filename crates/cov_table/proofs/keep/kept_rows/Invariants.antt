use Rattle.std.proofs.Common.{◌≡◌, map, take}
use Rattle.cov_table.specs.Keeping.{kept_row}
use Rattle.cov_table.proofs.keep.kept_rows.Given as goal

abbrev pub invariant-loop-row : goal.invariant-loop-row
invariant-loop-row l = l.kept.items ≡ map (kept_row l.keeps l.texts l.others) (take l.row-index l.rows)
