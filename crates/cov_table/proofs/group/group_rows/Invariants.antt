use Rattle.std.proofs.Common.{map, take}
use Rattle.cov_table.specs.Grouping.{Grouped}
use Rattle.cov_table.specs.Rows.{row_entry}
use Rattle.cov_table.proofs.group.group_rows.Given as goal

abbrev pub invariant-loop-row : goal.invariant-loop-row
invariant-loop-row l = Grouped l.texts l.names.keys l.groups.items (map (row_entry l.texts) (take l.row-index l.rows))
