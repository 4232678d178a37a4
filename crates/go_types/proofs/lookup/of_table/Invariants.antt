use Rattle.std.proofs.Common.{◌≡◌, map, length}
use Rattle.go_types.specs.Names as spec
use Rattle.go_types.proofs.lookup.of_table.Given as goal

abbrev pub invariant-loop-table : goal.invariant-loop-table
invariant-loop-table l = spec.of_table (map (λ e. (e.0.now, e.1)) l.table) l.name ≡ spec.of_table (map (λ e. (e.0.now, e.1)) l.fn.table) l.name

abbrev pub decreases-loop-table : goal.decreases-loop-table
decreases-loop-table l = length l.table
