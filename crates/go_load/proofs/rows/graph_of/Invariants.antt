use Rattle.std.proofs.Common.{◌≡◌, length, map, take}
use Rattle.go_load.specs.Loading.{DoPathsRise, row_of}
use Rattle.go_load.proofs.rows.graph_of.Given as goal

abbrev pub invariant-loop-found : goal.invariant-loop-found
invariant-loop-found l = record {
  rows : DoPathsRise l.founds → map (λ row. row.items) l.rows.items ≡ map (row_of l.home l.founds) (take l.found-index l.founds);
  many : length l.rows.items ≡ l.found-index;
}
