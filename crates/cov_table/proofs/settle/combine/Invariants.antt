use Rattle.std.proofs.Common.{◌≡◌, ℕ, [], ◌∷◌, ◌++◌, drop, get_or}
use Rattle.cov_outside.specs.Mode.{greatest}
use Rattle.cov_table.specs.Rows.{counts_up_to, row_key, AllWithin, Rises}
use Rattle.cov_table.proofs.Settling.{Under, zero_row}
use Rattle.cov_table.proofs.settle.combine.Given as goal

abbrev pub invariant-loop-row : goal.invariant-loop-row
invariant-loop-row l = record {
  same : counts_up_to (greatest l.mode) l.texts (l.settled.items ++ l.held ∷ drop l.row-index l.rest) ≡ counts_up_to (greatest l.mode) l.texts l.rows;
  within : (n : ℕ) → AllWithin n l.rows → AllWithin n (l.settled.items ++ l.held ∷ []);
  rising : Rises l.texts (l.settled.items ++ l.held ∷ []);
  under : Under (greatest l.mode) (l.settled.items ++ l.held ∷ []);
  at : row_key l.texts l.held ≡ row_key l.texts (get_or l.rows l.row-index zero_row);
}
