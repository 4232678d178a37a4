use Rattle.std.proofs.Common.{◌≡◌}
use Rattle.cov_cells.proofs.cells.Cells.take_turn.Given as goal

abbrev pub invariant-loop : goal.invariant-loop
invariant-loop g l =
    (goal.iterator-loop g).can_next l.iterator' × (goal.iterator-loop g).is_finite l.iterator'
    × (l.inner.table_id ≡ l.initial.inner.table_id) × (l.inner.id ≡ l.initial.inner.id) × (l.inner.me ≡ l.initial.inner.me)
