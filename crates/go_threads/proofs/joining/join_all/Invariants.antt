use Rattle.std.proofs.Common.{◌≡◌, ℕ, ◌+◌, ◌<◌, get_or}
use Rattle.std.specs.Vec.Iter.{into_iter_items, into_iter_len}
use Rattle.cov_cells.specs.Rule.{Begins}
use Rattle.cov_cells.specs.Seats.{view}
use Rattle.go_threads.specs.Seats.{AllRest, Leads}
use Rattle.go_threads.specs.Starts.{IsServed, Starts, number_of}
use Rattle.go_threads.proofs.joining.join_all.Given as goal

abbrev pub invariant-loop-one : goal.invariant-loop-one
invariant-loop-one g l = record {
  leads : Leads l.cells l.seat;
  left : (view l.seat).made ≡ (view l.seat).gathered + into_iter_len l.one-iterator;
  each : (k : ℕ) (d : _) → k < into_iter_len l.one-iterator → Starts l.cells (get_or (into_iter_items l.one-iterator) k d) × IsServed l.cells (get_or (into_iter_items l.one-iterator) k d) × (number_of (get_or (into_iter_items l.one-iterator) k d) ≡ (view l.seat).gathered + k + 1);
  rest : AllRest l.cells l.seat (view l.seat).gathered;
  given : Begins (view l.fn.seat).given (view l.seat).given;
  made : (view l.seat).made ≡ (view l.fn.seat).made;
}
