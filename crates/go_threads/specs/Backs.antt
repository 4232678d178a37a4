-- What a thread gives back.
use Rattle.std.specs.Prelude.{◌≡◌}
use Rattle.cov_cells.specs.declared.cells.Seat.{Seat}
use Rattle.cov_cells.specs.declared.cells.Cells.{Cells}
use Rattle.cov_cells.specs.Seats.{view}
use Rattle.go_threads.specs.declared.back.Back.{Back}
use Rattle.go_threads.specs.declared.back.Mark.TheVariants as mark
use Rattle.go_threads.specs.Seats.{IsBetween, IsSame, IsDone}

-- The seat that it was given, between two turns; where its last turn ended, its goroutine has nothing more to do.
pub record IsBack (c : Cells) (s : Seat) (b : Back) : Type 0 where
  pub between : IsBetween c b.seat
  pub same : IsSame (view s) (view b.seat)
  pub done : b.mark ≡ mark.Ended → IsDone c b.seat
