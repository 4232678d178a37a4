-- A seat between two turns.
use Rattle.std.specs.Prelude.{◌≡◌, false, Some}
use Rattle.cov_cells.specs.declared.cells.Seat.{Seat}
use Rattle.cov_cells.specs.declared.cells.Cells.{Cells}
use Rattle.cov_cells.specs.Seats.{view, origin, IsOf}

-- a seat of these cells that hasn't the turn
pub record IsBetween (c : Cells) (s : Seat) : Type 0 where
  pub cells : IsOf c s
  pub origin : (view s).origin ≡ Some (origin c)
  pub rests : (view s).holding ≡ false
