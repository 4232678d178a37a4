-- Cells and seats as contracts see them.
use Rattle.std.specs.Prelude.{◌≡◌}
use Rattle.cov_cells.specs.declared.view.Origin.{Origin}
use Rattle.cov_cells.specs.declared.view.View.{View}
use Rattle.cov_cells.specs.declared.cells.Seat.{Seat}
use Rattle.cov_cells.specs.declared.cells.Cells.{Cells}
use Rattle.cov_cells.specs.Rule.{origin_of}

-- what a seat knows
abbrev pub view : Seat → View
view s = s.inner.me.0

-- what no step changes
abbrev pub origin : Cells → Origin
origin c = origin_of c.start

-- the seat is of these cells
abbrev pub IsOf : Cells → Seat → Type 0
IsOf c s = s.inner.table_id ≡ c.table.shared.table_id

-- the same seat of the same cells, whatever it knows
abbrev pub IsSameSeat : Seat → Seat → Type 0
IsSameSeat s t = (t.inner.table_id ≡ s.inner.table_id) × (t.inner.id ≡ s.inner.id)
