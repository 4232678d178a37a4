-- What was started for a seat.
use Rattle.std.specs.Prelude.{ℕ, ◌≡◌}
use Rattle.cov_cells.specs.declared.cells.Cells.{Cells}
use Rattle.cov_cells.specs.Seats.{view}
use Rattle.go_threads.specs.declared.started.Started.{Started}
use Rattle.go_threads.specs.declared.started.Started.TheVariants.{Thread, Here}
use Rattle.go_threads.specs.Seats.{IsServable, IsDone}

abbrev pub number_of : Started → ℕ
number_of (Thread h) = (view h.promise.1.value).number
number_of (Here s) = (view s).number

-- a thread that serves a seat of these cells, or such a seat
abbrev pub Starts : Cells → Started → Type 0
Starts c (Thread h) = (h.promise.0.value ≡ c) × IsServable c h.promise.1.value
Starts c (Here s) = IsServable c s

-- a seat that the caller serves is done
abbrev pub IsServed : Cells → Started → Type 0
IsServed c (Thread h) = Unit {0}
IsServed c (Here s) = IsDone c s
