-- Seats between their turns.
use Rattle.std.specs.Prelude.{ℕ, ◌≡◌, ◌≢◌, ◌<◌, ◌≤◌, false, List, Option, Some, None}
use Rattle.cov_cells.specs.declared.cells.Seat.{Seat}
use Rattle.cov_cells.specs.declared.cells.Cells.{Cells}
use Rattle.cov_cells.specs.declared.view.View.{View}
use Rattle.cov_cells.specs.Seats.{view, origin, IsOf}
use Rattle.go_meaning.specs.declared.event.Event.{Event}
use Rattle.go_meaning.specs.Histories.{EndAfter, IsHistory}
use Rattle.cov_cells.specs.Rule.{Begins}
use Rattle.go_state.specs.Runs.{goroutines_after}
use Rattle.go_threads.specs.Turns.{HasEnd, RestsFrom}

-- a seat of these cells that hasn't the turn
pub record IsBetween (c : Cells) (s : Seat) : Type 0 where
  pub cells : IsOf c s
  pub origin : (view s).origin ≡ Some (origin c)
  pub rests : (view s).holding ≡ false
  pub pending : (u : ℕ) → (view s).pending ≡ Some u → (view s).due ≡ Some u

-- its number and its seats stay
pub record IsSame (v w : View) : Type 0 where
  pub number : w.number ≡ v.number
  pub made : w.made ≡ v.made
  pub gathered : w.gathered ≡ v.gathered

-- a seat whose goroutine has nothing more to do
pub record IsDone (c : Cells) (s : Seat) : Type 0 where
  pub between : IsBetween c s
  pub due : (view s).due ≡ None
  pub pending : (view s).pending ≡ None
  pub rests : RestsFrom (origin c).program (origin c).limits.steps (view s).given (view s).number

-- a seat that serves a goroutine, which no seat was joined to
pub record IsServable (c : Cells) (s : Seat) : Type 0 where
  pub between : IsBetween c s
  pub number : (view s).number ≢ 0
  pub alone : (view s).gathered ≡ 0

-- seat 0 between two of its turns
pub record Leads (c : Cells) (s : Seat) : Type 0 where
  pub cells : IsOf c s
  pub origin : (view s).origin ≡ Some (origin c)
  pub rests : (view s).holding ≡ false
  pub due : (view s).due ≡ None
  pub pending : (view s).pending ≡ None
  pub number : (view s).number ≡ 0

-- all goroutines with numbers up to n stand at no counter, whatever follows the history that the seat last gave
abbrev pub AllRest : Cells → Seat → ℕ → Type 0
AllRest c s n = (g : ℕ) → 0 < g → g ≤ n → RestsFrom (origin c).program (origin c).limits.steps (view s).given g

-- the history that the seat last gave has an end, and it has made a seat for each goroutine
pub record IsFinished (c : Cells) (s : Seat) : Type 0 where
  pub history : IsHistory (origin c).program (origin c).limits.steps (view s).given
  pub end : HasEnd (origin c).program (origin c).limits.steps (view s).given
  pub all : goroutines_after (origin c).program (view s).given ≡ (view s).made

-- seat 0 has gathered all seats
pub record IsAlone (c : Cells) (s : Seat) : Type 0 where
  pub leads : Leads c s
  pub gathered : (view s).gathered ≡ (view s).made
  pub rest : AllRest c s (view s).made

-- the run has an end, and seat 0 has made a seat for each of its goroutines, whatever follows the history that it last gave
abbrev pub EndedBy : Cells → Seat → Type 0
EndedBy c s = (h : List Event) → Begins (view s).given h → IsHistory (origin c).program (origin c).limits.steps h
    → (goroutines_after (origin c).program h ≡ (view s).made) × (EndAfter (origin c).program (origin c).limits.steps h None → ⊥)
