-- What one turn of a goroutine does.
use Rattle.std.specs.Prelude.{ℕ, ◌≡◌, ◌⊎◌, ◌+◌, ◌<◌, ◌≤◌, true, false, List, [], ◌∷◌, ◌++◌, length, option_to_list, Option, Some, None, IfSome}
use Rattle.go_meaning.specs.declared.event.End.{End}
use Rattle.go_meaning.specs.declared.event.Event.{Event}
use Rattle.go_meaning.specs.declared.event.Event.TheVariants as event
use Rattle.go_meaning.specs.declared.config.Goroutine.{Goroutine}
use Rattle.go_meaning.specs.declared.config.Config.{Config}
use Rattle.go_meaning.specs.Programs.{Parts}
use Rattle.go_meaning.specs.Steps.{step, numbered}
use Rattle.go_meaning.specs.Readiness.{is_over, IsIdle}
use Rattle.go_meaning.specs.Entries.{count_at}
use Rattle.go_meaning.specs.Histories.{replay, EndAfter, IsHistory}
use Rattle.go_state.specs.Runs.{RunState}
use Rattle.cov_cells.specs.declared.view.View.{View}
use Rattle.cov_cells.specs.Rule.{due_after, Begins}
use Rattle.go_threads.specs.declared.turning.Turned.{Turned}
use Rattle.go_threads.specs.declared.turning.Turned.TheVariants as turned

-- ---- a goroutine after a history

abbrev pub HasEnd : Parts → ℕ → List Event → Type 0
HasEnd P limit h = (e : End) × EndAfter P limit h (Some e)

abbrev pub IsOverAfter : Parts → List Event → ℕ → Type 0
IsOverAfter P h g = IfSome (replay P h) (λ c. (go : Goroutine) × (numbered c g ≡ Some go) × (is_over (Some go) ≡ true))

abbrev pub HasStepAfter : Parts → List Event → ℕ → Type 0
HasStepAfter P h g = IfSome (replay P h) (λ c. (k : ℕ) × (p : ℕ) × (q : ℕ) × (d : Config) × (step P c (event.Step g k p q) ≡ Some d))

-- it has no step, and stands at no counter
abbrev pub IsIdleAfter : Parts → List Event → ℕ → Type 0
IsIdleAfter P h g = IfSome (replay P h) (λ c. IsIdle P c g)

abbrev pub IsLeftAfter : Parts → List Event → ℕ → Type 0
IsLeftAfter P h g = IfSome (replay P h) (λ c. is_over (numbered c g) ≡ false)

abbrev pub StandsAfter : Parts → List Event → ℕ → Type 0
StandsAfter P h g = (u : ℕ) × (due_after P h g ≡ Some u)

-- it stands at no counter, whatever follows
abbrev pub RestsFrom : Parts → ℕ → List Event → ℕ → Type 0
RestsFrom P limit h g = (h' : List Event) → Begins h h' → IsHistory P limit h' → due_after P h' g ≡ None

-- ---- what a turn finds

-- The state that a history leads to: the goroutine has nothing more to do, or nothing for now, or else there is something.
abbrev pub Finds : Parts → ℕ → List Event → ℕ → Turned → Type 0
Finds P limit h g turned.Ended = (due_after P h g ≡ None) × (HasEnd P limit h ⊎ IsOverAfter P h g)
Finds P limit h g turned.NotReady = EndAfter P limit h None × IsIdleAfter P h g × IsLeftAfter P h g
Finds P limit h g turned.Stepped = StandsAfter P h g ⊎ (EndAfter P limit h None × HasStepAfter P h g)

-- ---- what a turn does

-- steps of the program by goroutine g
abbrev pub OwnSteps : ℕ → List Event → Type 0
OwnSteps g [] = Unit {0}
OwnSteps g (event.Step a k p q ∷ es) = (a ≡ g) × OwnSteps g es
OwnSteps g (event.Count a u ∷ es) = ⊥

-- the goroutine stands at a counter, or isn't ready or is over, or there is an end
abbrev pub Halts : Parts → ℕ → List Event → ℕ → Type 0
Halts P limit h g = StandsAfter P h g ⊎ (IsIdleAfter P h g ⊎ HasEnd P limit h)

-- a run, after some events more
pub record Grows (a : RunState) (more : List Event) (b : RunState) : Type 0 where
  pub program : b.program ≡ a.program
  pub limits : b.limits ≡ a.limits
  pub served : b.served ≡ a.served
  pub history : b.history ≡ a.history ++ more
  pub room : length a.history + a.spare ≤ length b.history + b.spare

-- At most so many steps of goroutine g; fewer only where it halts, or where the run is refused.
pub record GoesOn (g most : ℕ) (a b : RunState) : Type 0 where
  pub steps : List Event
  pub grows : Grows a steps b
  pub own : OwnSteps g steps
  pub few : length steps ≤ most
  pub halts : b.refused ≡ false → length steps < most → Halts b.program b.limits.steps b.history g

-- The turn of a seat: its pending counter step is recorded, then come at most 1,000 steps of its goroutine, and then the
-- counter step at which the goroutine stands is done.
pub record IsTurn (P : Parts) (limit : ℕ) (v w : View) : Type 0 where
  pub steps : List Event
  pub given : w.given ≡ (w.taken ++ count_at v.pending v.number) ++ steps
  pub own : OwnSteps v.number steps
  pub few : length steps ≤ 1000
  pub history : IsHistory P limit w.given
  pub begins : Begins v.given w.taken
  pub due : w.due ≡ due_after P w.given v.number
  pub rest : w ≡ record v { holding = false; taken = w.taken; given = w.given; served = w.served; due = w.due; pending = w.due; counted = v.counted ++ option_to_list w.due }

-- a whole turn takes fewer steps only where the goroutine halts
abbrev pub IsWhole : Parts → ℕ → View → View → Type 0
IsWhole P limit v w = length w.given < length w.taken + length (count_at v.pending v.number) + 1000 → Halts P limit w.given v.number
