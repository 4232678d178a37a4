-- Runs as contracts see them.
use Rattle.std.specs.Prelude.{◌≡◌, ℕ, ◌≤◌, Bool, false, List, Option, Some, length}
use Rattle.std.specs.Option.{option_or, option_map_or}
use Rattle.go_meaning.specs.declared.event.End.{End}
use Rattle.go_meaning.specs.declared.event.Event.{Event}
use Rattle.go_meaning.specs.declared.event.Event.TheVariants.{Step, Count}
use Rattle.go_meaning.specs.declared.config.Config.{Config}
use Rattle.go_meaning.specs.Programs.{Parts}
use Rattle.go_meaning.specs.Steps.{step}
use Rattle.go_meaning.specs.Readiness.{IsIdle}
use Rattle.go_meaning.specs.Histories.{replay, steps_in, EndIs, IsHistory}
use Rattle.go_state.specs.declared.limits.Limits.{Limits}

-- A run: its program and limits, the events that have happened, how many goroutines are served, for how many events more
-- there is room, and whether one of its calls wanted memory.
pub record RunState : Type 0 where
  pub program : Parts
  pub limits : Limits
  pub history : List Event
  pub served : ℕ
  pub spare : ℕ
  pub refused : Bool

-- a run with this program and these limits, none of whose goroutines is served
pub record IsFresh (P : Parts) (l : Limits) (r : RunState) : Type 0 where
  pub program : r.program ≡ P
  pub limits : r.limits ≡ l
  pub served : r.served ≡ 0
  pub refused : r.refused ≡ false

-- how many goroutines there are after a history
abbrev pub goroutines_after : Parts → List Event → ℕ
goroutines_after P h = option_map_or (λ (c : Config). length c.goroutines) (replay P h) 0

-- how many program steps an event is
abbrev pub step_of : Event → ℕ
step_of (Step g k p q) = 1
step_of (Count g u) = 0

-- something can happen
abbrev pub HasEvent : Parts → Config → Type 0
HasEvent P c = (e : Event) × ((d : Config) × (step P c e ≡ Some d))

-- goroutine g has a step or stands at a counter
pub record IsActive (P : Parts) (c : Config) (g : ℕ) : Type 0 where
  pub event : HasEvent P c
  pub stirs : ¬ IsIdle P c g
  pub there : g ≤ length c.goroutines

-- a run's own fields: a history, the configuration that it has led to, its number k of program steps, its end e where the
-- configuration has none, and the number n of goroutines served
pub record IsRun (P : Parts) (limit : ℕ) (h : List Event) (c : Config) (k : ℕ) (e : Option End) (n : ℕ) : Type 0 where
  pub history : IsHistory P limit h
  pub replays : replay P h ≡ Some c
  pub steps : k ≡ steps_in h
  pub ends : EndIs P limit c k (option_or c.end e)
  pub served : n ≤ length c.goroutines
  pub few : length c.goroutines ≤ 256
  pub some : 1 ≤ length c.goroutines
