-- Histories of a program, what they lead to, and their ends.
use Rattle.std.specs.Prelude.{◌≡◌, ℕ, suc, ◌≤◌, Bool, false, List, [], ◌∷◌, Option, Some, None, option_map, option_and_then, IfSome}
use Rattle.go_meaning.specs.declared.value.Value.{Value}
use Rattle.go_meaning.specs.declared.value.Value.TheVariants as value
use Rattle.go_meaning.specs.declared.value.Channel.{Channel}
use Rattle.go_meaning.specs.declared.program.Global.{Global}
use Rattle.go_meaning.specs.declared.program.Global.TheVariants as global
use Rattle.go_meaning.specs.declared.event.End.{End}
use Rattle.go_meaning.specs.declared.event.End.TheVariants as ends
use Rattle.go_meaning.specs.declared.event.Event.{Event}
use Rattle.go_meaning.specs.declared.event.Event.TheVariants.{Step, Count}
use Rattle.go_meaning.specs.declared.config.Config.{Config}
use Rattle.go_meaning.specs.Programs.{Parts}
use Rattle.go_meaning.specs.Moves.{started, new_channel}
use Rattle.go_meaning.specs.Steps.{step, due, numbered}

-- ---- the start

-- the values of package variables, where k channels were made before
abbrev pub start_values : ℕ → List Global → List Value
start_values k [] = []
start_values k (global.Value v ∷ gs) = v ∷ start_values k gs
start_values k (global.Make v n ∷ gs) = value.Channel (Some k) ∷ start_values (suc k) gs
start_values k (global.Mutex ∷ gs) = start_values k gs
start_values k (global.Group ∷ gs) = start_values k gs

abbrev pub start_channels : List Global → List Channel
start_channels [] = []
start_channels (global.Make v n ∷ gs) = new_channel v n ∷ start_channels gs
start_channels (g ∷ gs) = start_channels gs

abbrev pub start_mutexes : List Global → List Bool
start_mutexes [] = []
start_mutexes (global.Mutex ∷ gs) = false ∷ start_mutexes gs
start_mutexes (g ∷ gs) = start_mutexes gs

abbrev pub start_groups : List Global → List ℕ
start_groups [] = []
start_groups (global.Group ∷ gs) = 0 ∷ start_groups gs
start_groups (g ∷ gs) = start_groups gs

-- goroutine 1 is about to begin `main`
abbrev pub start : Parts → Config
start P = record {
  globals = start_values 0 P.globals;
  channels = start_channels P.globals;
  mutexes = start_mutexes P.globals;
  groups = start_groups P.globals;
  output = [];
  goroutines = started P.main [] ∷ [];
  end = None;
}

-- ---- replay

-- the configuration that events lead to, from c
unfoldable pub replay_from : Parts → Config → List Event → Option Config
replay_from P c [] = Some c
replay_from P c (e ∷ es) = option_and_then (λ d. replay_from P d es) (step P c e)

abbrev pub replay : Parts → List Event → Option Config
replay P es = replay_from P (start P) es

abbrev pub output_of : Parts → List Event → Option (List ℕ)
output_of P es = option_map (λ (c : Config). c.output) (replay P es)

-- how many of the events are steps of the program
abbrev pub steps_in : List Event → ℕ
steps_in [] = 0
steps_in (Step g k p q ∷ es) = suc (steps_in es)
steps_in (Count g u ∷ es) = steps_in es

-- an event is a counter step
abbrev pub IsCount : Event → Type 0
IsCount (Step g k p q) = ⊥
IsCount (Count g u) = Unit {0}

-- ---- ends

-- no goroutine has a step, and none stands at a counter
abbrev pub IsDead : Parts → Config → Type 0
IsDead P c = (e : Event) → step P c e ≡ None

-- the end that the configuration itself has; else a deadlock; else the limit of steps; else none
abbrev pub EndBy : Option End → Type 0 → Type 0 → Option End → Type 0
EndBy (Some e) dead late o = o ≡ Some e
EndBy None dead late None = (¬ dead) × (¬ late)
EndBy None dead late (Some ends.Deadlock) = dead
EndBy None dead late (Some ends.StepLimit) = (¬ dead) × late
EndBy None dead late (Some e) = ⊥

-- the end of a history of so many program steps that has led to c
abbrev pub EndIs : Parts → ℕ → Config → ℕ → Option End → Type 0
EndIs P limit c steps o = EndBy c.end (IsDead P c) (limit ≤ steps) o

-- the end of a history
abbrev pub EndAfter : Parts → ℕ → List Event → Option End → Type 0
EndAfter P limit h o = IfSome (replay P h) (λ c. EndIs P limit c (steps_in h) o)

-- ---- histories

-- Each event has a step, and before each program step there is no end; so many program steps came before.
unfoldable pub Goes : Parts → ℕ → Config → ℕ → List Event → Type 0
Goes P limit c steps [] = Unit {0}
Goes P limit c steps (Step g k p q ∷ es) = EndIs P limit c steps None × ((d : Config) × (step P c (Step g k p q) ≡ Some d) × Goes P limit d (suc steps) es)
Goes P limit c steps (Count g u ∷ es) = (d : Config) × (step P c (Count g u) ≡ Some d) × Goes P limit d steps es

-- A history of a program under a limit of steps. That of a program with counters is a covered history.
abbrev pub IsHistory : Parts → ℕ → List Event → Type 0
IsHistory P limit h = Goes P limit (start P) 0 h

-- ---- rests

-- no goroutine stands at a counter
abbrev pub IsAtRest : Parts → Config → Type 0
IsAtRest P c = (g : ℕ) → due P (numbered c g) ≡ None

abbrev pub EndsAtRest : Parts → List Event → Type 0
EndsAtRest P h = IfSome (replay P h) (IsAtRest P)

-- after a history goroutine g stands at the counter of unit u
unfoldable pub StandsAt : Parts → List Event → ℕ → ℕ → Type 0
StandsAt P h g u = IfSome (replay P h) (λ c. due P (numbered c g) ≡ Some u)
