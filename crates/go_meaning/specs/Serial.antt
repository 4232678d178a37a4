-- The serial schedule: goroutines take turns of at most 1,000 program steps, in the order of their numbers.
use Rattle.std.specs.Prelude.{◌≡◌, ℕ, suc, ◌<◌, ◌≤◌, ◌⊎◌, true, false, List, [], ◌∷◌, ◌++◌, Some, None}
use Rattle.go_meaning.specs.declared.event.End.{End}
use Rattle.go_meaning.specs.declared.event.Event.{Event}
use Rattle.go_meaning.specs.declared.event.Event.TheVariants.{Step, Count}
use Rattle.go_meaning.specs.declared.config.Goroutine.{Goroutine}
use Rattle.go_meaning.specs.declared.config.Config.{Config}
use Rattle.go_meaning.specs.Programs.{Parts}
use Rattle.go_meaning.specs.Steps.{step, due, numbered}
use Rattle.go_meaning.specs.Readiness.{is_over, IsLeast, IsIdle}
use Rattle.go_meaning.specs.Histories.{start, EndIs}
use Rattle.go_meaning.specs.Entries.{count_at}

-- ---- whose turn it is

-- after goroutine g comes the next greater one that isn't over, else the least that isn't
pub record IsNext (c : Config) (g h : ℕ) : Type 0 where
  pub lives : is_over (numbered c h) ≡ false
  pub order : ((g < h) × ((j : ℕ) → g < j → j < h → is_over (numbered c j) ≡ true)) ⊎ (((j : ℕ) → g < j → is_over (numbered c j) ≡ true) × ((j : ℕ) → j < h → is_over (numbered c j) ≡ true))

-- ---- the schedule

-- the configuration, the goroutine whose turn it is, its program steps in this turn, and all program steps
pub record Turn : Type 0 where
  pub config : Config
  pub now : ℕ
  pub taken : ℕ
  pub steps : ℕ

abbrev pub turn_limit : ℕ
turn_limit = 1000

-- The schedule leads from one turn to another by these events, under a limit of steps. Where there is no end, a goroutine
-- takes its least step or its counter step, and gives the turn on where it has none or has taken its steps.
pub data Leads (P : Parts) (limit : ℕ) : Turn → List Event → Turn → Type 0 where
  stays : (t : Turn) → Leads P limit t [] t
  steps : (t u : Turn) (d : Config) (k p q : ℕ) (es : List Event) → EndIs P limit t.config t.steps None → t.taken < turn_limit → IsLeast P t.config t.now k p q d → Leads P limit (record { config = d; now = t.now; taken = suc t.taken; steps = suc t.steps }) es u → Leads P limit t (Step t.now k p q ∷ es) u
  counts : (t u : Turn) (d : Config) (w : ℕ) (es : List Event) → EndIs P limit t.config t.steps None → t.taken < turn_limit → step P t.config (Count t.now w) ≡ Some d → Leads P limit (record t { config = d }) es u → Leads P limit t (Count t.now w ∷ es) u
  passes : (t u : Turn) (h : ℕ) (es : List Event) → EndIs P limit t.config t.steps None → IsIdle P t.config t.now ⊎ (turn_limit ≤ t.taken) → IsNext t.config t.now h → Leads P limit (record t { now = h; taken = 0 }) es u → Leads P limit t es u

-- the counter events of goroutines from number g on that stand at counters
abbrev pub due_from : Parts → ℕ → List Goroutine → List Event
due_from P g [] = []
due_from P g (go ∷ gos) = count_at (due P (Some go)) g ++ due_from P (suc g) gos

-- the turn of goroutine 1, with which a run begins
abbrev pub first_turn : Parts → Turn
first_turn P = record { config = start P; now = 1; taken = 0; steps = 0 }

-- The serial history of a program under a limit of steps: the schedule up to an end, and then each goroutine that stands
-- at a counter does its counter step, in the order of their numbers.
pub record IsSerial (P : Parts) (limit : ℕ) (h : List Event) : Type 0 where
  pub events : List Event
  pub last : Turn
  pub leads : Leads P limit (first_turn P) events last
  pub end : End
  pub ends : EndIs P limit last.config last.steps (Some end)
  pub whole : h ≡ events ++ due_from P 1 last.config.goroutines
