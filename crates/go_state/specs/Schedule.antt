-- A run on the way through the serial schedule.
use Rattle.std.specs.Prelude.{◌≡◌, ℕ, ◌<◌, ◌≤◌, ◌⊎◌, List, [], Option, Some, None, IfSome, true, false, length}
use Rattle.go_meaning.specs.declared.event.End.{End}
use Rattle.go_meaning.specs.declared.event.Event.{Event}
use Rattle.go_meaning.specs.declared.config.Config.{Config}
use Rattle.go_meaning.specs.Programs.{Parts}
use Rattle.go_meaning.specs.Steps.{numbered}
use Rattle.go_meaning.specs.Readiness.{IsIdle, is_over}
use Rattle.go_meaning.specs.Histories.{replay, steps_in, EndAfter}
use Rattle.go_meaning.specs.Serial.{turn_limit, first_turn, Leads, due_from}
use Rattle.go_state.specs.Runs.{RunState, goroutines_after}

-- the run has gone on
abbrev pub Extends : RunState → RunState → Type 0
Extends old new = new ≡ record old { history = new.history; spare = new.spare }

-- The schedule leads to these events: it is the turn of goroutine g, which has taken so many steps.
pub record IsAt (r : RunState) (g n : ℕ) : Type 0 where
  pub config : Config
  pub replays : replay r.program r.history ≡ Some config
  pub leads : Leads r.program r.limits.steps (first_turn r.program) r.history (record { config = config; now = g; taken = n; steps = steps_in r.history })

-- goroutine g has nothing to do
abbrev pub IsIdleIn : RunState → ℕ → Type 0
IsIdleIn r g = IfSome (replay r.program r.history) (λ c. IsIdle r.program c g)

-- the run has or hasn't an end
abbrev pub EndsBy : RunState → Option End → Type 0
EndsBy r o = EndAfter r.program r.limits.steps r.history o

-- goroutine g can give its turn on
abbrev pub CanPass : RunState → ℕ → ℕ → Type 0
CanPass r g n = IsIdleIn r g ⊎ (turn_limit ≤ n)

-- there is a goroutine of this number
abbrev pub IsNumber : RunState → ℕ → Type 0
IsNumber r g = (0 < g) × (g ≤ goroutines_after r.program r.history)

-- all goroutines with greater numbers are over
abbrev pub AllOverAfter : Config → ℕ → Type 0
AllOverAfter c n = (j : ℕ) → n < j → is_over (numbered c j) ≡ true

-- of these, g is the least that isn't over
pub record IsLeastAfter (c : Config) (n g : ℕ) : Type 0 where
  pub lives : is_over (numbered c g) ≡ false
  pub after : n < g
  pub there : g ≤ length c.goroutines
  pub least : (j : ℕ) → n < j → j < g → is_over (numbered c j) ≡ true

-- the counter steps that are due in a configuration
abbrev pub dues_of : Parts → Option Config → List Event
dues_of P None = []
dues_of P (Some c) = due_from P 1 c.goroutines

-- after the events
abbrev pub dues : RunState → List Event
dues r = dues_of r.program (replay r.program r.history)
