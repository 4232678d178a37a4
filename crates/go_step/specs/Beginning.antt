-- The first step of a goroutine, and its counter steps.
use Rattle.std.specs.Prelude.{◌≡◌, ℕ, ◌==◌, Bool, true, false, List, [], ◌∷◌, slice_get, Option, Some, None, option_map}
use Rattle.go_meaning.specs.declared.config.Call.{Call}
use Rattle.go_meaning.specs.declared.config.Goroutine.{Goroutine}
use Rattle.go_meaning.specs.declared.config.Config.{Config}
use Rattle.go_meaning.specs.Programs.{Parts}
use Rattle.go_meaning.specs.Moves.{running, new_frame}
use Rattle.go_meaning.specs.Steps.{due, counted_at, arrive_one}

abbrev pub begun : Parts → Call → Goroutine
begun P call = running (new_frame P call.function call.args false ∷ [])

abbrev pub begins : Parts → Option Call → Option Goroutine
begins P o = option_map (begun P) o

abbrev pub IsBeginning : Option Call → Type 0
IsBeginning None = ⊥
IsBeginning (Some call) = Unit {0}

abbrev pub is_due : ℕ → Option ℕ → Bool
is_due u None = false
is_due u (Some w) = w == u

abbrev pub Passes : Parts → Goroutine → ℕ → Bool → Goroutine → Type 0
Passes P go u true new = counted_at u (Some go) (due P (Some go)) ≡ Some new
Passes P go u false new = (counted_at u (Some go) (due P (Some go)) ≡ None) × (new ≡ go)

abbrev pub count_step : Parts → Config → ℕ → ℕ → Option Config
count_step P c i u = option_map (arrive_one c i) (counted_at u (slice_get c.goroutines i) (due P (slice_get c.goroutines i)))

abbrev pub Counts : Parts → Config → ℕ → ℕ → Bool → Config → Type 0
Counts P c i u true d = count_step P c i u ≡ Some d
Counts P c i u false d = (count_step P c i u ≡ None) × (d ≡ c)
