-- What a goroutine can do, and the event that it takes where several are possible.
use Rattle.std.specs.Prelude.{◌≡◌, ℕ, ◌<◌, ◌⊎◌, Bool, true, false, List, [], ◌∷◌, Option, Some, None}
use Rattle.go_meaning.specs.declared.event.Event.{Event}
use Rattle.go_meaning.specs.declared.event.Event.TheVariants.{Step, Count}
use Rattle.go_meaning.specs.declared.event.Ready.{Ready}
use Rattle.go_meaning.specs.declared.event.Ready.TheVariants as ready
use Rattle.go_meaning.specs.declared.config.Call.{Call}
use Rattle.go_meaning.specs.declared.config.Frame.{Frame}
use Rattle.go_meaning.specs.declared.config.Goroutine.{Goroutine}
use Rattle.go_meaning.specs.declared.config.Config.{Config}
use Rattle.go_meaning.specs.Programs.{Parts}
use Rattle.go_meaning.specs.Steps.{step, due, numbered}

-- it has begun, and has no frames left, or it isn't there
abbrev pub is_over_by : Option Call → List Frame → Bool
is_over_by (Some call) fs = false
is_over_by None [] = true
is_over_by None (f ∷ fs) = false

abbrev pub is_over : Option Goroutine → Bool
is_over None = true
is_over (Some go) = is_over_by go.begin go.frames

-- a clause, a partner and its clause come before others
abbrev pub IsBefore : ℕ → ℕ → ℕ → ℕ → ℕ → ℕ → Type 0
IsBefore k p q k' p' q' = (k < k') ⊎ ((k ≡ k') × ((p < p') ⊎ ((p ≡ p') × (q < q'))))

-- goroutine g has this step, and none that comes before it
pub record IsLeast (P : Parts) (c : Config) (g k p q : ℕ) (d : Config) : Type 0 where
  pub leads : step P c (Step g k p q) ≡ Some d
  pub first : (k' p' q' : ℕ) → IsBefore k' p' q' k p q → step P c (Step g k' p' q') ≡ None

-- goroutine g has no step of the program, and stands at no counter
pub record IsIdle (P : Parts) (c : Config) (g : ℕ) : Type 0 where
  pub steps : (k p q : ℕ) → step P c (Step g k p q) ≡ None
  pub due : due P (numbered c g) ≡ None

-- the event that goroutine g takes
abbrev pub IsFirst : Parts → Config → ℕ → Option Event → Type 0
IsFirst P c g None = IsIdle P c g
IsFirst P c g (Some (Step h k p q)) = (h ≡ g) × ((d : Config) × IsLeast P c g k p q d)
IsFirst P c g (Some (Count h u)) = (h ≡ g) × (due P (numbered c g) ≡ Some u)

abbrev pub IsReady : Parts → Config → ℕ → Ready → Type 0
IsReady P c g ready.Over = is_over (numbered c g) ≡ true
IsReady P c g (ready.Count u) = due P (numbered c g) ≡ Some u
IsReady P c g ready.Step = (k : ℕ) × (p : ℕ) × (q : ℕ) × (d : Config) × (step P c (Step g k p q) ≡ Some d)
IsReady P c g ready.Not = (is_over (numbered c g) ≡ false) × IsIdle P c g
