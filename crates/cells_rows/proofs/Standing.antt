-- Where goroutines stand.
use Rattle.std.proofs.Common.{◌≡◌, ℕ, zero, suc, ◌-◌, ◌<◌, List, Option, Some, None, option_and_then, refl, sym, ap, ◌∙◌, subst, arith}
use Rattle.std.specs.Prelude.{slice_get}
use Rattle.go_meaning.specs.declared.event.Event.{Event}
use Rattle.go_meaning.specs.declared.config.Goroutine.{Goroutine}
use Rattle.go_meaning.specs.declared.config.Config.{Config}
use Rattle.go_meaning.specs.Programs.{Parts}
use Rattle.go_meaning.specs.Steps.{due, numbered}
use Rattle.go_meaning.specs.Histories.{replay}
use Rattle.cov_cells.specs.Rule.{due_after}

nobody_in : (P : Parts) (o : Option Config) → option_and_then (λ (c : Config). due P (numbered c 0)) o ≡ None
nobody_in P None = refl
nobody_in P (Some c) = refl

-- there is no goroutine 0
pub nobody : (P : Parts) (h : List Event) → due_after P h 0 ≡ None
unfolding due_after
nobody P h = nobody_in P (replay P h)

pub due_here : (P : Parts) (h : List Event) (c : Config) (i : ℕ) → replay P h ≡ Some c → due_after P h (suc i) ≡ due P (slice_get c.goroutines i)
unfolding due_after
due_here P h c i e = ap (option_and_then (λ (d : Config). due P (numbered d (suc i)))) e

pub due_at : (P : Parts) (h : List Event) (c : Config) (g : ℕ) (one : Option Goroutine) → 0 < g → replay P h ≡ Some c → slice_get c.goroutines (g - 1) ≡ one → due_after P h g ≡ due P one
due_at P h c zero one some r e = absurd (omega arith)
due_at P h c (suc i) one some r e = let k : suc i - 1 ≡ i = omega arith in due_here P h c i r ∙ ap (due P) (ap (slice_get c.goroutines) (sym k) ∙ e)
