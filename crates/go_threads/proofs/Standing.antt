-- Where goroutines stand.
use Rattle.std.proofs.Common.{◌≡◌, ℕ, zero, suc, ◌-◌, ◌<◌, ◌≤◌, ⊎_elim, List, length, Bool, false, Option, Some, None, option_and_then, refl, sym, ap, ◌∙◌, subst, arith}
use Rattle.std.specs.Prelude.{slice_get, IfSome}
use Rattle.std.specs.Option.{is_some, option_map_or}
use Rattle.std.proofs.lemmas.Option.{none-some, slice_get_cases}
use Rattle.go_meaning.specs.declared.event.Event.{Event}
use Rattle.go_meaning.specs.declared.config.Goroutine.{Goroutine}
use Rattle.go_meaning.specs.declared.config.Config.{Config}
use Rattle.go_meaning.specs.Programs.{Parts}
use Rattle.go_meaning.specs.Steps.{due, numbered}
use Rattle.go_meaning.specs.Histories.{replay}
use Rattle.go_meaning.specs.WellFormed.{IsProgram}
use Rattle.go_meaning.specs.Laws.{UnitsAreBelow}
use Rattle.go_state.specs.Runs.{goroutines_after}
use Rattle.cov_cells.specs.Rule.{due_after}

-- a fact of the configuration that events lead to
pub after : (F : Config → Type 0) (o : Option Config) (c : Config) → o ≡ Some c → F c → IfSome o F
after F o c e f = subst (λ p. IfSome p F) (sym e) f

pub at : (F : Config → Type 0) (o : Option Config) (c : Config) → o ≡ Some c → IfSome o F → F c
at F o c e f = subst (λ p. IfSome p F) e f

pub due_numbered : (P : Parts) (h : List Event) (c : Config) (g : ℕ) → replay P h ≡ Some c → due_after P h g ≡ due P (numbered c g)
unfolding due_after
due_numbered P h c g e = ap (option_and_then (λ (d : Config). due P (numbered d g))) e

index : (P : Parts) (c : Config) (g : ℕ) → 0 < g → due P (slice_get c.goroutines (g - 1)) ≡ due P (numbered c g)
index P c zero some = absurd (omega arith)
index P c (suc i) some = let k : suc i - 1 ≡ i = omega arith in ap (λ j. due P (slice_get c.goroutines j)) k

pub due_at : (P Q : Parts) (h : List Event) (c : Config) (g : ℕ) → Q ≡ P → 0 < g → replay P h ≡ Some c → due Q (slice_get c.goroutines (g - 1)) ≡ due_after P h g
due_at P Q h c g same some r = ap (λ R. due R (slice_get c.goroutines (g - 1))) same ∙ index P c g some ∙ sym (due_numbered P h c g r)

pub not_due : (P Q : Parts) (h : List Event) (c : Config) (g u : ℕ) → Q ≡ P → replay P h ≡ Some c → due_after P h g ≡ None → due Q (numbered c g) ≡ Some u → ⊥
not_due P Q h c g u same r none stands = none-some u (sym none ∙ due_numbered P h c g r ∙ ap (λ R. due R (numbered c g)) (sym same) ∙ stands)

-- a goroutine with a number up to how many there are is there
pub there : (c : Config) (g : ℕ) → 0 < g → g ≤ length c.goroutines → (go : Goroutine) × (numbered c g ≡ Some go)
there c zero some few = absurd (omega arith)
there c (suc i) some few = ⊎_elim (λ x. (x.0, x.2)) (λ y. absurd (let a = y.0 in omega (arith, a, few))) (slice_get_cases c.goroutines i).1

pub absent : {A : Type 0} (o : Option A) → false ≡ is_some o → o ≡ None
absent None e = refl
absent (Some x) e = cc

pub many : (P : Parts) (h : List Event) (c : Config) → replay P h ≡ Some c → goroutines_after P h ≡ length c.goroutines
many P h c e = ap (λ o. option_map_or (λ (d : Config). length d.goroutines) o 0) e
