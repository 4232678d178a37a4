-- A counter step that is pending can be recorded, and there is room for it.
use Rattle.std.proofs.Common.{◌≡◌, ℕ, zero, suc, ◌+◌, ◌*◌, ◌<◌, ◌≤◌, ⊎_elim, Bool, true, false, inl, List, [], ◌∷◌, ◌++◌, length, Option, Some, None, option_and_then, refl, sym, ap, ◌∙◌, subst, arith}
use Rattle.std.specs.Prelude.{slice_get, ◌==◌, option_map, if◌then◌else◌}
use Rattle.std.proofs.lemmas.Option.{none-some, same_Some}
use Rattle.std.proofs.lemmas.Bool.{eq-eqb}
use Rattle.go_meaning.specs.declared.event.Event.{Event}
use Rattle.go_meaning.specs.declared.event.Event.TheVariants.{Count}
use Rattle.go_meaning.specs.declared.config.Goroutine.{Goroutine}
use Rattle.go_meaning.specs.declared.config.Config.{Config}
use Rattle.go_meaning.specs.Programs.{Parts}
use Rattle.go_meaning.specs.WellFormed.{IsProgram}
use Rattle.go_meaning.specs.Units.{counted}
use Rattle.go_meaning.specs.Steps.{step, due, numbered, counted_at, past_frames, arrive_one}
use Rattle.go_meaning.specs.Histories.{replay, IsHistory, StandsAt}
use Rattle.go_meaning.specs.Laws.{ShapesRunAlike, UnitsAreBelow}
use Rattle.go_state.specs.Laws.{HistoriesGrow}
use Rattle.cov_erase.specs.Laws.{HistoriesAreShort}
use Rattle.cov_cells.specs.Rule.{due_after}
use Rattle.go_threads.specs.Runnable.{IsCovered, IsRunnable}
use Rattle.go_threads.proofs.Standing.{after}

-- what leads to a value
pub found_by : {A B : Type 0} (f : A → Option B) (o : Option A) (y : B) → option_and_then f o ≡ Some y → (x : A) × (o ≡ Some x) × (f x ≡ Some y)
found_by f None y e = absurd (none-some y e)
found_by f (Some x) y e = (x, refl, e)

-- the configuration in which a goroutine stands at a counter
pub stands_in : (P : Parts) (h : List Event) (g u : ℕ) → due_after P h g ≡ Some u → (c : Config) × (replay P h ≡ Some c) × (due P (numbered c g) ≡ Some u)
unfolding due_after
stands_in P h g u e = found_by (λ (c : Config). due P (numbered c g)) (replay P h) u e

same_unit : (c : Config) (i u : ℕ) (go : Goroutine) (b : Bool) → b ≡ true → (d : Config) × (option_map (arrive_one c i) (if b then Some (record go { frames = past_frames go.frames }) else None) ≡ Some d)
same_unit c i u go true e = (arrive_one c i (record go { frames = past_frames go.frames }), refl)
same_unit c i u go false e = cc

counts_at : (P : Parts) (c : Config) (i u : ℕ) (o : Option Goroutine) (w : Option ℕ) → due P o ≡ w → w ≡ Some u → (d : Config) × (option_map (arrive_one c i) (counted_at u o w) ≡ Some d)
counts_at P c i u None w e s = absurd (none-some u (e ∙ s))
counts_at P c i u (Some go) None e s = absurd (none-some u s)
counts_at P c i u (Some go) (Some v) e s = same_unit c i u go (v == u) (eq-eqb v u (same_Some v u s))

-- it has its counter step
pub counts : (P : Parts) (c : Config) (g u : ℕ) → due P (numbered c g) ≡ Some u → (d : Config) × (step P c (Count g u) ≡ Some d)
unfolding step
counts P c zero u e = absurd (none-some u e)
counts P c (suc i) u e = counts_at P c i u (slice_get c.goroutines i) (due P (slice_get c.goroutines i)) refl e

-- so the events with it are a history
pub recorded : (P : Parts) (limit : ℕ) (h : List Event) (g u : ℕ) → HistoriesGrow → IsHistory P limit h → due_after P h g ≡ Some u → IsHistory P limit (h ++ Count g u ∷ [])
recorded P limit h g u grow is e = let s = stands_in P h g u e in let t = counts P s.0 g u s.2 in grow P limit h s.0 t.0 (Count g u) is s.1 t.1 (inl tt)

-- there is room
short : (P Q : Parts) (limit spare : ℕ) (h : List Event) (g u : ℕ) → IsCovered P Q → ShapesRunAlike → HistoriesAreShort → IsHistory Q limit h → due_after Q h g ≡ Some u → 2 * limit + 256 ≤ length h + spare → 0 < spare
unfolding StandsAt
short P Q limit spare h g u covered alike few is e room =
    let a = alike Q (counted P) covered.shape in
    let s = stands_in Q h g u e in
    let stands : StandsAt (counted P) h g u = after (λ c. due (counted P) (numbered c g) ≡ Some u) (replay (counted P) h) s.0 (sym (a.replays h) ∙ s.1) (sym (a.dues (numbered s.0 g)) ∙ s.2) in
    let b = (few P limit h covered.plain ((a.histories limit h).0 is)).room g u stands in
    omega arith

pub has_room : (Q : Parts) (limit spare : ℕ) (h : List Event) (g u : ℕ) → IsRunnable Q → IsProgram Q → UnitsAreBelow → ShapesRunAlike → HistoriesAreShort → IsHistory Q limit h → due_after Q h g ≡ Some u
    → 2 * limit + 256 ≤ length h + spare → 0 < spare
has_room Q limit spare h g u runnable program below alike few is e room =
    ⊎_elim (λ plain. let s = stands_in Q h g u e in let b = below Q s.0 g u program s.2 in absurd (omega (arith, b, plain.units))) (λ c. short c.0 Q limit spare h g u c.1 alike few is e room) runnable

-- the unit at whose counter a goroutine stands is one of the program's
pub below : (P Q : Parts) (h : List Event) (g u : ℕ) → UnitsAreBelow → IsProgram P → Q ≡ P → due_after Q h g ≡ Some u → u < P.units
below P Q h g u units program same e = let s = stands_in P h g u (ap (λ R. due_after R h g) (sym same) ∙ e) in units P s.0 g u program s.2
