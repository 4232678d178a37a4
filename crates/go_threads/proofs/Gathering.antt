-- Seats that are joined to seat 0.
use Rattle.std.proofs.Common.{◌≡◌, ℕ, suc, ◌+◌, ◌<◌, ◌≤◌, List, ◌++◌, append_assoc, Option, None, refl, sym, ap, ◌∙◌, subst, arith}
use mathlib.Core.Logic.{dite}
use native.Mathlib.Decide.{ℕ_discrete}
use Rattle.go_meaning.specs.declared.event.Event.{Event}
use Rattle.cov_cells.specs.declared.view.View.{View}
use Rattle.cov_cells.specs.declared.cells.Seat.{Seat}
use Rattle.cov_cells.specs.declared.cells.Cells.{Cells}
use Rattle.cov_cells.specs.Rule.{Begins}
use Rattle.cov_cells.specs.Steps.{after_join}
use Rattle.cov_cells.specs.Seats.{view, origin, IsSameSeat}
use Rattle.go_threads.specs.Seats.{AllRest, IsDone, Leads}
use Rattle.go_threads.specs.Turns.{RestsFrom}
use Rattle.go_threads.proofs.Resting.{rests_later}

pub begins_on : (a b d : List Event) → Begins a b → Begins b d → Begins a d
begins_on a b d p q = (p.0 ++ q.0, q.1 ∙ ap (λ l. l ++ q.0) p.1 ∙ append_assoc a p.0 q.0)

pub leads_joined : (c : Cells) (s t o : Seat) → Leads c s → view t ≡ after_join (view s) (view o) → IsSameSeat s t → Leads c t
leads_joined c s t o l e same = record {
  cells = same.0 ∙ l.cells;
  origin = ap (λ (v : View). v.origin) e ∙ l.origin;
  rests = ap (λ (v : View). v.holding) e ∙ l.rests;
  due = ap (λ (v : View). v.due) e ∙ l.due;
  pending = ap (λ (v : View). v.pending) e ∙ l.pending;
  number = ap (λ (v : View). v.number) e ∙ l.number;
}

-- one seat more was gathered, and one fewer is left
pub counts_joined : (s t o : Seat) (k : ℕ) → (view o).gathered ≡ 0 → view t ≡ after_join (view s) (view o) → (view s).made ≡ (view s).gathered + suc k → (view t).made ≡ (view t).gathered + k
counts_joined s t o k z e h = let a = ap (λ (v : View). v.made) e in let b = ap (λ (v : View). v.gathered) e in omega (arith, a, b, z, h)

-- all that rest so far, and one more
pub rest_joined : (c : Cells) (s t o : Seat) → IsDone c o → (view o).gathered ≡ 0 → view t ≡ after_join (view s) (view o) → Begins (view s).given (view t).given → Begins (view o).given (view t).given
    → (view o).number ≡ (view s).gathered + 1 → AllRest c s (view s).gathered → AllRest c t (view t).gathered
rest_joined c s t o d z e b b' number before n low high =
    let P = (origin c).program in
    let limit = (origin c).limits.steps in
    let g = ap (λ (v : View). v.gathered) e in
    dite (ℕ_discrete n (view o).number) (λ same. subst (λ k. RestsFrom P limit (view t).given k) (sym same) (rests_later P limit (view o).given (view t).given (view o).number b' d.rests))
    (λ other. rests_later P limit (view s).given (view t).given n b (before n low (let x : (n ≡ (view o).number) → ⊥ = other in omega (arith, x, g, z, number, high))))
