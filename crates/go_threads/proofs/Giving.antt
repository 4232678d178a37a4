-- What a turn gives.
use Rattle.std.proofs.Common.{◌≡◌, ℕ, suc, ◌+◌, ◌*◌, ◌<◌, ◌≤◌, false, List, [], ◌∷◌, ◌++◌, length, Option, Some, None, append_assoc, append-nil, length-append, refl, sym, ap, ◌∙◌, subst, arith}
use Rattle.std.specs.Prelude.{option_to_list}
use Rattle.go_meaning.specs.declared.event.Event.{Event}
use Rattle.go_meaning.specs.declared.event.Event.TheVariants.{Step, Count}
use Rattle.go_meaning.specs.Programs.{Parts}
use Rattle.go_meaning.specs.Entries.{count_at}
use Rattle.go_state.specs.declared.limits.Limits.{Limits}
use Rattle.go_state.specs.Runs.{RunState}
use Rattle.cov_cells.specs.declared.view.Origin.{Origin}
use Rattle.cov_cells.specs.declared.view.View.{View}
use Rattle.cov_cells.specs.Rule.{Fits}
use Rattle.cov_cells.specs.Steps.{FitsIn, IsHanded, MayGive, counter_steps, after_take, after_give, after_count}
use Rattle.go_threads.specs.declared.turning.Turned.{Turned}
use Rattle.go_threads.specs.Turns.{Finds, GoesOn, Grows, Halts, IsWhole, OwnSteps}

-- steps of the program are no counter steps
none_counted : (g : ℕ) (es : List Event) → OwnSteps g es → counter_steps es ≡ []
none_counted g [] o = refl
none_counted g (Step a k p q ∷ es) o = none_counted g es o.1
none_counted g (Count a u ∷ es) o = absurd o

only : (p : Option ℕ) (n : ℕ) (es : List Event) → counter_steps es ≡ [] → counter_steps (count_at p n ++ es) ≡ count_at p n
only None n es e = e
only (Some u) n es e = ap (λ l. Count n u ∷ l) e

-- the pending counter step was recorded, and then came steps of the goroutine
pub may_give : (o : Origin) (v w : View) (x y z : RunState) (n g most : ℕ) (p : Option ℕ) → v.origin ≡ Some o → w ≡ after_take v x → IsHanded v x → Grows x (count_at p n) y → GoesOn g most y z → p ≡ v.pending → n ≡ v.number → MayGive w z
may_give o v w x y z n g most p origin took handed first on pending number =
    let fits : Fits o x = subst (λ (q : Option Origin). FitsIn q x) origin handed.fits in
    let more = on.grows in
    record {
      origin = o;
      is = ap (λ (s : View). s.origin) took ∙ origin;
      program = more.program ∙ first.program ∙ fits.program;
      limits = more.limits ∙ first.limits ∙ fits.limits;
      served = more.served ∙ first.served ∙ sym (ap (λ (s : View). s.served) took);
      room = (let a = fits.room in let b = first.room in let d = more.room in omega arith);
      added = count_at p n ++ on.steps;
      begins = more.history ∙ ap (λ h. h ++ on.steps) first.history ∙ append_assoc x.history (count_at p n) on.steps ∙ ap (λ h. h ++ (count_at p n ++ on.steps)) (sym (ap (λ (s : View). s.taken) took));
      records = only p n on.steps (none_counted g on.steps on.own) ∙ ap (λ d. count_at d n) (pending ∙ sym (ap (λ (s : View). s.pending) took)) ∙ ap (count_at w.pending) (number ∙ sym (ap (λ (s : View). s.number) took));
    }

-- nothing is counted where nothing is due
pub idle_count : (v : View) → v.due ≡ None → v.pending ≡ None → v ≡ after_count v
idle_count v due pending =
    let p : v.counted ≡ v.counted ++ option_to_list v.due = sym (append-nil v.counted) ∙ ap (λ d. v.counted ++ option_to_list d) (sym due) in
    let q : v.pending ≡ v.due = pending ∙ sym due in
    λ i. record v { counted = p i; pending = q i }

-- fewer than all steps were taken only where the goroutine halts
pub whole : (P : Parts) (limit : ℕ) (v w : View) (x y z : RunState) (n : ℕ) (p due : Option ℕ) → w ≡ after_count (after_give (after_take v x) z due) → Grows x (count_at p n) y → GoesOn n 1000 y z → p ≡ v.pending → n ≡ v.number → z.refused ≡ false
    → z.program ≡ P → z.limits.steps ≡ limit → IsWhole P limit v w
whole P limit v w x y z n p due e first on pending number fine program limits below =
    let given : w.given ≡ z.history = ap (λ (s : View). s.given) e in
    let taken : w.taken ≡ x.history = ap (λ (s : View). s.taken) e in
    let one : length y.history ≡ length x.history + length (count_at p n) = ap length first.history ∙ length-append x.history (count_at p n) in
    let two : length z.history ≡ length y.history + length on.steps = ap length on.grows.history ∙ length-append y.history on.steps in
    let same : length (count_at p n) ≡ length (count_at v.pending v.number) = ap (λ d. length (count_at d n)) pending ∙ ap (λ k. length (count_at v.pending k)) number in
    let g = ap length given in
    let t = ap length taken in
    let few : length on.steps < 1000 = omega (arith, below, one, two, same, g, t) in
    subst (λ Q. Halts Q limit w.given v.number) program
    (subst (λ l. Halts z.program l w.given v.number) limits (subst (λ h. Halts z.program z.limits.steps h v.number) (sym given) (subst (λ k. Halts z.program z.limits.steps z.history k) number (on.halts fine few))))

-- what was found is what the history taken leads to
pub found : (P : Parts) (limit : ℕ) (h : List Event) (g n : ℕ) (x : RunState) (t : Turned) → Finds x.program x.limits.steps x.history n t → x.program ≡ P → x.limits.steps ≡ limit → h ≡ x.history → n ≡ g → Finds P limit h g t
found P limit h g n x t f program limits history number =
    subst (λ Q. Finds Q limit h g t) program
    (subst (λ l. Finds x.program l h g t) limits (subst (λ l. Finds x.program x.limits.steps l g t) (sym history) (subst (λ k. Finds x.program x.limits.steps x.history k t) number f)))

pub own_more : (g : ℕ) (es : List Event) (k p q : ℕ) → OwnSteps g es → OwnSteps g (es ++ Step g k p q ∷ [])
own_more g [] k p q o = (refl, tt)
own_more g (Step a i j l ∷ es) k p q o = (o.0, own_more g es k p q o.1)
own_more g (Count a u ∷ es) k p q o = absurd o

pub grows_on : (a b d : RunState) (es more : List Event) → Grows a es b → Grows b more d → Grows a (es ++ more) d
grows_on a b d es more e m = record {
  program = m.program ∙ e.program;
  limits = m.limits ∙ e.limits;
  served = m.served ∙ e.served;
  history = m.history ∙ ap (λ h. h ++ more) e.history ∙ append_assoc a.history es more;
  room = (let r = e.room in let s = m.room in omega arith);
}
