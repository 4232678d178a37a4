-- There is at most one serial history.
use Rattle.std.proofs.Common.{◌≡◌, ℕ, zero, suc, ◌<◌, ◌≤◌, Bool, true, false, cond, List, ◌∷◌, ◌++◌, Option, Some, None, refl, sym, ap, ap₂, ◌∙◌, subst, inl, inr, ◌⊎◌, ⊎_elim, arith}
use Rattle.std.specs.Prelude.{slice_get, ◌==◌, option_map}
use Rattle.std.proofs.lemmas.Option.{none-some, same_Some}
use Rattle.go_meaning.specs.declared.event.End.{End}
use Rattle.go_meaning.specs.declared.event.End.TheVariants as ends
use Rattle.go_meaning.specs.declared.event.Event.{Event}
use Rattle.go_meaning.specs.declared.event.Event.TheVariants.{Step, Count}
use Rattle.go_meaning.specs.declared.config.Goroutine.{Goroutine}
use Rattle.go_meaning.specs.declared.config.Config.{Config}
use Rattle.go_meaning.specs.Programs.{Parts}
use Rattle.go_meaning.specs.Steps.{arrive, together, arrive_both, due, numbered, step}
use Rattle.go_meaning.specs.Readiness.{is_over, IsBefore, IsLeast, IsIdle}
use Rattle.go_meaning.specs.Histories.{IsDead, EndBy, EndIs}
use Rattle.go_meaning.specs.Serial.{IsNext, Turn, turn_limit, Leads, stays, steps, counts, passes, due_from, first_turn, IsSerial}
use Rattle.go_meaning.specs.Laws.{OneSerialHistory}
use Rattle.go_meaning.proofs.Standing.{IsStill, still_first, due_still, there, own_count}

-- ---- numbers

compare : (a b : ℕ) → (a < b) ⊎ ((b < a) ⊎ (a ≡ b))
compare zero zero = inr (inr refl)
compare zero (suc b) = inl (omega arith)
compare (suc a) zero = inr (inl (omega arith))
compare (suc a) (suc b) = ⊎_elim (λ h. inl (omega (arith, h))) (λ x. inr (⊎_elim (λ h. inl (omega (arith, h))) (λ e. inr (ap suc e)) x)) (compare a b)

-- of three numbers each, one comes before the other, or they are the same
record AreSame (k p q k' p' q' : ℕ) : Type 0 where
  cases : k ≡ k'
  partners : p ≡ p'
  partner_cases : q ≡ q'

in_order : (k p q k' p' q' : ℕ) → IsBefore k p q k' p' q' ⊎ (IsBefore k' p' q' k p q ⊎ AreSame k p q k' p' q')
in_order k p q k' p' q' = ⊎_elim (λ h. inl (inl h)) (λ x. ⊎_elim (λ h. inr (inl (inl h))) same_case x) (compare k k')
  where
    same_case : k ≡ k' → IsBefore k p q k' p' q' ⊎ (IsBefore k' p' q' k p q ⊎ AreSame k p q k' p' q')
    same_case e = ⊎_elim (λ h. inl (inr (e, inl h))) (λ x. ⊎_elim (λ h. inr (inl (inr (sym e, inl h)))) same_partner x) (compare p p')
      where
        same_partner : p ≡ p' → IsBefore k p q k' p' q' ⊎ (IsBefore k' p' q' k p q ⊎ AreSame k p q k' p' q')
        same_partner f = ⊎_elim (λ h. inl (inr (e, inr (f, h)))) (λ x. ⊎_elim (λ h. inr (inl (inr (sym e, inr (sym f, h))))) (λ w. inr (inr (record { cases = e; partners = f; partner_cases = w }))) x) (compare q q')

-- ---- what a goroutine does next is one thing

module _ (P : Parts) where
  least_same : (c d d' : Config) (g k p q k' p' q' : ℕ) → IsLeast P c g k p q d → IsLeast P c g k' p' q' d' → AreSame k p q k' p' q'
  least_same c d d' g k p q k' p' q' l l' =
      ⊎_elim (λ b. absurd (none-some d (sym (l'.first k p q b) ∙ l.leads))) (λ x. ⊎_elim (λ b. absurd (none-some d' (sym (l.first k' p' q' b) ∙ l'.leads))) (λ s. s) x) (in_order k p q k' p' q')

  -- at a counter there is no step of the program
  apart_none : (c : Config) (i j k q : ℕ) (b : Bool) → IsStill P c (slice_get c.goroutines i) → cond b None (option_map (arrive_both c i j) (together P c k q (slice_get c.goroutines i) (slice_get c.goroutines j))) ≡ None
  apart_none c i j k q true h = refl
  apart_none c i j k q false h = ap (option_map (arrive_both c i j)) (still_first P c k q (slice_get c.goroutines i) (slice_get c.goroutines j) h)

  still_step : (c : Config) (i k p q : ℕ) → IsStill P c (slice_get c.goroutines i) → step P c (Step (suc i) k p q) ≡ None
  unfolding step
  still_step c i k zero zero h = ap (option_map (arrive c i)) (h.alone i k)
  still_step c i k zero (suc q) h = refl
  still_step c i k (suc j) q h = apart_none c i j k q (i == j) h

  due_step : (c : Config) (g u k p q : ℕ) → due P (numbered c g) ≡ Some u → step P c (Step g k p q) ≡ None
  due_step c zero u k p q e = absurd (none-some u e)
  due_step c (suc i) u k p q e =
      let go = there P c (suc i) u e in
      let F : Option Goroutine → Type 0 = IsStill P c in
      still_step c i k p q (subst F (sym go.1) (due_still P c go.0 u (ap (due P) (sym go.1) ∙ e)))

  no_end : (limit k : ℕ) (c : Config) (e : End) → EndIs P limit c k None → EndIs P limit c k (Some e) → ⊥
  no_end limit k c e h w = by c.end e h w
    where
      by : (o : Option End) (e : End) → EndBy o (IsDead P c) (limit ≤ k) None → EndBy o (IsDead P c) (limit ≤ k) (Some e) → ⊥
      by (Some x) e n s = none-some x n
      by None ends.Deadlock n s = n.0 s
      by None ends.StepLimit n s = n.1 s.1
      by None e n s = s

  -- ---- whose turn comes next

  next_not : (c : Config) (g h h' : ℕ) → IsNext c g h → IsNext c g h' → h < h' → ⊥
  next_not c g h h' n n' l = ⊎_elim greater least n'.order
    where
      both : is_over (numbered c h) ≡ true → ⊥
      both e = cc (sym n.lives ∙ e)

      greater : (g < h') × ((j : ℕ) → g < j → j < h' → is_over (numbered c j) ≡ true) → ⊥
      greater x = ⊎_elim (λ y. both (x.1 h y.0 l)) (λ y. cc (sym n'.lives ∙ y.0 h' x.0)) n.order

      least : ((j : ℕ) → g < j → is_over (numbered c j) ≡ true) × ((j : ℕ) → j < h' → is_over (numbered c j) ≡ true) → ⊥
      least x = both (x.1 h l)

  next_same : (c : Config) (g h h' : ℕ) → IsNext c g h → IsNext c g h' → h ≡ h'
  next_same c g h h' n n' = ⊎_elim (λ l. absurd (next_not c g h h' n n' l)) (λ x. ⊎_elim (λ l. absurd (next_not c g h' h n' n l)) (λ e. e) x) (compare h h')

  -- ---- the schedule

  record Agree (es es' : List Event) (u u' : Turn) : Type 0 where
    events : es ≡ es'
    config : u.config ≡ u'.config

  module _ (limit : ℕ) where
    -- a step and a counter step
    step_count : (t : Turn) (k p q w : ℕ) (d x : Config) → IsLeast P t.config t.now k p q d → step P t.config (Count t.now w) ≡ Some x → ⊥
    step_count t k p q w d x l e = none-some d (sym (due_step t.config t.now w k p q (own_count P t.config x t.now w e)) ∙ l.leads)

    -- a step or a counter step, and a turn that is over
    step_pass : (t : Turn) (k p q : ℕ) (d : Config) → IsLeast P t.config t.now k p q d → t.taken < turn_limit → IsIdle P t.config t.now ⊎ (turn_limit ≤ t.taken) → ⊥
    step_pass t k p q d l n i = ⊎_elim (λ (x : IsIdle P t.config t.now). none-some d (sym (x.steps k p q) ∙ l.leads)) (λ m. absurd (over t.taken n m)) i
      where
        over : (a : ℕ) → a < 1000 → 1000 ≤ a → ⊥
        over a x y = omega (arith, x, y)

    count_pass : (t : Turn) (w : ℕ) (x : Config) → step P t.config (Count t.now w) ≡ Some x → t.taken < turn_limit → IsIdle P t.config t.now ⊎ (turn_limit ≤ t.taken) → ⊥
    count_pass t w x e n i = ⊎_elim (λ (y : IsIdle P t.config t.now). none-some w (sym y.due ∙ own_count P t.config x t.now w e)) (λ m. absurd (over t.taken n m)) i
      where
        over : (a : ℕ) → a < 1000 → 1000 ≤ a → ⊥
        over a x y = omega (arith, x, y)

    agree : (t u u' : Turn) (es es' : List Event) (e e' : End) → Leads P limit t es u → Leads P limit t es' u' → EndIs P limit u.config u.steps (Some e) → EndIs P limit u'.config u'.steps (Some e') → Agree es es' u u'
    agree t u u' es es' e e' (stays v) (stays v') h h' = record { events = refl; config = refl }
    agree t u u' es es' e e' (stays v) (steps v' w' d k p q fs x n l m) h h' = absurd (no_end limit t.steps t.config e x h)
    agree t u u' es es' e e' (stays v) (counts v' w' d c fs x n k m) h h' = absurd (no_end limit t.steps t.config e x h)
    agree t u u' es es' e e' (stays v) (passes v' w' g fs x i n m) h h' = absurd (no_end limit t.steps t.config e x h)
    agree t u u' es es' e e' (steps v w d k p q fs x n l m) (stays v') h h' = absurd (no_end limit t.steps t.config e' x h')
    agree t u u' es es' e e' (counts v w d c fs x n k m) (stays v') h h' = absurd (no_end limit t.steps t.config e' x h')
    agree t u u' es es' e e' (passes v w g fs x i n m) (stays v') h h' = absurd (no_end limit t.steps t.config e' x h')
    agree t u u' es es' e e' (steps v w d k p q fs x n l m) (steps v' w' d' k' p' q' fs' x' n' l' m') h h' =
        let s = least_same t.config d d' t.now k p q k' p' q' l l' in
        let ev : Step t.now k p q ≡ Step t.now k' p' q' = ap (λ j. Step t.now j p q) s.cases ∙ ap (λ j. Step t.now k' j q) s.partners ∙ ap (Step t.now k' p') s.partner_cases in
        let same : d' ≡ d = same_Some d' d (sym l'.leads ∙ ap (step P t.config) (sym ev) ∙ l.leads) in
        let F : Config → Type 0 = λ y. Leads P limit (record { config = y; now = t.now; taken = suc t.taken; steps = suc t.steps }) fs' u' in
        let a = agree (record { config = d; now = t.now; taken = suc t.taken; steps = suc t.steps }) u u' fs fs' e e' m (subst F same m') h h' in
        record { events = ap₂ (λ y ys. y ∷ ys) ev a.events; config = a.config }
    agree t u u' es es' e e' (steps v w d k p q fs x n l m) (counts v' w' d' c' fs' x' n' k' m') h h' = absurd (step_count t k p q c' d d' l k')
    agree t u u' es es' e e' (counts v w d c fs x n k m) (steps v' w' d' k' p' q' fs' x' n' l' m') h h' = absurd (step_count t k' p' q' c d' d l' k)
    agree t u u' es es' e e' (counts v w d c fs x n k m) (counts v' w' d' c' fs' x' n' k' m') h h' =
        let s : c ≡ c' = same_Some c c' (sym (own_count P t.config d t.now c k) ∙ own_count P t.config d' t.now c' k') in
        let same : d' ≡ d = same_Some d' d (sym k' ∙ ap (λ j. step P t.config (Count t.now j)) (sym s) ∙ k) in
        let F : Config → Type 0 = λ y. Leads P limit (record t { config = y }) fs' u' in
        let a = agree (record t { config = d }) u u' fs fs' e e' m (subst F same m') h h' in
        record { events = ap₂ (λ y ys. y ∷ ys) (ap (Count t.now) s) a.events; config = a.config }
    agree t u u' es es' e e' (steps v w d k p q fs x n l m) (passes v' w' g' fs' x' i' n' m') h h' = absurd (step_pass t k p q d l n i')
    agree t u u' es es' e e' (passes v w g fs x i n m) (steps v' w' d' k' p' q' fs' x' n' l' m') h h' = absurd (step_pass t k' p' q' d' l' n' i)
    agree t u u' es es' e e' (counts v w d c fs x n k m) (passes v' w' g' fs' x' i' n' m') h h' = absurd (count_pass t c d k n i')
    agree t u u' es es' e e' (passes v w g fs x i n m) (counts v' w' d' c' fs' x' n' k' m') h h' = absurd (count_pass t c' d' k' n' i)
    agree t u u' es es' e e' (passes v w g fs x i n m) (passes v' w' g' fs' x' i' n' m') h h' =
        let s : g' ≡ g = next_same t.config t.now g' g n' n in
        let F : ℕ → Type 0 = λ y. Leads P limit (record t { now = y; taken = 0 }) fs' u' in
        agree (record t { now = g; taken = 0 }) u u' fs fs' e e' m (subst F s m') h h'

    pub one_serial : (h h' : List Event) → IsSerial P limit h → IsSerial P limit h' → h ≡ h'
    one_serial h h' s s' =
        let a = agree (first_turn P) s.last s'.last s.events s'.events s.end s'.end s.leads s'.leads s.ends s'.ends in
        s.whole ∙ ap₂ (λ (es : List Event) (c : Config). es ++ due_from P 1 c.goroutines) a.events a.config ∙ sym s'.whole

pub one_serial_history : OneSerialHistory
one_serial_history P limit h h' s s' = one_serial P limit h h' s s'
