-- One event more.
use Rattle.std.proofs.Common.{◌≡◌, ℕ, suc, ◌+◌, ◌≤◌, List, [], ◌∷◌, ◌++◌, Option, Some, None, refl, sym, ap, ◌∙◌, subst, arith}
use Rattle.std.specs.Prelude.{option_and_then}
use Rattle.std.proofs.lemmas.Option.{none-some, same_Some}
use Rattle.go_meaning.specs.declared.event.End.{End}
use Rattle.go_meaning.specs.declared.event.End.TheVariants as ends
use Rattle.go_meaning.specs.declared.event.Event.{Event}
use Rattle.go_meaning.specs.declared.event.Event.TheVariants.{Step, Count}
use Rattle.go_meaning.specs.declared.config.Config.{Config}
use Rattle.go_meaning.specs.Programs.{Parts}
use Rattle.go_meaning.specs.Steps.{step}
use Rattle.go_meaning.specs.Histories.{start, replay_from, replay, steps_in, IsDead, EndBy, EndIs, Goes, IsHistory}
use Rattle.go_state.specs.Runs.{step_of}

pub steps_more : (h : List Event) (e : Event) → steps_in (h ++ e ∷ []) ≡ steps_in h + step_of e
steps_more [] (Step g k p q) = omega arith
steps_more [] (Count g u) = omega arith
steps_more (Step a b p q ∷ h) e = let i = steps_more h e in omega (arith, i)
steps_more (Count a w ∷ h) e = steps_more h e

module _ (P : Parts) where
  more_from : (es : List Event) (c d : Config) (e : Event) → replay_from P c es ≡ Some d → replay_from P c (es ++ e ∷ []) ≡ step P d e
  unfolding replay_from
  more_from [] c d e h = ends (step P c e) ∙ ap (λ x. step P x e) (same_Some c d h)
    where
      ends : (o : Option Config) → option_and_then (λ x. Some x) o ≡ o
      ends None = refl
      ends (Some x) = refl
  more_from (x ∷ es) c d e h = by (step P c x) (λ y g. more_from es y d e g) h
    where
      by : (o : Option Config) → ((y : Config) → replay_from P y es ≡ Some d → replay_from P y (es ++ e ∷ []) ≡ step P d e) → option_and_then (λ y. replay_from P y es) o ≡ Some d → option_and_then (λ y. replay_from P y (es ++ e ∷ [])) o ≡ step P d e
      by None go g = absurd (none-some d g)
      by (Some y) go g = go y g

  pub replay_more : (h : List Event) (c : Config) (e : Event) → replay P h ≡ Some c → replay P (h ++ e ∷ []) ≡ step P c e
  replay_more h c e r = more_from h (start P) c e r

  module _ (limit : ℕ) where
    -- the event can come after so many program steps that have led to a configuration
    abbrev pub Follows : Config → ℕ → Event → Config → Type 0
    Follows c n (Step g k p q) d = EndIs P limit c n None × (step P c (Step g k p q) ≡ Some d)
    Follows c n (Count g u) d = step P c (Count g u) ≡ Some d

    last_goes : (c d f : Config) (n : ℕ) (e : Event) → c ≡ d → Follows d n e f → Goes P limit c n (e ∷ [])
    unfolding Goes
    last_goes c d f n (Step g k p q) i w = let F : Config → Type 0 = λ x. Goes P limit x n (Step g k p q ∷ []) in subst F (sym i) (w.0, (f, w.1, tt))
    last_goes c d f n (Count g u) i w = let F : Config → Type 0 = λ x. Goes P limit x n (Count g u ∷ []) in subst F (sym i) (f, w, tt)

    goes_more : (h : List Event) (c d f : Config) (n m : ℕ) (e : Event) → Goes P limit c n h → replay_from P c h ≡ Some d → m ≡ n + steps_in h → Follows d m e f → Goes P limit c n (h ++ e ∷ [])
    unfolding Goes replay_from
    goes_more [] c d f n m e g r i w = let F : ℕ → Type 0 = λ x. Follows d x e f in let j : m ≡ n = omega (arith, i) in last_goes c d f n e (same_Some c d r) (subst F j w)
    goes_more (Step a k p q ∷ h) c d f n m e g r i w = (g.0, (g.1.0, g.1.1, goes_more h g.1.0 d f (suc n) m e g.1.2 (sym (ap (option_and_then (λ y. replay_from P y h)) g.1.1) ∙ r) (omega (arith, i)) w))
    goes_more (Count a u ∷ h) c d f n m e g r i w = (g.0, g.1, goes_more h g.0 d f n m e g.2 (sym (ap (option_and_then (λ y. replay_from P y h)) g.1) ∙ r) i w)

    first_goes : (c d : Config) (n : ℕ) (e : Event) → c ≡ d → Goes P limit c n (e ∷ []) → (f : Config) × Follows d n e f
    unfolding Goes
    first_goes c d n (Step g k p q) i w = let F : Config → Type 0 = λ x. (f : Config) × Follows x n (Step g k p q) f in subst F i (w.1.0, (w.0, w.1.1))
    first_goes c d n (Count g u) i w = let F : Config → Type 0 = λ x. (f : Config) × Follows x n (Count g u) f in subst F i (w.0, w.1)

    goes_last : (h : List Event) (c d : Config) (n m : ℕ) (e : Event) → Goes P limit c n (h ++ e ∷ []) → replay_from P c h ≡ Some d → m ≡ n + steps_in h → (f : Config) × Follows d m e f
    unfolding Goes replay_from
    goes_last [] c d n m e g r i = let F : ℕ → Type 0 = λ x. (f : Config) × Follows d x e f in let j : n ≡ m = omega (arith, i) in subst F j (first_goes c d n e (same_Some c d r) g)
    goes_last (Step a k p q ∷ h) c d n m e g r i = goes_last h g.1.0 d (suc n) m e g.1.2 (sym (ap (option_and_then (λ y. replay_from P y h)) g.1.1) ∙ r) (omega (arith, i))
    goes_last (Count a u ∷ h) c d n m e g r i = goes_last h g.0 d n m e g.2 (sym (ap (option_and_then (λ y. replay_from P y h)) g.1) ∙ r) i

    -- a history with such an event is a history
    pub history_more : (h : List Event) (c d : Config) (m : ℕ) (e : Event) → IsHistory P limit h → replay P h ≡ Some c → m ≡ steps_in h → Follows c m e d → IsHistory P limit (h ++ e ∷ [])
    history_more h c d m e g r i w = goes_more h (start P) c d 0 m e g r (omega (arith, i)) w

    -- and the last event of a history is one
    pub history_last : (h : List Event) (c : Config) (m : ℕ) (e : Event) → IsHistory P limit (h ++ e ∷ []) → replay P h ≡ Some c → m ≡ steps_in h → (d : Config) × Follows c m e d
    history_last h c m e g r i = goes_last h (start P) c 0 m e g r (omega (arith, i))

    -- a history has one end
    pub no_end : (n : ℕ) (c : Config) (e : End) → EndIs P limit c n None → EndIs P limit c n (Some e) → ⊥
    no_end n c e h w = by c.end e h w
      where
        by : (o : Option End) (e : End) → EndBy o (IsDead P c) (limit ≤ n) None → EndBy o (IsDead P c) (limit ≤ n) (Some e) → ⊥
        by (Some x) e n s = none-some x n
        by None ends.Deadlock n s = n.0 s
        by None ends.StepLimit n s = n.1 s.1
        by None e n s = s
