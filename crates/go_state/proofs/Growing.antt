-- Histories that grow, what begins them, and their end.
use Rattle.std.proofs.Common.{◌≡◌, ℕ, suc, ◌≤◌, List, [], ◌∷◌, ◌++◌, ◌⊎◌, ⊎_elim, Option, Some, None, refl, sym, ap, ◌∙◌, subst}
use Rattle.std.specs.Prelude.{option_and_then, IfSome}
use Rattle.go_meaning.specs.declared.event.End.{End}
use Rattle.go_meaning.specs.declared.event.End.TheVariants as ends
use Rattle.go_meaning.specs.declared.event.Event.{Event}
use Rattle.go_meaning.specs.declared.event.Event.TheVariants.{Step, Count}
use Rattle.go_meaning.specs.declared.config.Config.{Config}
use Rattle.go_meaning.specs.Programs.{Parts}
use Rattle.go_meaning.specs.Steps.{step}
use Rattle.go_meaning.specs.Histories.{start, replay_from, steps_in, IsDead, EndBy, EndIs, EndAfter, Goes, IsCount}
use Rattle.go_state.specs.Laws.{HistoriesGrow, HistoriesBegin, ReplaysGrow, OneEnd}
use Rattle.go_state.proofs.Replays.{Follows, replay_more, history_more}

pub replays_grow : ReplaysGrow
replays_grow P h c e w = replay_more P h c e w

pub histories_grow : HistoriesGrow
histories_grow P limit h c d e i w s o = history_more P limit h c d (steps_in h) e i w refl (follows e o s)
  where
    at : EndAfter P limit h None → EndIs P limit c (steps_in h) None
    at x = let F : Option Config → Type 0 = λ y. IfSome y (λ z. EndIs P limit z (steps_in h) None) in subst F w x

    follows : (x : Event) → IsCount x ⊎ EndAfter P limit h None → step P c x ≡ Some d → Follows P limit c (steps_in h) x d
    follows (Step g k p q) y t = (⊎_elim (λ v. absurd v) at y, t)
    follows (Count g u) y t = t

begins : (P : Parts) (limit n : ℕ) (c : Config) (h es : List Event) → Goes P limit c n (h ++ es) → Goes P limit c n h
unfolding Goes
begins P limit n c [] es g = tt
begins P limit n c (Step a k p q ∷ h) es g = (g.0, (g.1.0, g.1.1, begins P limit (suc n) g.1.0 h es g.1.2))
begins P limit n c (Count a u ∷ h) es g = (g.0, g.1, begins P limit n g.0 h es g.2)

pub histories_begin : HistoriesBegin
histories_begin P limit h es g = begins P limit 0 (start P) h es g

-- ---- the end

one : (own o p : Option End) (dead late : Type 0) → EndBy own dead late o → EndBy own dead late p → o ≡ p
one (Some e) o p dead late a b = a ∙ sym b
one None None None dead late a b = refl
one None None (Some ends.Deadlock) dead late a b = absurd (a.0 b)
one None None (Some ends.StepLimit) dead late a b = absurd (a.1 b.1)
one None None (Some e) dead late a b = absurd b
one None (Some ends.Deadlock) None dead late a b = absurd (b.0 a)
one None (Some ends.Deadlock) (Some ends.Deadlock) dead late a b = refl
one None (Some ends.Deadlock) (Some ends.StepLimit) dead late a b = absurd (b.0 a)
one None (Some ends.Deadlock) (Some e) dead late a b = absurd b
one None (Some ends.StepLimit) None dead late a b = absurd (b.1 a.1)
one None (Some ends.StepLimit) (Some ends.Deadlock) dead late a b = absurd (a.0 b)
one None (Some ends.StepLimit) (Some ends.StepLimit) dead late a b = refl
one None (Some ends.StepLimit) (Some e) dead late a b = absurd b
one None (Some e) p dead late a b = absurd a

goes_replays : (P : Parts) (limit n : ℕ) (c : Config) (h : List Event) → Goes P limit c n h → (d : Config) × (replay_from P c h ≡ Some d)
unfolding Goes replay_from
goes_replays P limit n c [] g = (c, refl)
goes_replays P limit n c (Step a k p q ∷ h) g = let r = goes_replays P limit (suc n) g.1.0 h g.1.2 in (r.0, ap (option_and_then (λ y. replay_from P y h)) g.1.1 ∙ r.1)
goes_replays P limit n c (Count a u ∷ h) g = let r = goes_replays P limit n g.0 h g.2 in (r.0, ap (option_and_then (λ y. replay_from P y h)) g.1 ∙ r.1)

pub one_end : OneEnd
one_end P limit h o p g a b =
    let r = goes_replays P limit 0 (start P) h g in
    let F : Option End → Option Config → Type 0 = λ x y. IfSome y (λ z. EndIs P limit z (steps_in h) x) in
    let G : Option Config → Type 0 = F o in
    let H : Option Config → Type 0 = F p in
    one r.0.end o p (IsDead P r.0) (limit ≤ steps_in h) (subst G r.1 a) (subst H r.1 b)
