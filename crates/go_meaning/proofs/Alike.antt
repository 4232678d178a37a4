-- Programs with the same steps have the same histories.
use Rattle.std.proofs.Common.{◌≡◌, ℕ, suc, ◌≤◌, List, [], ◌∷◌, ◌++◌, Option, Some, None, refl, sym, ap, ap₂, ◌∙◌, subst, inl, inr, ⊎_elim}
use Rattle.std.specs.Prelude.{option_and_then, IfSome}
use Rattle.go_meaning.specs.declared.event.End.{End}
use Rattle.go_meaning.specs.declared.event.End.TheVariants as ends
use Rattle.go_meaning.specs.declared.event.Event.{Event}
use Rattle.go_meaning.specs.declared.event.Event.TheVariants.{Step, Count}
use Rattle.go_meaning.specs.declared.config.Goroutine.{Goroutine}
use Rattle.go_meaning.specs.declared.config.Config.{Config}
use Rattle.go_meaning.specs.Programs.{Parts}
use Rattle.go_meaning.specs.Steps.{step, due, numbered}
use Rattle.go_meaning.specs.Readiness.{IsIdle}
use Rattle.go_meaning.specs.Histories.{start, replay_from, replay, steps_in, IsDead, EndBy, EndIs, EndAfter, Goes, IsHistory}
use Rattle.go_meaning.specs.Entries.{count_at}
use Rattle.go_meaning.specs.Serial.{Turn, Leads, stays, steps, counts, passes, due_from, first_turn, IsSerial}
use Rattle.go_meaning.specs.Shapes.{shape}
use Rattle.go_meaning.specs.Laws.{ShapesRunAlike}
use Rattle.go_meaning.proofs.Shapes.{step_shape, due_shape}

end_by : (A B L : Type 0) (e o : Option End) → (A → B) → (B → A) → EndBy e A L o → EndBy e B L o
end_by A B L (Some e) o f g h = h
end_by A B L None None f g h = ((λ b. h.0 (g b)), h.1)
end_by A B L None (Some ends.Deadlock) f g h = f h
end_by A B L None (Some ends.StepLimit) f g h = ((λ b. h.0 (g b)), h.1)
end_by A B L None (Some e) f g h = h

module _ (P Q : Parts) (same : (c : Config) (e : Event) → step P c e ≡ step Q c e) (dues : (go : Option Goroutine) → due P go ≡ due Q go) (begins : start P ≡ start Q) where
  replay_same : (c : Config) (es : List Event) → replay_from P c es ≡ replay_from Q c es
  unfolding replay_from
  replay_same c [] = refl
  replay_same c (e ∷ es) = ap (λ o. option_and_then (λ d. replay_from P d es) o) (same c e) ∙ and_then (λ d. replay_same d es) (step Q c e)
    where
      and_then : ((d : Config) → replay_from P d es ≡ replay_from Q d es) → (o : Option Config) → option_and_then (λ d. replay_from P d es) o ≡ option_and_then (λ d. replay_from Q d es) o
      and_then h None = refl
      and_then h (Some d) = h d

  pub replays : (h : List Event) → replay P h ≡ replay Q h
  replays h = replay_same (start P) h ∙ ap (λ c. replay_from Q c h) begins

  end_same : (limit k : ℕ) (c : Config) (o : Option End) → EndIs P limit c k o → EndIs Q limit c k o
  end_same limit k c o h = end_by (IsDead P c) (IsDead Q c) (limit ≤ k) c.end o (λ d e. sym (same c e) ∙ d e) (λ d e. same c e ∙ d e) h

  goes_same : (limit k : ℕ) (c : Config) (es : List Event) → Goes P limit c k es → Goes Q limit c k es
  unfolding Goes
  goes_same limit k c [] g = tt
  goes_same limit k c (Step a x b y ∷ es) g = (end_same limit k c None g.0, (g.1.0, sym (same c (Step a x b y)) ∙ g.1.1, goes_same limit (suc k) g.1.0 es g.1.2))
  goes_same limit k c (Count a u ∷ es) g = (g.0, sym (same c (Count a u)) ∙ g.1, goes_same limit k g.0 es g.2)

  pub history_same : (limit : ℕ) (h : List Event) → IsHistory P limit h → IsHistory Q limit h
  history_same limit h g = let F : Config → Type 0 = λ c. Goes Q limit c 0 h in subst F begins (goes_same limit 0 (start P) h g)

  pub after_same : (limit : ℕ) (h : List Event) (o : Option End) → EndAfter P limit h o → EndAfter Q limit h o
  after_same limit h o e =
      let F : Option Config → Type 0 = λ x. IfSome x (λ c. EndIs Q limit c (steps_in h) o) in
      subst F (replays h) (by (replay P h) e)
    where
      by : (x : Option Config) → IfSome x (λ c. EndIs P limit c (steps_in h) o) → IfSome x (λ c. EndIs Q limit c (steps_in h) o)
      by None k = k
      by (Some c) k = end_same limit (steps_in h) c o k

  leads_same : (limit : ℕ) (t u : Turn) (es : List Event) → Leads P limit t es u → Leads Q limit t es u
  leads_same limit t u es (stays v) = stays t
  leads_same limit t u es (steps v w d k p q fs e n l m) =
      steps t u d k p q fs (end_same limit t.steps t.config None e) n (record { leads = sym (same t.config (Step t.now k p q)) ∙ l.leads; first = λ k' p' q' b. sym (same t.config (Step t.now k' p' q')) ∙ l.first k' p' q' b }) (leads_same limit _ u fs m)
  leads_same limit t u es (counts v w d x fs e n k m) = counts t u d x fs (end_same limit t.steps t.config None e) n (sym (same t.config (Count t.now x)) ∙ k) (leads_same limit _ u fs m)
  leads_same limit t u es (passes v w g fs e i n m) =
      passes t u g fs (end_same limit t.steps t.config None e) (⊎_elim (λ (x : IsIdle P t.config t.now). inl (record { steps = λ k p q. sym (same t.config (Step t.now k p q)) ∙ x.steps k p q; due = sym (dues (numbered t.config t.now)) ∙ x.due })) (λ x. inr x) i) n (leads_same limit _ u fs m)

  due_same : (g : ℕ) (gos : List Goroutine) → due_from P g gos ≡ due_from Q g gos
  due_same g [] = refl
  due_same g (go ∷ gos) = ap₂ (λ o es. count_at o g ++ es) (dues (Some go)) (due_same (suc g) gos)

  pub serial_same : (limit : ℕ) (h : List Event) → IsSerial P limit h → IsSerial Q limit h
  serial_same limit h s =
      let F : Config → Type 0 = λ c. Leads Q limit (record { config = c; now = 1; taken = 0; steps = 0 }) s.events s.last in
      record {
        events = s.events;
        last = s.last;
        leads = subst F begins (leads_same limit (first_turn P) s.last s.events s.leads);
        end = s.end;
        ends = end_same limit s.last.steps s.last.config (Some s.end) s.ends;
        whole = s.whole ∙ ap (λ es. s.events ++ es) (due_same 1 s.last.config.goroutines);
      }

start_shape : (P : Parts) → start (shape P) ≡ start P
unfolding shape
start_shape P = refl

units_shape : (P : Parts) → (shape P).units ≡ P.units
unfolding shape
units_shape P = refl

pub shapes_run_alike : ShapesRunAlike
shapes_run_alike P Q h = record {
  steps = steps_are;
  dues = dues_are;
  replays = replays P Q steps_are dues_are begins;
  histories = λ limit es. (history_same P Q steps_are dues_are begins limit es, history_same Q P (λ c e. sym (steps_are c e)) (λ go. sym (dues_are go)) (sym begins) limit es);
  ends = λ limit es o. (after_same P Q steps_are dues_are begins limit es o, after_same Q P (λ c e. sym (steps_are c e)) (λ go. sym (dues_are go)) (sym begins) limit es o);
  serial = λ limit es. (serial_same P Q steps_are dues_are begins limit es, serial_same Q P (λ c e. sym (steps_are c e)) (λ go. sym (dues_are go)) (sym begins) limit es);
  units = sym (units_shape P) ∙ ap (λ (X : Parts). X.units) h ∙ units_shape Q;
}
  where
    steps_are : (c : Config) (e : Event) → step P c e ≡ step Q c e
    steps_are c e = sym (step_shape P c e) ∙ ap (λ X. step X c e) h ∙ step_shape Q c e

    dues_are : (go : Option Goroutine) → due P go ≡ due Q go
    dues_are go = sym (due_shape P go) ∙ ap (λ X. due X go) h ∙ due_shape Q go

    begins : start P ≡ start Q
    begins = sym (start_shape P) ∙ ap start h ∙ start_shape Q
