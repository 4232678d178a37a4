-- The serial history of a program has an end.
use Rattle.std.proofs.Common.{◌≡◌, ℕ, zero, suc, ◌+◌, ◌≤◌, List, [], ◌∷◌, ◌++◌, Option, Some, None, refl, sym, ap, ◌∙◌, subst, arith}
use Rattle.std.specs.Prelude.{IfSome, option_and_then, option_map, slice_get}
use Rattle.std.proofs.lemmas.Option.{none-some, same_Some}
use Rattle.go_meaning.specs.declared.config.Config.{Config}
use Rattle.go_meaning.specs.declared.config.Goroutine.{Goroutine}
use Rattle.go_meaning.specs.declared.event.End.{End}
use Rattle.go_meaning.specs.declared.event.End.TheVariants as ends
use Rattle.go_meaning.specs.declared.event.Event.{Event}
use Rattle.go_meaning.specs.declared.event.Event.TheVariants.{Count}
use Rattle.go_meaning.specs.Entries.{count_at}
use Rattle.go_meaning.specs.Histories.{EndAfter, EndBy, EndIs, IsDead, output_of, replay, replay_from, start, steps_in}
use Rattle.go_meaning.specs.Programs.{Parts}
use Rattle.go_meaning.specs.Serial.{Leads, Turn, counts, due_from, first_turn, IsSerial, passes, stays, steps}
use Rattle.go_meaning.specs.Steps.{arrive_one, counted_at, due, step}

map_some : {A B : Type 0} (f : A → B) (o : Option A) (y : B) → option_map f o ≡ Some y → (x : A) × (o ≡ Some x) × (f x ≡ y)
map_some f None y e = absurd (none-some y e)
map_some f (Some x) y e = (x, refl, same_Some (f x) y e)

then_some : {A B : Type 0} (f : A → Option B) (o : Option A) (y : B) → option_and_then f o ≡ Some y → (x : A) × (o ≡ Some x) × (f x ≡ Some y)
then_some f None y e = absurd (none-some y e)
then_some f (Some x) y e = (x, refl, e)

-- an end stands against none: the program's own, a deadlock that lasts or a limit that stays passed
no_end : (o : Option End) (dead late dead' late' : Type 0) (e : End) → (dead → dead') → (late → late') → EndBy o dead late (Some e) → EndBy o dead' late' None → ⊥
no_end (Some own) dead late dead' late' e f g p q = none-some own q
no_end None dead late dead' late' ends.Deadlock f g p q = q.0 (f p)
no_end None dead late dead' late' ends.StepLimit f g p q = q.1 (g p.1)
no_end None dead late dead' late' e f g p q = absurd p

module _ (P : Parts) where
  -- ---- the schedule

  leads_replays : (limit : ℕ) (t u : Turn) (es fs : List Event) → Leads P limit t es u → replay_from P t.config (es ++ fs) ≡ replay_from P u.config fs
  unfolding replay_from
  leads_replays limit t u es fs (stays v) = refl
  leads_replays limit t u es fs (steps v w d k p q hs e n l m) =
      ap (option_and_then (λ z. replay_from P z (hs ++ fs))) l.leads ∙ leads_replays limit (record { config = d; now = t.now; taken = suc t.taken; steps = suc t.steps }) u hs fs m
  leads_replays limit t u es fs (counts v w d x hs e n k m) = ap (option_and_then (λ z. replay_from P z (hs ++ fs))) k ∙ leads_replays limit (record t { config = d }) u hs fs m
  leads_replays limit t u es fs (passes v w h hs e i n m) = leads_replays limit (record t { now = h; taken = 0 }) u hs fs m

  leads_steps : (limit : ℕ) (t u : Turn) (es fs : List Event) → Leads P limit t es u → u.steps ≤ t.steps + steps_in (es ++ fs)
  leads_steps limit t u es fs (stays v) = more t.steps (steps_in fs)
    where
      more : (a b : ℕ) → a ≤ a + b
      more a b = omega arith
  leads_steps limit t u es fs (steps v w d k p q hs e n l m) =
      one t.steps u.steps (steps_in (hs ++ fs)) (leads_steps limit (record { config = d; now = t.now; taken = suc t.taken; steps = suc t.steps }) u hs fs m)
    where
      one : (a b c : ℕ) → b ≤ suc a + c → b ≤ a + suc c
      one a b c h = omega arith
  leads_steps limit t u es fs (counts v w d x hs e n k m) = leads_steps limit (record t { config = d }) u hs fs m
  leads_steps limit t u es fs (passes v w h hs e i n m) = leads_steps limit (record t { now = h; taken = 0 }) u hs fs m

  -- ---- the counter steps behind it

  count_keeps : (c d : Config) (g u : ℕ) → step P c (Count g u) ≡ Some d → d.end ≡ c.end
  unfolding step
  count_keeps c d zero u e = absurd (none-some d e)
  count_keeps c d (suc i) u e =
      let m = map_some (arrive_one c i) (counted_at u (slice_get c.goroutines i) (due P (slice_get c.goroutines i))) d e in
      ap (λ (x : Config). x.end) (sym m.2)

  counts_keep : (g : ℕ) (gos : List Goroutine) (c d : Config) → replay_from P c (due_from P g gos) ≡ Some d → d.end ≡ c.end
  unfolding replay_from
  counts_keep g [] c d e = ap (λ (x : Config). x.end) (sym (same_Some c d e))
  counts_keep g (go ∷ gos) c d e = front (counts_keep (suc g) gos) (due P (Some go)) e
    where
      front : ((x y : Config) → replay_from P x (due_from P (suc g) gos) ≡ Some y → y.end ≡ x.end) → (o : Option ℕ) → replay_from P c (count_at o g ++ due_from P (suc g) gos) ≡ Some d → d.end ≡ c.end
      front again None w = again c d w
      front again (Some u) w =
          let x = then_some (λ z. replay_from P z (due_from P (suc g) gos)) (step P c (Count g u)) d w in
          again x.0 d x.2 ∙ count_keeps c x.0 g u x.1

  -- where nothing can happen, nothing does
  dead_stays : (es : List Event) (c d : Config) → IsDead P c → replay_from P c es ≡ Some d → c ≡ d
  unfolding replay_from
  dead_stays [] c d dead e = same_Some c d e
  dead_stays (e ∷ es) c d dead w =
      let x = then_some (λ z. replay_from P z es) (step P c e) d w in
      absurd (none-some x.0 (sym (dead e) ∙ x.1))

  serial_ends : (limit : ℕ) (h : List Event) (c : Config) → IsSerial P limit h → replay P h ≡ Some c → EndIs P limit c (steps_in h) None → ⊥
  serial_ends limit h c s w none =
      let last = s.last.config in
      let dues = due_from P 1 last.goroutines in
      let rest : replay_from P last dues ≡ Some c = sym (leads_replays limit (first_turn P) s.last s.events dues s.leads) ∙ ap (replay_from P (start P)) (sym s.whole) ∙ w in
      let Ends : Option End → Type 0 = λ o. EndBy o (IsDead P c) (limit ≤ steps_in h) None in
      let Late : List Event → Type 0 = λ es. s.last.steps ≤ 0 + steps_in es in
      no_end last.end (IsDead P last) (limit ≤ s.last.steps) (IsDead P c) (limit ≤ steps_in h) s.end
      (λ dead. subst (IsDead P) (dead_stays dues last c dead rest) dead)
      (λ late. after limit s.last.steps (steps_in h) late (subst Late (sym s.whole) (leads_steps limit (first_turn P) s.last s.events dues s.leads)))
      s.ends (subst Ends (counts_keep 1 last.goroutines last c rest) none)
    where
      after : (a b c : ℕ) → a ≤ b → b ≤ 0 + c → a ≤ c
      after a b c p q = omega arith

  -- a serial history that leads somewhere has an end
  pub serial_has_end : (limit : ℕ) (h : List Event) (output : List ℕ) → IsSerial P limit h → output_of P h ≡ Some output → EndAfter P limit h None → ⊥
  serial_has_end limit h output s printed none =
      let c = map_some (λ (x : Config). x.output) (replay P h) output printed in
      let Ends : Option Config → Type 0 = λ o. IfSome o (λ d. EndIs P limit d (steps_in h) None) in
      serial_ends limit h c.0 s c.1 (subst Ends c.1 none)
