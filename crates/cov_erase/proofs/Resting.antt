-- The serial history of a covered program is one of its histories, and ends at a rest.
use Rattle.std.proofs.Common.{◌≡◌, ℕ, zero, suc, ◌+◌, ◌-◌, ◌<◌, List, [], ◌∷◌, ◌++◌, Option, Some, None, refl, sym, ap, ◌∙◌, subst, ⊎_elim, arith}
use Rattle.std.specs.Prelude.{slice_get, option_and_then, IfSome}
use Rattle.std.proofs.lemmas.Bool.{cases_lt}
use Rattle.go_meaning.specs.declared.event.Event.{Event}
use Rattle.go_meaning.specs.declared.event.Event.TheVariants.{Count}
use Rattle.go_meaning.specs.declared.config.Goroutine.{Goroutine}
use Rattle.go_meaning.specs.declared.config.Config.{Config}
use Rattle.go_meaning.specs.Programs.{Parts}
use Rattle.go_meaning.specs.Steps.{due, counted_at, arrive_one, step}
use Rattle.go_meaning.specs.Erasing.{IsUncounted}
use Rattle.go_meaning.specs.Units.{counted}
use Rattle.go_meaning.specs.Histories.{replay_from, Goes, IsHistory, IsAtRest, EndsAtRest}
use Rattle.go_meaning.specs.Entries.{count_at}
use Rattle.go_meaning.specs.Serial.{Turn, Leads, stays, steps, counts, passes, due_from, first_turn, IsSerial}
use Rattle.cov_erase.specs.Laws.{SerialRests}
use Rattle.cov_erase.proofs.Settled.{AllSound}
use Rattle.cov_erase.proofs.Stepped.{get_set_other, map_some}
use Rattle.cov_erase.proofs.Counted as counter
use Rattle.cov_erase.proofs.Histories.{cases_option, apart_Q, can_count, sound_start}
use Rattle.cov_erase.proofs.Scheduled.{leads_sound}

module _ (P : Parts) (un : IsUncounted P) (limit : ℕ) where
  abbrev Q : Parts
  Q = counted P

  -- ---- the schedule

  leads_goes : (t u : Turn) (es fs : List Event) → Leads Q limit t es u → Goes Q limit u.config u.steps fs → Goes Q limit t.config t.steps (es ++ fs)
  unfolding Goes
  leads_goes t u es fs (stays v) g = g
  leads_goes t u es fs (steps v w d k p q hs e n l m) g = (e, (d, l.leads, leads_goes (record { config = d; now = t.now; taken = suc t.taken; steps = suc t.steps }) u hs fs m g))
  leads_goes t u es fs (counts v w d x hs e n k m) g = (d, k, leads_goes (record t { config = d }) u hs fs m g)
  leads_goes t u es fs (passes v w h hs e i n m) g = leads_goes (record t { now = h; taken = 0 }) u hs fs m g

  leads_replays : (t u : Turn) (es fs : List Event) → Leads Q limit t es u → replay_from Q t.config (es ++ fs) ≡ replay_from Q u.config fs
  unfolding replay_from
  leads_replays t u es fs (stays v) = refl
  leads_replays t u es fs (steps v w d k p q hs e n l m) = ap (option_and_then (λ z. replay_from Q z (hs ++ fs))) l.leads ∙ leads_replays (record { config = d; now = t.now; taken = suc t.taken; steps = suc t.steps }) u hs fs m
  leads_replays t u es fs (counts v w d x hs e n k m) = ap (option_and_then (λ z. replay_from Q z (hs ++ fs))) k ∙ leads_replays (record t { config = d }) u hs fs m
  leads_replays t u es fs (passes v w h hs e i n m) = leads_replays (record t { now = h; taken = 0 }) u hs fs m

  -- ---- the counter steps after the end

  count_keeps : (c d : Config) (n u j : ℕ) → (n ≡ j → ⊥) → step Q c (Count (suc n) u) ≡ Some d → slice_get d.goroutines j ≡ slice_get c.goroutines j
  unfolding step
  count_keeps c d n u j h e =
      let m = map_some (arrive_one c n) (counted_at u (slice_get c.goroutines n) (due Q (slice_get c.goroutines n))) d e in
      let F : Config → Type 0 = λ x. slice_get x.goroutines j ≡ slice_get c.goroutines j in
      subst F m.2 (get_set_other c.goroutines n j m.0 h)

  record Rests (c : Config) (k : ℕ) (es : List Event) : Type 0 where
    goes : Goes Q limit c k es
    last : Config
    replays : replay_from Q c es ≡ Some last
    rest : IsAtRest Q last

  abbrev AreLast : Config → ℕ → List Goroutine → Type 0
  AreLast c n gos = (i : ℕ) → slice_get gos i ≡ slice_get c.goroutines (n + i)

  abbrev AreCounted : Config → ℕ → Type 0
  AreCounted c n = (j : ℕ) → j < n → due Q (slice_get c.goroutines j) ≡ None

  no_due : (i : ℕ) → due Q (slice_get {X = Goroutine} [] i) ≡ None
  no_due zero = refl
  no_due (suc i) = refl

  done : (c : Config) (n : ℕ) → AreLast c n [] → AreCounted c n → IsAtRest Q c
  done c n l a zero = refl
  done c n l a (suc j) = ⊎_elim (λ h. a j h) (λ h. let e : n + (j - n) ≡ j = omega (arith, h) in ap (λ x. due Q (slice_get c.goroutines x)) (sym e) ∙ ap (due Q) (sym (l (j - n))) ∙ no_due (j - n)) (cases_lt j n)

  more : (c : Config) (n : ℕ) → AreCounted c n → due Q (slice_get c.goroutines n) ≡ None → AreCounted c (suc n)
  more c n a e j h = ⊎_elim (λ k. a j k) (λ k. let w : j ≡ n = omega (arith, h, k) in ap (λ x. due Q (slice_get c.goroutines x)) w ∙ e) (cases_lt j n)

  rests : (gos : List Goroutine) (c : Config) (n k : ℕ) → AllSound Q c.goroutines → AreLast c n gos → AreCounted c n → Rests c k (due_from Q (suc n) gos)
  unfolding Goes replay_from
  rests [] c n k h l a = record { goes = tt; last = c; replays = refl; rest = done c n l a }
  rests (go ∷ gos) c n k h l a =
      let again = λ (d : Config) (s : AllSound Q d.goroutines) (l' : AreLast d (suc n) gos) (a' : AreCounted d (suc n)). rests gos d (suc n) k s l' a' in
      ⊎_elim (nothing again) (due_one again) (cases_option (due Q (Some go)))
    where
      here : slice_get c.goroutines n ≡ Some go
      here = let e : n + 0 ≡ n = omega arith in ap (slice_get c.goroutines) (sym e) ∙ sym (l 0)

      nothing : ((d : Config) → AllSound Q d.goroutines → AreLast d (suc n) gos → AreCounted d (suc n) → Rests d k (due_from Q (suc (suc n)) gos)) → due Q (Some go) ≡ None → Rests c k (due_from Q (suc n) (go ∷ gos))
      nothing again e =
          let F : List Event → Type 0 = Rests c k in
          subst F (ap (λ o. count_at o (suc n) ++ due_from Q (suc (suc n)) gos) (sym e))
          (again c h (λ i. l (suc i) ∙ ap (slice_get c.goroutines) (shift i)) (more c n a (ap (due Q) here ∙ e)))
        where
          shift : (i : ℕ) → n + suc i ≡ suc n + i
          shift i = omega arith

      due_one : ((d : Config) → AllSound Q d.goroutines → AreLast d (suc n) gos → AreCounted d (suc n) → Rests d k (due_from Q (suc (suc n)) gos)) → ((u : ℕ) × (due Q (Some go) ≡ Some u)) → Rests c k (due_from Q (suc n) (go ∷ gos))
      due_one again e =
          let x = can_count P un c (suc n) e.0 (ap (due Q) here ∙ e.1) in
          let s = counter.counts Q (apart_Q P un) c x.0 (suc n) e.0 h x.1 in
          let keeps = λ (j : ℕ) (ne : n ≡ j → ⊥). count_keeps c x.0 n e.0 j ne x.1 in
          let a' : AreCounted x.0 n = λ j w. ap (due Q) (keeps j (λ q. omega (arith, q, w))) ∙ a j w in
          let r = again x.0 s.sound (λ i. l (suc i) ∙ ap (slice_get c.goroutines) (shift i) ∙ sym (keeps (suc n + i) (λ q. omega (arith, q)))) (more x.0 n a' s.after) in
          let F : List Event → Type 0 = Rests c k in
          subst F (ap (λ o. count_at o (suc n) ++ due_from Q (suc (suc n)) gos) (sym e.1))
          (record { goes = (x.0, x.1, r.goes); last = r.last; replays = ap (option_and_then (λ z. replay_from Q z (due_from Q (suc (suc n)) gos))) x.1 ∙ r.replays; rest = r.rest })
        where
          shift : (i : ℕ) → n + suc i ≡ suc n + i
          shift i = omega arith

  pub serial_rests : (c : List Event) → IsSerial Q limit c → IsHistory Q limit c × EndsAtRest Q c
  serial_rests c s =
      let sound = leads_sound P un limit (first_turn Q) s.last s.events (sound_start P un) s.leads in
      let r = rests s.last.config.goroutines s.last.config 0 s.last.steps sound (λ i. ap (slice_get s.last.config.goroutines) (shift i)) (λ j w. absurd (omega (arith, w))) in
      let F : List Event → Type 0 = IsHistory Q limit in
      let G : List Event → Type 0 = EndsAtRest Q in
      let H : Option Config → Type 0 = λ o. IfSome o (IsAtRest Q) in (
        subst F (sym s.whole) (leads_goes (first_turn Q) s.last s.events _ s.leads r.goes),
        subst G (sym s.whole) (subst H (sym (leads_replays (first_turn Q) s.last s.events _ s.leads ∙ r.replays)) r.rest),
      )
    where
      shift : (i : ℕ) → i ≡ 0 + i
      shift i = omega arith

pub serial_rests_holds : SerialRests
serial_rests_holds P limit c un s = serial_rests P un limit c s
