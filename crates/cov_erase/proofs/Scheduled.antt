-- Covering changes nothing in the serial schedule.
use Rattle.std.proofs.Common.{◌≡◌, ℕ, suc, List, [], ◌∷◌, ◌++◌, Option, Some, None, refl, sym, ap, ◌∙◌, subst, map, inl, inr, ⊎_elim}
use Rattle.std.specs.Prelude.{option_map}
use Rattle.go_meaning.specs.declared.event.Event.{Event}
use Rattle.go_meaning.specs.declared.event.Event.TheVariants.{Step, Count}
use Rattle.go_meaning.specs.declared.config.Call.{Call}
use Rattle.go_meaning.specs.declared.config.Frame.{Frame}
use Rattle.go_meaning.specs.declared.config.Goroutine.{Goroutine}
use Rattle.go_meaning.specs.declared.config.Config.{Config}
use Rattle.go_meaning.specs.Programs.{Parts}
use Rattle.go_meaning.specs.Steps.{due, numbered}
use Rattle.go_meaning.specs.Erasing.{erase_config, erase_events, erase_goroutine, erase_frame, IsUncounted}
use Rattle.go_meaning.specs.Units.{counted}
use Rattle.go_meaning.specs.Entries.{count_at}
use Rattle.go_meaning.specs.Readiness.{IsLeast, IsIdle, is_over_by, is_over}
use Rattle.go_meaning.specs.Serial.{IsNext, Turn, Leads, stays, steps, counts, passes, due_from, first_turn, IsSerial}
use Rattle.cov_erase.specs.Laws.{SerialHolds}
use Rattle.cov_erase.proofs.Settled.{AllSound}
use Rattle.cov_erase.proofs.Stepped.{stepped}
use Rattle.cov_erase.proofs.Counted as counter
use Rattle.cov_erase.proofs.Histories.{apart_Q, sim, numbered_erased, due_plain, step_erased, end_erased, sound_start}

-- ---- events

erase_append : (es fs : List Event) → erase_events (es ++ fs) ≡ erase_events es ++ erase_events fs
erase_append [] fs = refl
erase_append (Step g k p q ∷ es) fs = ap (λ l. Step g k p q ∷ l) (erase_append es fs)
erase_append (Count g u ∷ es) fs = erase_append es fs

erase_count_at : (o : Option ℕ) (g : ℕ) (es : List Event) → erase_events (count_at o g ++ es) ≡ erase_events es
erase_count_at None g es = refl
erase_count_at (Some u) g es = refl

erase_due : (Q : Parts) (g : ℕ) (gos : List Goroutine) → erase_events (due_from Q g gos) ≡ []
erase_due Q g [] = refl
erase_due Q g (go ∷ gos) = erase_count_at (due Q (Some go)) g (due_from Q (suc g) gos) ∙ erase_due Q (suc g) gos

module _ (P : Parts) (un : IsUncounted P) (limit : ℕ) where
  abbrev Q : Parts
  Q = counted P

  abbrev er : Config → Config
  er = erase_config Q

  -- ---- steps

  least : (c d : Config) (g k p q : ℕ) → AllSound Q c.goroutines → IsLeast Q c g k p q d → IsLeast P (er c) g k p q (er d)
  least c d g k p q h l =
      let none = (stepped Q c d g k p q h l.leads).before g (inl refl) in
      record {
        leads = step_erased P un c d g k p q h l.leads;
        first = λ k' p' q' b. sim P un c g k' p' q' h none ∙ ap (option_map er) (l.first k' p' q' b);
      }

  idle : (c : Config) (g : ℕ) → AllSound Q c.goroutines → IsIdle Q c g → IsIdle P (er c) g
  idle c g h i = record {
    steps = λ k p q. sim P un c g k p q h i.due ∙ ap (option_map er) (i.steps k p q);
    due = due_plain P un (numbered (er c) g);
  }

  -- ---- turns

  over_frames : (b : Option Call) (fs : List Frame) → is_over_by b (map (erase_frame Q) fs) ≡ is_over_by b fs
  over_frames (Some call) fs = refl
  over_frames None [] = refl
  over_frames None (f ∷ fs) = refl

  over_option : (o : Option Goroutine) → is_over (option_map (erase_goroutine Q) o) ≡ is_over o
  over_option None = refl
  over_option (Some go) = over_frames go.begin go.frames

  over_same : (c : Config) (g : ℕ) → is_over (numbered (er c) g) ≡ is_over (numbered c g)
  over_same c g = ap is_over (numbered_erased P un c g) ∙ over_option (numbered c g)

  next_same : (c : Config) (g h : ℕ) → IsNext c g h → IsNext (er c) g h
  next_same c g h n = record {
    lives = over_same c h ∙ n.lives;
    order = ⊎_elim (λ x. inl (x.0, λ j a b. over_same c j ∙ x.1 j a b)) (λ x. inr ((λ j a. over_same c j ∙ x.0 j a), (λ j a. over_same c j ∙ x.1 j a))) n.order;
  }

  -- ---- the schedule

  abbrev er_turn : Turn → Turn
  er_turn t = record t { config = er t.config }

  leads_erased : (t u : Turn) (es : List Event) → AllSound Q t.config.goroutines → Leads Q limit t es u → Leads P limit (er_turn t) (erase_events es) (er_turn u)
  leads_erased t u es h (stays v) = stays (er_turn t)
  leads_erased t u es h (steps v w d k p q fs e n l m) =
      let s = (stepped Q t.config d t.now k p q h l.leads).sound in
      steps (er_turn t) (er_turn u) (er d) k p q (erase_events fs) (end_erased P un limit t.steps t.config None h e) n (least t.config d t.now k p q h l) (leads_erased (record { config = d; now = t.now; taken = suc t.taken; steps = suc t.steps }) u fs s m)
  leads_erased t u es h (counts v w d x fs e n k m) =
      let s = counter.counts Q (apart_Q P un) t.config d t.now x h k in
      let F : Config → Type 0 = λ c. Leads P limit (record t { config = c }) (erase_events fs) (er_turn u) in
      subst F s.erased (leads_erased (record t { config = d }) u fs s.sound m)
  leads_erased t u es h (passes v w g fs e i n m) =
      passes (er_turn t) (er_turn u) g (erase_events fs) (end_erased P un limit t.steps t.config None h e) (⊎_elim (λ x. inl (idle t.config t.now h x)) (λ x. inr x) i) (next_same t.config t.now g n) (leads_erased (record t { now = g; taken = 0 }) u fs h m)

  pub leads_sound : (t u : Turn) (es : List Event) → AllSound Q t.config.goroutines → Leads Q limit t es u → AllSound Q u.config.goroutines
  leads_sound t u es h (stays v) = h
  leads_sound t u es h (steps v w d k p q fs e n l m) = leads_sound (record { config = d; now = t.now; taken = suc t.taken; steps = suc t.steps }) u fs (stepped Q t.config d t.now k p q h l.leads).sound m
  leads_sound t u es h (counts v w d x fs e n k m) = leads_sound (record t { config = d }) u fs (counter.counts Q (apart_Q P un) t.config d t.now x h k).sound m
  leads_sound t u es h (passes v w g fs e i n m) = leads_sound (record t { now = g; taken = 0 }) u fs h m

  none_due : (g : ℕ) (gos : List Goroutine) → due_from P g gos ≡ []
  none_due g [] = refl
  none_due g (go ∷ gos) = ap (λ o. count_at o g ++ due_from P (suc g) gos) (due_plain P un (Some go)) ∙ none_due (suc g) gos

  append_none : (es : List Event) → es ≡ es ++ []
  append_none [] = refl
  append_none (e ∷ es) = ap (λ l. e ∷ l) (append_none es)

  pub serial : (c : List Event) → IsSerial Q limit c → IsSerial P limit (erase_events c)
  unfolding counted
  serial c s = record {
    events = erase_events s.events;
    last = er_turn s.last;
    leads = leads_erased (first_turn Q) s.last s.events (sound_start P un) s.leads;
    end = s.end;
    ends = end_erased P un limit s.last.steps s.last.config (Some s.end) (leads_sound (first_turn Q) s.last s.events (sound_start P un) s.leads) s.ends;
    whole = ap erase_events s.whole ∙ erase_append s.events (due_from Q 1 s.last.config.goroutines) ∙ ap (λ l. erase_events s.events ++ l) (erase_due Q 1 s.last.config.goroutines ∙ sym (none_due 1 (er s.last.config).goroutines));
  }

pub serial_holds : SerialHolds
serial_holds P limit c un s = serial P un limit c s
