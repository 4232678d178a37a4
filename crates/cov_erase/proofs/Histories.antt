-- Covered histories and the erased ones.
use Rattle.std.proofs.Common.{◌≡◌, ℕ, zero, suc, ◌+◌, ◌≤◌, Bool, true, false, cond, List, [], ◌∷◌, Option, Some, None, refl, sym, ap, ◌∙◌, subst, map, arith, inl, inr, ◌⊎◌, ⊎_elim}
use Rattle.std.specs.Prelude.{slice_get, ◌==◌, ◌||◌, ◌&&◌, option_map, option_and_then}
use Rattle.std.specs.Option.{option_or}
use Rattle.std.proofs.lemmas.Option.{none-some, same_Some, slice_get-map}
use Rattle.std.proofs.lemmas.Bool.{eqb-true, eqb-false, eq-eqb}
use Rattle.go_meaning.specs.declared.node.NodeForm.{NodeForm}
use Rattle.go_meaning.specs.declared.node.NodeForm.TheVariants as node
use Rattle.go_meaning.specs.declared.item.Item.{Item}
use Rattle.go_meaning.specs.declared.item.Item.TheVariants.{Run}
use Rattle.go_meaning.specs.declared.config.Call.{Call}
use Rattle.go_meaning.specs.declared.config.Frame.{Frame}
use Rattle.go_meaning.specs.declared.config.Goroutine.{Goroutine}
use Rattle.go_meaning.specs.declared.config.Config.{Config}
use Rattle.go_meaning.specs.declared.event.End.{End}
use Rattle.go_meaning.specs.declared.event.End.TheVariants as ends
use Rattle.go_meaning.specs.declared.event.Event.{Event}
use Rattle.go_meaning.specs.declared.event.Event.TheVariants.{Step, Count}
use Rattle.go_meaning.specs.Programs.{Parts, form_at}
use Rattle.go_meaning.specs.Acts.{run, act_of}
use Rattle.go_meaning.specs.Moves.{Move, put}
use Rattle.go_meaning.specs.Channels.{Neither, Plain, side_at, lone}
use Rattle.go_meaning.specs.Steps.{at_zero, on_control, on_frames, alone, arrive, arrive_one, due_item, due_frames, due, counted_at, step, count_of, past_frames, numbered}
use Rattle.go_meaning.specs.Erasing.{erase_item, erase_frame, erase_goroutine, erase_config, erase_events, place_of, IsUncounted}
use Rattle.go_meaning.specs.Units.{counted}
use Rattle.go_meaning.specs.Histories.{start, replay_from, steps_in, IsDead, EndBy, EndIs, Goes}
use Rattle.go_meaning.specs.Entries.{unit_of_control, unit_of_frames, unit_of, is_unit, entered, entered_by, entries_from, counts_in, stands_in}
use Rattle.cov_erase.proofs.Places.{IsPlain}
use Rattle.cov_erase.proofs.Cover.{erased_counted, unit_at_fresh, apart, plain_lists}
use Rattle.cov_erase.proofs.Sim.{sim_step}
use Rattle.cov_erase.proofs.Settled.{AllSettled, FramesSettled, AllSound}
use Rattle.cov_erase.proofs.Sound.{IsSoundGoroutine}
use Rattle.cov_erase.proofs.Waiting.{plain_due, sides_sound}
use Rattle.cov_erase.proofs.Stepped.{map_some, sound_get, IsSettledGoroutine, Stepped, stepped}
use Rattle.cov_erase.proofs.Counted.{Counts, counts}

pub none_or : {A : Type 0} (o : Option A) → ((x : A) → o ≡ Some x → ⊥) → o ≡ None
none_or None h = refl
none_or (Some x) h = absurd (h x refl)

map_none : {A B : Type 0} (f : A → B) (o : Option A) → option_map f o ≡ None → o ≡ None
map_none f None e = refl
map_none f (Some x) e = absurd (none-some (f x) (sym e))

pub and_then_some : {A B : Type 0} (f : A → Option B) (o : Option A) (y : B) → option_and_then f o ≡ Some y → (x : A) × (o ≡ Some x) × (f x ≡ Some y)
and_then_some f None y e = absurd (none-some y e)
and_then_some f (Some x) y e = (x, refl, e)

-- none, or a number
pub cases_option : (o : Option ℕ) → (o ≡ None) ⊎ ((u : ℕ) × (o ≡ Some u))
cases_option None = inl refl
cases_option (Some u) = inr (u, refl)

end_by : (A B L : Type 0) (e o : Option End) → (A → B) → (B → A) → EndBy e A L o → EndBy e B L o
end_by A B L (Some e) o f g h = h
end_by A B L None None f g h = ((λ b. h.0 (g b)), h.1)
end_by A B L None (Some ends.Deadlock) f g h = f h
end_by A B L None (Some ends.StepLimit) f g h = ((λ b. h.0 (g b)), h.1)
end_by A B L None (Some e) f g h = h

module _ (P : Parts) (un : IsUncounted P) where
  abbrev Q : Parts
  Q = counted P

  abbrev er : Config → Config
  er = erase_config Q

  pub apart_Q : (n i w : ℕ) → count_of (form_at Q n i) ≡ Some w → IsPlain (form_at Q n (suc i))
  apart_Q = apart P un

  due_plain_item : (is : List Item) → due_item P is ≡ None
  due_plain_item (Run n i ∷ is) = plain_lists P.lists n i un.lists
  due_plain_item [] = refl
  due_plain_item (it ∷ is) = refl

  due_plain_frames : (b : Option Call) (fs : List Frame) → due_frames P b fs ≡ None
  due_plain_frames (Some call) fs = refl
  due_plain_frames None [] = refl
  due_plain_frames None (f ∷ fs) = due_plain_item f.control

  pub due_plain : (go : Option Goroutine) → due P go ≡ None
  due_plain None = refl
  due_plain (Some go) = due_plain_frames go.begin go.frames

  -- ---- one event

  pub sim : (c : Config) (g k p q : ℕ) → AllSound Q c.goroutines → due Q (numbered c g) ≡ None → step P (er c) (Step g k p q) ≡ option_map er (step Q c (Step g k p q))
  sim c g k p q h e = ap (λ X. step X (er c) (Step g k p q)) (sym (erased_counted P un)) ∙ sim_step Q c g k p q (sides_sound Q c.goroutines h) (plain_due Q (numbered c g) (sound_numbered g) e)
    where
      sound_numbered : (g : ℕ) → IsSoundGoroutine Q (numbered c g)
      sound_numbered zero = tt
      sound_numbered (suc i) = sound_get Q c.goroutines i h

  pub step_erased : (c d : Config) (a k b q : ℕ) → AllSound Q c.goroutines → step Q c (Step a k b q) ≡ Some d → step P (er c) (Step a k b q) ≡ Some (er d)
  step_erased c d a k b q h e = sim c a k b q h ((stepped Q c d a k b q h e).before a (inl refl)) ∙ ap (option_map er) e

  -- ---- ends

  pub can_count : (c : Config) (g u : ℕ) → due Q (numbered c g) ≡ Some u → (x : Config) × (step Q c (Count g u) ≡ Some x)
  unfolding step
  can_count c zero u e = absurd (none-some u e)
  can_count c (suc i) u e = by (slice_get c.goroutines i) e
    where
      by : (o : Option Goroutine) → due Q o ≡ Some u → (x : Config) × (option_map (arrive_one c i) (counted_at u o (due Q o)) ≡ Some x)
      by None k = absurd (none-some u k)
      by (Some go) k = (arrive_one c i (record go { frames = past_frames go.frames }), rw (k, eq-eqb u u refl) refl)

  -- a statement that is no counter has a step
  run_some : (c : Config) (n j i : ℕ) (f : Frame) (fs : List Frame) (rest : List Item) (o : Option NodeForm) → IsPlain o → (m : Move) × (option_or (lone P c i (Plain Neither) (side_at (Plain Neither) 0)) (at_zero 0 (put P c i f fs rest (run n j o))) ≡ Some m)
  unfolding put lone
  run_some c n j i f fs rest (Some (node.Count u)) h = absurd (none-some u (sym h))
  run_some c n j i f fs rest None h = (_, refl)
  run_some c n j i f fs rest (Some (node.Break k)) h = (_, refl)
  run_some c n j i f fs rest (Some (node.Continue k)) h = (_, refl)
  run_some c n j i f fs rest (Some (node.Fallthrough l)) h = (_, refl)
  run_some c n j i f fs rest (Some form) h = (_, refl)

  can_run_control : (c : Config) (i u : ℕ) (f : Frame) (fs : List Frame) (is : List Item) → due_item Q is ≡ Some u → (m : Move) × (on_control P (er c) i 0 (erase_frame Q f) (map (erase_frame Q) fs) (map (erase_item Q) is) ≡ Some m)
  unfolding act_of
  can_run_control c i u f fs (Run n j ∷ is) e = run_some (er c) n (place_of Q n j) i (erase_frame Q f) (map (erase_frame Q) fs) (map (erase_item Q) is) (form_at P n (place_of Q n j)) (plain_lists P.lists n (place_of Q n j) un.lists)
  can_run_control c i u f fs [] e = absurd (none-some u e)
  can_run_control c i u f fs (it ∷ is) e = absurd (none-some u e)

  can_run_frames : (c : Config) (i u : ℕ) (b : Option Call) (fs : List Frame) → due_frames Q b fs ≡ Some u → (m : Move) × (on_frames P (er c) i 0 b (map (erase_frame Q) fs) ≡ Some m)
  can_run_frames c i u (Some call) fs e = absurd (none-some u e)
  can_run_frames c i u None [] e = absurd (none-some u e)
  can_run_frames c i u None (f ∷ fs) e = can_run_control c i u f fs f.control e

  pub can_run : (c : Config) (g u : ℕ) → due Q (numbered c g) ≡ Some u → (x : Config) × (step P (er c) (Step g 0 0 0) ≡ Some x)
  unfolding step
  can_run c zero u e = absurd (none-some u e)
  can_run c (suc i) u e =
      let k = by (slice_get c.goroutines i) e in
      (arrive (er c) i k.0, ap (λ o. option_map (arrive (er c) i) (alone P (er c) i 0 o)) (slice_get-map (erase_goroutine Q) c.goroutines i) ∙ ap (option_map (arrive (er c) i)) k.1)
    where
      by : (o : Option Goroutine) → due Q o ≡ Some u → (m : Move) × (alone P (er c) i 0 (option_map (erase_goroutine Q) o) ≡ Some m)
      by None k = absurd (none-some u k)
      by (Some go) k = can_run_frames c i u go.begin go.frames k

  -- a program without counters has no counter step
  no_count : (u : ℕ) (o : Option Goroutine) (y : Goroutine) → counted_at u o None ≡ Some y → ⊥
  no_count u None y e = none-some y e
  no_count u (Some go) y e = none-some y e

  pub no_counter : (c : Config) (g u : ℕ) → step P c (Count g u) ≡ None
  unfolding step
  no_counter c zero u = refl
  no_counter c (suc i) u = none_or _ (λ x e. by (due P (slice_get c.goroutines i)) (due_plain (slice_get c.goroutines i)) x e)
    where
      by : (w : Option ℕ) → w ≡ None → (x : Config) → option_map (arrive_one c i) (counted_at u (slice_get c.goroutines i) w) ≡ Some x → ⊥
      by None k x e = let f = map_some (arrive_one c i) (counted_at u (slice_get c.goroutines i) None) x e in no_count u (slice_get c.goroutines i) f.0 f.1
      by (Some w) k x e = none-some w (sym k)

  dead_erased : (c : Config) → AllSound Q c.goroutines → IsDead Q c → IsDead P (er c)
  dead_erased c h d (Step g k p q) =
      ⊎_elim (λ e. sim c g k p q h e ∙ ap (option_map er) (d (Step g k p q)))
      (λ e. let x = can_count c g e.0 e.1 in absurd (none-some x.0 (sym (d (Count g e.0)) ∙ x.1)))
      (cases_option (due Q (numbered c g)))
  dead_erased c h d (Count g u) = no_counter (er c) g u

  dead_covered : (c : Config) → AllSound Q c.goroutines → IsDead P (er c) → IsDead Q c
  dead_covered c h d (Step g k p q) = none_or _ (λ x e. none-some (er x) (sym (d (Step g k p q)) ∙ step_erased c x g k p q h e))
  dead_covered c h d (Count g u) =
      none_or _ (λ x e. let k = can_run c g u (counts Q apart_Q c x g u h e).before in none-some k.0 (sym (d (Step g 0 0 0)) ∙ k.1))

  pub end_erased : (limit k : ℕ) (c : Config) (o : Option End) → AllSound Q c.goroutines → EndIs Q limit c k o → EndIs P limit (er c) k o
  end_erased limit k c o h e = end_by (IsDead Q c) (IsDead P (er c)) (limit ≤ k) c.end o (dead_erased c h) (dead_covered c h) e

  pub end_covered : (limit k : ℕ) (c : Config) (o : Option End) → AllSound Q c.goroutines → EndIs P limit (er c) k o → EndIs Q limit c k o
  end_covered limit k c o h e = end_by (IsDead P (er c)) (IsDead Q c) (limit ≤ k) c.end o (dead_covered c h) (dead_erased c h) e

  -- ---- histories

  pub goes_erased : (limit k : ℕ) (es : List Event) (c : Config) → AllSound Q c.goroutines → Goes Q limit c k es → Goes P limit (er c) k (erase_events es)
  unfolding Goes
  goes_erased limit k [] c h g = tt
  goes_erased limit k (Step a x b y ∷ es) c h g =
      let d = g.1.0 in
      (end_erased limit k c None h g.0, (er d, step_erased c d a x b y h g.1.1, goes_erased limit (suc k) es d (stepped Q c d a x b y h g.1.1).sound g.1.2))
  goes_erased limit k (Count a u ∷ es) c h g =
      let s = counts Q apart_Q c g.0 a u h g.1 in
      let F : Config → Type 0 = λ x. Goes P limit x k (erase_events es) in
      subst F s.erased (goes_erased limit k es g.0 s.sound g.2)

  pub record Reached (c d : Config) (es : List Event) : Type 0 where
    pub sound : AllSound Q d.goroutines
    pub erased : replay_from P (er c) (erase_events es) ≡ Some (er d)

  pub reached : (es : List Event) (c d : Config) → AllSound Q c.goroutines → replay_from Q c es ≡ Some d → Reached c d es
  unfolding replay_from
  reached [] c d h e = let k = same_Some c d e in let F : Config → Type 0 = λ x. Reached c x [] in subst F k (record { sound = h; erased = refl })
  reached (Step a x b y ∷ es) c d h e =
      let f = and_then_some (λ z. replay_from Q z es) (step Q c (Step a x b y)) d e in
      let r = reached es f.0 d (stepped Q c f.0 a x b y h f.1).sound f.2 in
      record { sound = r.sound; erased = ap (option_and_then (λ z. replay_from P z (erase_events es))) (step_erased c f.0 a x b y h f.1) ∙ r.erased }
  reached (Count a u ∷ es) c d h e =
      let f = and_then_some (λ z. replay_from Q z es) (step Q c (Count a u)) d e in
      let s = counts Q apart_Q c f.0 a u h f.1 in
      let r = reached es f.0 d s.sound f.2 in
      record { sound = r.sound; erased = ap (λ z. replay_from P z (erase_events es)) (sym s.erased) ∙ r.erased }

  -- ---- entries

  unit_due_item : (is : List Item) → AllSettled Q is → unit_of_control P (map (erase_item Q) is) ≡ due_item Q is
  unit_due_item (Run n i ∷ is) h = unit_at_fresh P un n i h.0
  unit_due_item [] h = refl
  unit_due_item (it ∷ is) h = refl

  unit_due_frames : (b : Option Call) (fs : List Frame) → FramesSettled Q fs → unit_of_frames P b (map (erase_frame Q) fs) ≡ due_frames Q b fs
  unit_due_frames (Some call) fs h = refl
  unit_due_frames None [] h = refl
  unit_due_frames None (f ∷ fs) h = unit_due_item f.control h.0

  pub unit_due : (go : Option Goroutine) → IsSettledGoroutine Q go → unit_of P (option_map (erase_goroutine Q) go) ≡ due Q go
  unit_due None h = refl
  unit_due (Some go) h = unit_due_frames go.begin go.frames h

  pub numbered_erased : (c : Config) (g : ℕ) → numbered (er c) g ≡ option_map (erase_goroutine Q) (numbered c g)
  numbered_erased c zero = refl
  numbered_erased c (suc i) = slice_get-map (erase_goroutine Q) c.goroutines i

  entered_is : (c d : Config) (a b g u : ℕ) → Stepped Q c d a b → entered P (er d) a b g u + stands_in Q c g u ≡ stands_in Q d g u
  entered_is c d a b g u s = by (g == a) (g == b) (eqb-true g a) (eqb-true g b) (eqb-false g a) (eqb-false g b)
    where
      hit : (g ≡ a) ⊎ (g ≡ b) → is_unit (unit_of P (numbered (er d) g)) u + stands_in Q c g u ≡ stands_in Q d g u
      hit k =
          let e = ap (unit_of P) (numbered_erased d g) ∙ unit_due (numbered d g) (s.after g k) in
          let z : stands_in Q c g u ≡ 0 = ap (λ o. is_unit o u) (s.before g k) in
          let w : is_unit (unit_of P (numbered (er d) g)) u ≡ stands_in Q d g u = ap (λ o. is_unit o u) e in
          omega (arith, z, w)

      by : (x y : Bool) → (x ≡ true → g ≡ a) → (y ≡ true → g ≡ b) → (x ≡ false → g ≡ a → ⊥) → (y ≡ false → g ≡ b → ⊥) → (cond (x || y) (is_unit (unit_of P (numbered (er d) g)) u) 0) + stands_in Q c g u ≡ stands_in Q d g u
      by true y p q m n = hit (inl (p refl))
      by false true p q m n = hit (inr (q refl))
      by false false p q m n =
          let w : stands_in Q d g u ≡ stands_in Q c g u = ap (λ o. is_unit o u) (s.others g (m refl) (n refl)) in
          omega (arith, w)

  count_is : (c d : Config) (a w g u : ℕ) → Counts Q c d a w → stands_in Q c g u ≡ (cond ((a == g) && (w == u)) 1 0) + stands_in Q d g u
  count_is c d a w g u s = by (a == g) (eqb-true a g) (eqb-false a g)
    where
      here : a ≡ g → is_unit (due Q (numbered c g)) u ≡ cond (w == u) 1 0
      here k = let F : ℕ → Type 0 = λ x. is_unit (due Q (numbered c x)) u ≡ cond (w == u) 1 0 in subst F k (ap (λ o. is_unit o u) s.before)

      gone : a ≡ g → is_unit (due Q (numbered d g)) u ≡ 0
      gone k = let F : ℕ → Type 0 = λ x. is_unit (due Q (numbered d x)) u ≡ 0 in subst F k (ap (λ o. is_unit o u) s.after)

      by : (x : Bool) → (x ≡ true → a ≡ g) → (x ≡ false → a ≡ g → ⊥) → stands_in Q c g u ≡ (cond (x && (w == u)) 1 0) + stands_in Q d g u
      by true p m =
          let x = here (p refl) in
          let y = gone (p refl) in
          omega (arith, x, y)
      by false p m =
          let e : stands_in Q d g u ≡ stands_in Q c g u = ap (λ o. is_unit o u) (s.others g (λ k. m refl (sym k))) in
          omega (arith, e)

  pub entries_are : (es : List Event) (c d : Config) (g u : ℕ) → AllSound Q c.goroutines → replay_from Q c es ≡ Some d → entries_from P (er c) (erase_events es) g u + stands_in Q c g u ≡ counts_in es g u + stands_in Q d g u
  unfolding replay_from entries_from
  entries_are [] c d g u h e = let k = same_Some c d e in let w : stands_in Q c g u ≡ stands_in Q d g u = ap (λ x. stands_in Q x g u) k in omega (arith, w)
  entries_are (Step a x b y ∷ es) c d g u h e =
      let f = and_then_some (λ z. replay_from Q z es) (step Q c (Step a x b y)) d e in
      let s = stepped Q c f.0 a x b y h f.1 in
      let ih = entries_are es f.0 d g u s.sound f.2 in
      let i = entered_is c f.0 a b g u s in
      let one : entries_from P (er c) (Step a x b y ∷ erase_events es) g u ≡ entered P (er f.0) a b g u + entries_from P (er f.0) (erase_events es) g u = ap (entered_by P (Step a x b y) g u (λ z. entries_from P z (erase_events es) g u)) (step_erased c f.0 a x b y h f.1) in
      omega (arith, ih, i, one)
  entries_are (Count a w ∷ es) c d g u h e =
      let f = and_then_some (λ z. replay_from Q z es) (step Q c (Count a w)) d e in
      let s = counts Q apart_Q c f.0 a w h f.1 in
      let ih = entries_are es f.0 d g u s.sound f.2 in
      let i = count_is c f.0 a w g u s in
      let one : entries_from P (er f.0) (erase_events es) g u ≡ entries_from P (er c) (erase_events es) g u = ap (λ x. entries_from P x (erase_events es) g u) s.erased in
      omega (arith, ih, i, one)

  -- ---- the law

  pub sound_start : AllSound Q (start Q).goroutines
  sound_start = (tt, tt)

  pub start_erased : er (start Q) ≡ start P
  unfolding counted
  start_erased = refl

  pub goes_reaches : (limit k : ℕ) (es : List Event) (c : Config) → Goes Q limit c k es → (d : Config) × (replay_from Q c es ≡ Some d)
  unfolding Goes replay_from
  goes_reaches limit k [] c g = (c, refl)
  goes_reaches limit k (Step a x b y ∷ es) c g = let r = goes_reaches limit (suc k) es g.1.0 g.1.2 in (r.0, ap (option_and_then (λ z. replay_from Q z es)) g.1.1 ∙ r.1)
  goes_reaches limit k (Count a u ∷ es) c g = let r = goes_reaches limit k es g.0 g.2 in (r.0, ap (option_and_then (λ z. replay_from Q z es)) g.1 ∙ r.1)

  pub steps_erased : (es : List Event) → steps_in (erase_events es) ≡ steps_in es
  steps_erased [] = refl
  steps_erased (Step a x b y ∷ es) = ap suc (steps_erased es)
  steps_erased (Count a u ∷ es) = steps_erased es
