-- A covered history has at most a counter event for each step, and one more for each goroutine.
use Rattle.std.proofs.Common.{◌≡◌, ℕ, zero, suc, ◌+◌, ◌*◌, ◌<◌, ◌≤◌, Bool, true, false, cond, List, [], ◌∷◌, Option, Some, None, refl, sym, ap, ◌∙◌, subst, length, arith, inl, inr, ◌⊎◌, ⊎_elim}
use Rattle.std.specs.Prelude.{slice_get, ◌==◌, option_map, IfSome}
use Rattle.std.proofs.lemmas.Option.{none-some, same_Some}
use Rattle.go_meaning.specs.declared.node.NodeForm.{NodeForm}
use Rattle.go_meaning.specs.declared.node.NodeForm.TheVariants as node
use Rattle.go_meaning.specs.declared.item.Item.{Item}
use Rattle.go_meaning.specs.declared.item.Item.TheVariants.{Run}
use Rattle.go_meaning.specs.declared.config.Call.{Call}
use Rattle.go_meaning.specs.declared.config.Frame.{Frame}
use Rattle.go_meaning.specs.declared.config.Goroutine.{Goroutine}
use Rattle.go_meaning.specs.declared.config.Config.{Config}
use Rattle.go_meaning.specs.declared.event.Event.{Event}
use Rattle.go_meaning.specs.declared.event.Event.TheVariants.{Step, Count}
use Rattle.go_meaning.specs.Programs.{Parts, form_at}
use Rattle.go_meaning.specs.Channels.{Neither, Plain, control_sides, frame_sides, sides_of}
use Rattle.go_meaning.specs.Steps.{arrive_both, arrive_one, count_of, due_item, due_frames, due, past_item, past_frames, counted_at, step, numbered, together}
use Rattle.go_meaning.specs.Erasing.{IsUncounted}
use Rattle.go_meaning.specs.Units.{counted}
use Rattle.go_meaning.specs.Histories.{start, replay_from, replay, steps_in, EndIs, EndBy, IsDead, Goes, IsHistory, StandsAt}
use Rattle.go_meaning.specs.Laws.{AreFew, GoroutinesStayFew}
use Rattle.cov_erase.specs.Laws.{Short, HistoriesAreShort}
use Rattle.cov_erase.proofs.Places.{IsPlain}
use Rattle.cov_erase.proofs.Cover.{IsOther}
use Rattle.cov_erase.proofs.Settled.{AllSettled, FramesSettled, AllSound}
use Rattle.cov_erase.proofs.Waiting.{together_sides}
use Rattle.cov_erase.proofs.Stepped.{get_set_same, map_some, IsSettledGoroutine, stepped}
use Rattle.cov_erase.proofs.Counted.{counts, count_some}
use Rattle.cov_erase.proofs.Totals.{sum_of, total, share, step_changes, count_changes}
use Rattle.cov_erase.proofs.Histories.{and_then_some, apart_Q, sound_start, goes_reaches}

-- ---- just past a counter

-- a counter stands there
abbrev is_counter : Option NodeForm → ℕ
is_counter (Some (node.Count u)) = 1
is_counter o = 0

abbrev past_one : Parts → List Item → ℕ
past_one Q (Run n (suc i) ∷ is) = is_counter (form_at Q n i)
past_one Q is = 0

abbrev past_frame : Parts → Option Call → List Frame → ℕ
past_frame Q (Some call) fs = 0
past_frame Q None [] = 0
past_frame Q None (f ∷ fs) = past_one Q f.control

-- 1 for a goroutine that has just counted and not yet gone on
abbrev past : Parts → Goroutine → ℕ
past Q go = past_frame Q go.begin go.frames

counter_small : (o : Option NodeForm) → is_counter o ≤ 1
counter_small (Some (node.Count u)) = omega arith
counter_small o = omega arith

counter_plain : (o : Option NodeForm) → IsPlain o → is_counter o ≡ 0
counter_plain (Some (node.Count u)) h = cc
counter_plain o h = refl

counter_other : (o : Option NodeForm) → IsOther o → is_counter o ≡ 0
counter_other None h = absurd h
counter_other (Some (node.Count u)) h = cc
counter_other (Some form) h = refl

counter_due : (o : Option NodeForm) (u : ℕ) → count_of o ≡ Some u → is_counter o ≡ 1
counter_due (Some (node.Count w)) u h = refl
counter_due o u h = cc

module _ (Q : Parts) where
  past_small : (go : Goroutine) → past Q go ≤ 1
  past_small go = by go.begin go.frames
    where
      at : (is : List Item) → past_one Q is ≤ 1
      at (Run n (suc i) ∷ is) = counter_small (form_at Q n i)
      at (Run n zero ∷ is) = omega arith
      at [] = omega arith
      at (it ∷ is) = omega arith

      by : (b : Option Call) (fs : List Frame) → past_frame Q b fs ≤ 1
      by (Some call) fs = omega arith
      by None [] = omega arith
      by None (f ∷ fs) = at f.control

  share_small : (o : Option Goroutine) → share (past Q) o ≤ 1
  share_small None = omega arith
  share_small (Some go) = past_small go

  past_new : (go : Goroutine) → go.frames ≡ [] → past Q go ≡ 0
  past_new go e = by go.begin go.frames e
    where
      by : (b : Option Call) (fs : List Frame) → fs ≡ [] → past_frame Q b fs ≡ 0
      by (Some call) fs h = refl
      by None [] h = refl
      by None (f ∷ fs) h = absurd cc

  past_settled : (o : Option Goroutine) → IsSettledGoroutine Q o → share (past Q) o ≡ 0
  past_settled None h = refl
  past_settled (Some go) h = by go.begin go.frames h
    where
      at : (is : List Item) → AllSettled Q is → past_one Q is ≡ 0
      at (Run n (suc i) ∷ is) k = counter_other (form_at Q n i) k.0
      at (Run n zero ∷ is) k = refl
      at [] k = refl
      at (it ∷ is) k = refl

      by : (b : Option Call) (fs : List Frame) → FramesSettled Q fs → past_frame Q b fs ≡ 0
      by (Some call) fs k = refl
      by None [] k = refl
      by None (f ∷ fs) k = at f.control k.0

  abbrev IsApart : Type 0
  IsApart = (n i w : ℕ) → count_of (form_at Q n i) ≡ Some w → IsPlain (form_at Q n (suc i))

  -- a goroutine at a counter isn't just past one
  past_due : IsApart → (u : ℕ) (o : Option Goroutine) → due Q o ≡ Some u → share (past Q) o ≡ 0
  past_due a u None h = refl
  past_due a u (Some go) h = by go.begin go.frames h
    where
      before : (n i : ℕ) (o : Option NodeForm) → o ≡ form_at Q n i → count_of (form_at Q n (suc i)) ≡ Some u → is_counter o ≡ 0
      before n i (Some (node.Count w)) e k = absurd (none-some u (sym (a n i w (ap count_of (sym e))) ∙ k))
      before n i o e k = refl

      at : (is : List Item) → due_item Q is ≡ Some u → past_one Q is ≡ 0
      at (Run n (suc i) ∷ is) k = before n i (form_at Q n i) refl k
      at (Run n zero ∷ is) k = refl
      at [] k = refl
      at (it ∷ is) k = refl

      by : (b : Option Call) (fs : List Frame) → due_frames Q b fs ≡ Some u → past_frame Q b fs ≡ 0
      by (Some call) fs k = refl
      by None [] k = refl
      by None (f ∷ fs) k = at f.control k

  -- a program step takes one goroutine at most that is just past a counter: an exchange takes none
  total_step : (c d : Config) (a k b q : ℕ) → AllSound Q c.goroutines → step Q c (Step a k b q) ≡ Some d → share (past Q) (numbered c a) + share (past Q) (numbered c b) ≤ 1 → total (past Q) c ≤ total (past Q) d + 1
  total_step c d a k b q h e small =
      let s = stepped Q c d a k b q h e in
      let t = step_changes (past Q) Q past_new c d a k b q h e in
      let x = past_settled (numbered d a) (s.after a (inl refl)) in
      let y = past_settled (numbered d b) (s.after b (inr refl)) in
      omega (arith, t, x, y, small)

  sum_small : (gos : List Goroutine) → sum_of (past Q) gos ≤ length gos
  sum_small [] = omega arith
  sum_small (go ∷ gos) = let a = past_small go in let b = sum_small gos in omega (arith, a, b)

  sum_less : (gos : List Goroutine) (i : ℕ) (go : Goroutine) → slice_get gos i ≡ Some go → past Q go ≡ 0 → sum_of (past Q) gos < length gos
  sum_less [] zero go e z = absurd (none-some go e)
  sum_less [] (suc i) go e z = absurd (none-some go e)
  sum_less (x ∷ gos) zero go e z = let a : past Q x ≡ 0 = ap (past Q) (same_Some x go e) ∙ z in let b = sum_small gos in omega (arith, a, b)
  sum_less (x ∷ gos) (suc i) go e z = let a = past_small x in let b = sum_less gos i go e z in omega (arith, a, b)

  -- ---- what an event changes

  side_past : (o : Option Goroutine) → (share (past Q) o ≡ 0) ⊎ (sides_of Q o ≡ Plain Neither)
  side_past None = inl refl
  side_past (Some go) = by go.begin go.frames
    where
      at : (f : Frame) (fs : List Frame) (is : List Item) → (past_one Q is ≡ 0) ⊎ (control_sides Q f fs is ≡ Plain Neither)
      at f fs (Run n i ∷ is) = inr refl
      at f fs [] = inl refl
      at f fs (it ∷ is) = inl refl

      by : (b : Option Call) (fs : List Frame) → (past_frame Q b fs ≡ 0) ⊎ (frame_sides Q b fs ≡ Plain Neither)
      by (Some call) fs = inl refl
      by None [] = inl refl
      by None (f ∷ fs) = at f fs f.control

  together_past : (c : Config) (k q : ℕ) (a b : Option Goroutine) (p : Goroutine × Goroutine) → together Q c k q a b ≡ Some p → share (past Q) a + share (past Q) b ≤ 1
  together_past c k q a b p e =
      let s = together_sides Q c k q a b p e in
      let x : share (past Q) a ≡ 0 = ⊎_elim (λ h. h) (λ h. absurd (s.0 h)) (side_past a) in
      let y : share (past Q) b ≡ 0 = ⊎_elim (λ h. h) (λ h. absurd (s.1 h)) (side_past b) in
      omega (arith, x, y)

  both_past : (c d : Config) (i j k q : ℕ) (b : Bool) → cond b None (option_map (arrive_both c i j) (together Q c k q (slice_get c.goroutines i) (slice_get c.goroutines j))) ≡ Some d → share (past Q) (slice_get c.goroutines i) + share (past Q) (slice_get c.goroutines j) ≤ 1
  both_past c d i j k q true e = absurd (none-some d e)
  both_past c d i j k q false e =
      let m = map_some (arrive_both c i j) (together Q c k q (slice_get c.goroutines i) (slice_get c.goroutines j)) d e in
      together_past c k q (slice_get c.goroutines i) (slice_get c.goroutines j) m.0 m.1

  step_past : (c d : Config) (a k b q : ℕ) → step Q c (Step a k b q) ≡ Some d → share (past Q) (numbered c a) + share (past Q) (numbered c b) ≤ 1
  unfolding step
  step_past c d zero k b q e = absurd (none-some d e)
  step_past c d (suc i) k zero q e = let x = share_small (slice_get c.goroutines i) in omega (arith, x)
  step_past c d (suc i) k (suc j) q e = both_past c d i j k q (i == j) e

  after_count : (c d : Config) (a w : ℕ) → step Q c (Count a w) ≡ Some d → share (past Q) (numbered d a) ≡ 1
  unfolding step
  after_count c d zero w e = absurd (none-some d e)
  after_count c d (suc i) w e =
      let m = map_some (arrive_one c i) (counted_at w (slice_get c.goroutines i) (due Q (slice_get c.goroutines i))) d e in
      let g = count_some Q w (slice_get c.goroutines i) (due Q (slice_get c.goroutines i)) m.0 m.1 in
      let here : due Q (Some g.0) ≡ Some w = ap (due Q) (sym g.1) ∙ g.2 in
      let F : Config → Type 0 = λ x. share (past Q) (numbered x (suc i)) ≡ 1 in
      subst F m.2 (ap (share (past Q)) (get_set_same c.goroutines i g.0 m.0 g.1) ∙ ap (past Q) (sym g.3) ∙ by g.0.begin g.0.frames here)
    where
      at : (is : List Item) → due_item Q is ≡ Some w → past_one Q (past_item is) ≡ 1
      at (Run n i ∷ is) k = counter_due (form_at Q n i) w k
      at [] k = cc
      at (it ∷ is) k = cc

      by : (b : Option Call) (fs : List Frame) → due_frames Q b fs ≡ Some w → past_frame Q b (past_frames fs) ≡ 1
      by (Some call) fs k = cc
      by None [] k = cc
      by None (f ∷ fs) k = at f.control k

  -- ---- histories

  lengths : IsApart → (es : List Event) (c d : Config) → AllSound Q c.goroutines → replay_from Q c es ≡ Some d → length es + total (past Q) c ≤ 2 * steps_in es + total (past Q) d
  unfolding replay_from
  lengths ap' [] c d h e = let w : total (past Q) c ≡ total (past Q) d = ap (total (past Q)) (same_Some c d e) in omega (arith, w)
  lengths ap' (Step a k b q ∷ es) c d h e =
      let f = and_then_some (λ z. replay_from Q z es) (step Q c (Step a k b q)) d e in
      let ih = lengths ap' es f.0 d (stepped Q c f.0 a k b q h f.1).sound f.2 in
      let t = total_step c f.0 a k b q h f.1 (step_past c f.0 a k b q f.1) in
      omega (arith, ih, t)
  lengths ap' (Count a w ∷ es) c d h e =
      let f = and_then_some (λ z. replay_from Q z es) (step Q c (Count a w)) d e in
      let s = counts Q ap' c f.0 a w h f.1 in
      let ih = lengths ap' es f.0 d s.sound f.2 in
      let t = count_changes (past Q) Q past_new c f.0 a w f.1 in
      let x = past_due ap' w (numbered c a) s.before in
      let y = after_count c f.0 a w f.1 in
      omega (arith, ih, t, x, y)

  not_late : (limit k : ℕ) (c : Config) → EndIs Q limit c k None → (limit ≤ k → ⊥)
  not_late limit k c h = by c.end h
    where
      by : (o : Option Rattle.go_meaning.specs.declared.event.End.End) → EndBy o (IsDead Q c) (limit ≤ k) None → (limit ≤ k → ⊥)
      by None x = x.1
      by (Some e) x = absurd (none-some e x)

  few_steps : (limit k : ℕ) (es : List Event) (c : Config) → Goes Q limit c k es → (k ≤ limit) → k + steps_in es ≤ limit
  unfolding Goes
  few_steps limit k [] c g h = omega (arith, h)
  few_steps limit k (Step a x b y ∷ es) c g h =
      let n = not_late limit k c g.0 in
      let m : suc k ≤ limit = more limit k n in
      let i = few_steps limit (suc k) es g.1.0 g.1.2 m in
      omega (arith, i)
    where
      more : (limit k : ℕ) → (limit ≤ k → ⊥) → suc k ≤ limit
      more limit k n = omega (arith, n)
  few_steps limit k (Count a u ∷ es) c g h = few_steps limit k es g.0 g.2 h

  few_reached : GoroutinesStayFew → (es : List Event) (c d : Config) → AreFew c → replay_from Q c es ≡ Some d → AreFew d
  unfolding replay_from
  few_reached few [] c d h e = let F : Config → Type 0 = AreFew in subst F (same_Some c d e) h
  few_reached few (x ∷ es) c d h e =
      let f = and_then_some (λ z. replay_from Q z es) (step Q c x) d e in
      few_reached few es f.0 d (few Q c f.0 x f.1 h) f.2

module _ (few : GoroutinesStayFew) (P : Parts) (un : IsUncounted P) (limit : ℕ) (es : List Event) (g : IsHistory (counted P) limit es) where
  abbrev Q : Parts
  Q = counted P

  short_to : (d : Config) → replay Q es ≡ Some d → length es ≤ 2 * limit + total (past Q) d
  unfolding counted
  short_to d e =
      let l = lengths Q (apart_Q P un) es (start Q) d (sound_start P un) e in
      let s = few_steps Q limit 0 es (start Q) g (omega arith) in
      omega (arith, l, s)

  room_at : (d : Config) → replay Q es ≡ Some d → (a u : ℕ) → due Q (numbered d a) ≡ Some u → length es < 2 * limit + 256
  room_at d e zero u k = absurd (none-some u k)
  room_at d e (suc i) u k = by (slice_get d.goroutines i) refl
    where
      by : (o : Option Goroutine) → slice_get d.goroutines i ≡ o → length es < 2 * limit + 256
      by None w = absurd (none-some u (sym (ap (due Q) w) ∙ k))
      by (Some go) w =
          let z : past Q go ≡ 0 = past_due Q (apart_Q P un) u (Some go) (sym (ap (due Q) w) ∙ k) in
          let s = sum_less Q d.goroutines i go w z in
          let l = short_to d e in
          let f = few_reached Q few es (start Q) d (omega arith) e in
          omega (arith, s, l, f)

  pub short : Short P limit es
  unfolding StandsAt
  short =
      let r = goes_reaches P un limit 0 es (start Q) g in
      let l = short_to r.0 r.1 in
      let s = sum_small Q r.0.goroutines in
      let f = few_reached Q few es (start Q) r.0 (omega arith) r.1 in
      record {
        within = omega (arith, l, s, f);
        room = λ a u h. let F : Option Config → Type 0 = λ x. IfSome x (λ c. due Q (numbered c a) ≡ Some u) in room_at r.0 r.1 a u (subst F r.1 h);
      }

pub histories_are_short : GoroutinesStayFew → HistoriesAreShort
histories_are_short few P limit c un h = short few P un limit c h
