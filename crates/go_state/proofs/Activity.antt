-- What a goroutine that is over can do, and when nothing can happen.
use Rattle.std.proofs.Common.{◌≡◌, ℕ, zero, suc, ◌+◌, ◌<◌, ◌≤◌, Bool, true, false, cond, List, [], ◌∷◌, Option, Some, None, refl, sym, ap, ◌∙◌, subst, length, arith, ⊎_elim, eq-eqb}
use Rattle.std.specs.Prelude.{slice_get, ◌==◌, option_map}
use Rattle.std.specs.Option.{option_or}
use Rattle.std.proofs.lemmas.Option.{none-some}
use Rattle.std.proofs.lemmas.Bool.{cases_lt}
use Rattle.go_meaning.specs.declared.config.Call.{Call}
use Rattle.go_meaning.specs.declared.config.Frame.{Frame}
use Rattle.go_meaning.specs.declared.config.Goroutine.{Goroutine}
use Rattle.go_meaning.specs.declared.config.Config.{Config}
use Rattle.go_meaning.specs.declared.event.Event.TheVariants.{Step, Count}
use Rattle.go_meaning.specs.declared.node.NodeForm.{NodeForm}
use Rattle.go_meaning.specs.declared.node.NodeForm.TheVariants as node
use Rattle.go_meaning.specs.declared.item.Item.{Item}
use Rattle.go_meaning.specs.declared.item.Item.TheVariants.{Run}
use Rattle.go_meaning.specs.Programs.{Parts, form_at}
use Rattle.go_meaning.specs.Acts.{run, act_of}
use Rattle.go_meaning.specs.Moves.{put}
use Rattle.go_meaning.specs.Channels.{Neither, Plain, control_sides, frame_sides, sides_of, side_at, partner_sides, exchange, lone}
use Rattle.go_meaning.specs.Steps.{at_zero, on_control, on_frames, alone, count_of, due_item, arrive, together, arrive_both, due, due_frames, counted_at, arrive_one, past_frames, numbered, step}
use Rattle.go_meaning.specs.Readiness.{is_over, is_over_by, IsIdle}
use Rattle.go_meaning.specs.Histories.{IsDead}

module _ (P : Parts) (c : Config) where
  -- ---- a goroutine that is over

  no_side : (k : ℕ) → side_at (Plain Neither) k ≡ Neither
  no_side zero = refl
  no_side (suc k) = refl

  record IsStill (o : Option Goroutine) : Type 0 where
    alone : (i k : ℕ) → alone P c i k o ≡ None
    sides : sides_of P o ≡ Plain Neither

  over_still : (o : Option Goroutine) → is_over o ≡ true → IsStill o × (due P o ≡ None)
  over_still None e = (record { alone = λ i k. refl; sides = refl }, refl)
  over_still (Some go) e = (record { alone = (by go.begin go.frames e).0; sides = (by go.begin go.frames e).1 }, (by go.begin go.frames e).2)
    where
      by : (b : Option Call) (fs : List Frame) → is_over_by b fs ≡ true → ((i k : ℕ) → on_frames P c i k b fs ≡ None) × (frame_sides P b fs ≡ Plain Neither) × (due_frames P b fs ≡ None)
      by None [] h = ((λ i k. refl), refl, refl)
      by (Some call) fs h = cc
      by None (f ∷ fs) h = cc

  no_pair : (k q : ℕ) (a b : Option Goroutine) → IsStill a → together P c k q a b ≡ None
  no_pair k q a b h = ap (λ ss. exchange c (side_at ss k) (side_at (partner_sides (sides_of P b)) q)) h.sides ∙ ap (λ s. exchange c s (side_at (partner_sides (sides_of P b)) q)) (no_side k)

  no_step : (i k p q : ℕ) → IsStill (slice_get c.goroutines i) → step P c (Step (suc i) k p q) ≡ None
  unfolding step
  no_step i k zero zero h = ap (option_map (arrive c i)) (h.alone i k)
  no_step i k zero (suc q) h = refl
  no_step i k (suc j) q h = apart (i == j)
    where
      apart : (b : Bool) → cond b None (option_map (arrive_both c i j) (together P c k q (slice_get c.goroutines i) (slice_get c.goroutines j))) ≡ None
      apart true = refl
      apart false = ap (option_map (arrive_both c i j)) (no_pair k q (slice_get c.goroutines i) (slice_get c.goroutines j) h)

  -- it has no step, and stands at no counter
  pub over_idle : (g : ℕ) → is_over (numbered c g) ≡ true → IsIdle P c g
  unfolding step
  over_idle zero e = record { steps = λ k p q. refl; due = refl }
  over_idle (suc i) e =
      let s = over_still (slice_get c.goroutines i) e in
      record { steps = λ k p q. no_step i k p q s.0; due = s.1 }

  -- ---- a goroutine at a counter has no step of the program

  run_none : (i k n j : ℕ) (f : Frame) (fs : List Frame) (rest : List Item) (o : Option NodeForm) (u : ℕ) → count_of o ≡ Some u → option_or (lone P c i (Plain Neither) (side_at (Plain Neither) k)) (at_zero k (put P c i f fs rest (run n j o))) ≡ None
  unfolding lone put
  run_none i zero n j f fs rest (Some (node.Count w)) u e = refl
  run_none i (suc k) n j f fs rest (Some (node.Count w)) u e = refl
  run_none i k n j f fs rest o u e = cc

  control_none : (i k : ℕ) (f : Frame) (fs : List Frame) (is : List Item) (u : ℕ) → due_item P is ≡ Some u → (on_control P c i k f fs is ≡ None) × (control_sides P f fs is ≡ Plain Neither)
  unfolding act_of
  control_none i k f fs (Run n j ∷ is) u e = (run_none i k n j f fs is (form_at P n j) u e, refl)
  control_none i k f fs [] u e = cc
  control_none i k f fs (it ∷ is) u e = cc

  frames_none : (i k : ℕ) (b : Option Call) (fs : List Frame) (u : ℕ) → due_frames P b fs ≡ Some u → (on_frames P c i k b fs ≡ None) × (frame_sides P b fs ≡ Plain Neither)
  frames_none i k (Some call) fs u e = cc
  frames_none i k None [] u e = cc
  frames_none i k None (f ∷ fs) u e = control_none i k f fs f.control u e

  due_still : (o : Option Goroutine) (u : ℕ) → due P o ≡ Some u → IsStill o
  due_still None u e = absurd (none-some u e)
  due_still (Some go) u e = record { alone = λ i k. (frames_none i k go.begin go.frames u e).0; sides = (frames_none 0 0 go.begin go.frames u e).1 }

  due_none : (g u k p q : ℕ) → due P (numbered c g) ≡ Some u → step P c (Step g k p q) ≡ None
  due_none zero u k p q e = absurd (none-some u e)
  due_none (suc i) u k p q e = no_step i k p q (due_still (slice_get c.goroutines i) u e)

  pub step_undue : (g k p q : ℕ) (d : Config) → step P c (Step g k p q) ≡ Some d → due P (numbered c g) ≡ None
  step_undue g k p q d s = by (due P (numbered c g)) refl
    where
      by : (o : Option ℕ) → due P (numbered c g) ≡ o → o ≡ None
      by None e = refl
      by (Some u) e = absurd (none-some d (sym (due_none g u k p q e) ∙ s))

  -- ---- counter steps

  no_count : (u : ℕ) (o : Option Goroutine) (w : Option ℕ) → w ≡ None → counted_at u o w ≡ None
  no_count u None w e = refl
  no_count u (Some go) None e = refl
  no_count u (Some go) (Some v) e = absurd (none-some v (sym e))

  can_count : (u : ℕ) (o : Option Goroutine) → due P o ≡ Some u → (go : Goroutine) × (counted_at u o (due P o) ≡ Some go)
  can_count u None e = absurd (none-some u e)
  can_count u (Some go) e = (record go { frames = past_frames go.frames }, by (due P (Some go)) e)
    where
      by : (w : Option ℕ) → w ≡ Some u → counted_at u (Some go) w ≡ Some (record go { frames = past_frames go.frames })
      by None k = absurd (none-some u k)
      by (Some v) k = ap (λ x. counted_at u (Some go) x) k ∙ ap (λ b. cond b (Some (record go { frames = past_frames go.frames })) None) (eq-eqb u u refl)

  pub count_steps : (g u : ℕ) → due P (numbered c g) ≡ Some u → (d : Config) × (step P c (Count g u) ≡ Some d)
  unfolding step
  count_steps zero u e = absurd (none-some u e)
  count_steps (suc i) u e = let x = can_count u (slice_get c.goroutines i) e in (arrive_one c i x.0, ap (option_map (arrive_one c i)) x.1)

  -- ---- nothing can happen where each goroutine is idle

  pub all_idle : ((g : ℕ) → IsIdle P c g) → IsDead P c
  unfolding step
  all_idle h (Step g k p q) = (h g).steps k p q
  all_idle h (Count zero u) = refl
  all_idle h (Count (suc i) u) = ap (option_map (arrive_one c i)) (no_count u (slice_get c.goroutines i) (due P (slice_get c.goroutines i)) (h (suc i)).due)

  beyond : (gos : List Goroutine) (i : ℕ) → length gos ≤ i → slice_get gos i ≡ None
  beyond [] zero h = refl
  beyond [] (suc i) h = refl
  beyond (x ∷ gos) zero h = absurd (omega arith)
  beyond (x ∷ gos) (suc i) h = beyond gos i (omega (arith, h))

  pub dead_if : ((i : ℕ) → i < length c.goroutines → IsIdle P c (i + 1)) → IsDead P c
  dead_if h = all_idle by
    where
      by : (g : ℕ) → IsIdle P c g
      by zero = over_idle zero refl
      by (suc i) = ⊎_elim (λ l. let F : ℕ → Type 0 = IsIdle P c in let e : i + 1 ≡ suc i = omega arith in subst F e (h i l)) (λ l. over_idle (suc i) (ap is_over (beyond c.goroutines i l))) (cases_lt i (length c.goroutines))
