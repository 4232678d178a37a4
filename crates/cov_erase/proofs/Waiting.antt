-- A goroutine that stands at a counter has no step of the program, and no other does with it.
use Rattle.std.proofs.Common.{◌≡◌, ℕ, zero, suc, List, [], ◌∷◌, Option, Some, None, refl, sym, ap, ◌∙◌, inl, inr, ◌⊎◌, ⊎_elim}
use Rattle.std.specs.Option.{option_or}
use Rattle.std.proofs.lemmas.Option.{none-some}
use Rattle.go_meaning.specs.declared.node.NodeForm.{NodeForm}
use Rattle.go_meaning.specs.declared.node.NodeForm.TheVariants as node
use Rattle.go_meaning.specs.declared.item.Item.{Item}
use Rattle.go_meaning.specs.declared.item.Item.TheVariants.{Run, Loop, Test, Next, Each, Pull, Match, Compare, Pick}
use Rattle.go_meaning.specs.declared.config.Call.{Call as Begun}
use Rattle.go_meaning.specs.declared.config.Frame.{Frame}
use Rattle.go_meaning.specs.declared.config.Goroutine.{Goroutine}
use Rattle.go_meaning.specs.declared.config.Config.{Config}
use Rattle.go_meaning.specs.Programs.{Parts, form_at}
use Rattle.go_meaning.specs.Acts.{run, act_of}
use Rattle.go_meaning.specs.Moves.{Move, put}
use Rattle.go_meaning.specs.Channels.{Side, Neither, Offers, Wants, Defaults, Plain, control_sides, frame_sides, sides_of, side_at, partner_sides, exchange, lone}
use Rattle.go_meaning.specs.Steps.{at_zero, on_control, on_frames, alone, together, count_of, due_item, due_frames, due}
use Rattle.cov_erase.proofs.Sim.{IsPlainControl, IsPlainBegun, IsPlainGoroutine}
use Rattle.cov_erase.proofs.Exchanging.{HasPlainSide, HaveFrames, AllHaveSides}
use Rattle.cov_erase.proofs.Settled.{IsControl, IsSound, AllSound}
use Rattle.cov_erase.proofs.Sound.{IsSoundGoroutine}

module _ (Q : Parts) where
  -- ---- where no counter is due, the head is plain

  plain_control : (is : List Item) → IsControl Q is → due_item Q is ≡ None → IsPlainControl Q is
  plain_control [] h e = tt
  plain_control (Run n i ∷ is) h e = e
  plain_control (Loop n i ∷ is) h e = h.0
  plain_control (Test n i ∷ is) h e = h.0
  plain_control (Next n i ∷ is) h e = h.0
  plain_control (Each n i ∷ is) h e = h.0
  plain_control (Pull n i ∷ is) h e = h.0
  plain_control (Match n i k ∷ is) h e = h.0
  plain_control (Compare n i k ∷ is) h e = h.0
  plain_control (Pick n i ∷ is) h e = h.0
  plain_control (it ∷ is) h e = tt

  plain_frames : (b : Option Begun) (fs : List Frame) → IsSound Q fs → due_frames Q b fs ≡ None → IsPlainBegun Q b fs
  plain_frames (Some call) fs h e = tt
  plain_frames None [] h e = tt
  plain_frames None (f ∷ fs) h e = plain_control f.control h.0 e

  pub plain_due : (go : Option Goroutine) → IsSoundGoroutine Q go → due Q go ≡ None → IsPlainGoroutine Q go
  plain_due None h e = tt
  plain_due (Some go) h e = plain_frames go.begin go.frames h e

  -- a sound head has a side by a statement that is no counter
  sides_control : (is : List Item) → IsControl Q is → Rattle.cov_erase.proofs.Exchanging.HaveControl Q is
  sides_control [] h = tt
  sides_control (Pull n i ∷ is) h = h.0
  sides_control (Pick n i ∷ is) h = h.0
  sides_control (it ∷ is) h = tt

  sides_frames : (fs : List Frame) → IsSound Q fs → HaveFrames Q fs
  sides_frames [] h = tt
  sides_frames (f ∷ fs) h = sides_control f.control h.0

  pub sides_sound : (gos : List Goroutine) → AllSound Q gos → AllHaveSides Q gos
  sides_sound [] h = tt
  sides_sound (go ∷ gos) h = (sides_frames go.frames h.0, sides_sound gos h.1)

  -- ---- where a counter is due, there is no program step

  run_due : (n j : ℕ) (o : Option NodeForm) (c : Config) (i k : ℕ) (f : Frame) (fs : List Frame) (rest : List Item) (m : Move) → option_or (lone Q c i (Plain Neither) (side_at (Plain Neither) k)) (at_zero k (put Q c i f fs rest (run n j o))) ≡ Some m → count_of o ≡ None
  unfolding lone put
  run_due n j (Some (node.Count u)) c i zero f fs rest m e = absurd (none-some m e)
  run_due n j (Some (node.Count u)) c i (suc k) f fs rest m e = absurd (none-some m e)
  run_due n j o c i k f fs rest m e = refl

  control_due : (c : Config) (i k : ℕ) (f : Frame) (fs : List Frame) (is : List Item) (m : Move) → on_control Q c i k f fs is ≡ Some m → due_item Q is ≡ None
  unfolding act_of
  control_due c i k f fs [] m e = refl
  control_due c i k f fs (Run n j ∷ is) m e = run_due n j (form_at Q n j) c i k f fs is m e
  control_due c i k f fs (it ∷ is) m e = refl

  begun_due : (c : Config) (i k : ℕ) (b : Option Begun) (fs : List Frame) (m : Move) → on_frames Q c i k b fs ≡ Some m → due_frames Q b fs ≡ None
  begun_due c i k (Some call) fs m e = refl
  begun_due c i k None [] m e = refl
  begun_due c i k None (f ∷ fs) m e = control_due c i k f fs f.control m e

  pub alone_due : (c : Config) (i k : ℕ) (go : Option Goroutine) (m : Move) → alone Q c i k go ≡ Some m → due Q go ≡ None
  alone_due c i k None m e = refl
  alone_due c i k (Some go) m e = begun_due c i k go.begin go.frames m e

  -- ---- a goroutine that stands at a counter has no side

  side_run : (is : List Item) (f : Frame) (fs : List Frame) → (due_item Q is ≡ None) ⊎ (control_sides Q f fs is ≡ Plain Neither)
  side_run [] f fs = inl refl
  side_run (Run n i ∷ is) f fs = inr refl
  side_run (it ∷ is) f fs = inl refl

  side_begun : (b : Option Begun) (fs : List Frame) → (due_frames Q b fs ≡ None) ⊎ (frame_sides Q b fs ≡ Plain Neither)
  side_begun (Some call) fs = inl refl
  side_begun None [] = inl refl
  side_begun None (f ∷ fs) = side_run f.control f fs

  pub side_due : (go : Option Goroutine) → (due Q go ≡ None) ⊎ (sides_of Q go ≡ Plain Neither)
  side_due None = inl refl
  side_due (Some go) = side_begun go.begin go.frames

  no_side : (k : ℕ) → side_at (Plain Neither) k ≡ Neither
  no_side zero = refl
  no_side (suc k) = refl

  no_second : (c : Config) (s : Side) → exchange c s Neither ≡ None
  no_second c Neither = refl
  no_second c (Offers o v a p) = refl
  no_second c (Wants o take) = refl
  no_second c (Defaults a) = refl

  -- both goroutines of an exchange have a side
  pub together_sides : (c : Config) (k q : ℕ) (a b : Option Goroutine) (p : Goroutine × Goroutine) → together Q c k q a b ≡ Some p → (sides_of Q a ≡ Plain Neither → ⊥) × (sides_of Q b ≡ Plain Neither → ⊥)
  together_sides c k q a b p e = ((λ h. none-some p (sym (first h) ∙ e)), (λ h. none-some p (sym (second h) ∙ e)))
    where
      first : sides_of Q a ≡ Plain Neither → together Q c k q a b ≡ None
      first h = ap (λ ss. exchange c (side_at ss k) (side_at (partner_sides (sides_of Q b)) q)) h ∙ ap (λ s. exchange c s (side_at (partner_sides (sides_of Q b)) q)) (no_side k)

      second : sides_of Q b ≡ Plain Neither → together Q c k q a b ≡ None
      second h = ap (λ ss. exchange c (side_at (sides_of Q a) k) (side_at (partner_sides ss) q)) h ∙ ap (λ t. exchange c (side_at (sides_of Q a) k) t) (no_side q) ∙ no_second c (side_at (sides_of Q a) k)

  -- both goroutines of an exchange are at no counter
  pub together_due : (c : Config) (k q : ℕ) (a b : Option Goroutine) (p : Goroutine × Goroutine) → together Q c k q a b ≡ Some p → (due Q a ≡ None) × (due Q b ≡ None)
  together_due c k q a b p e =
      let s = together_sides c k q a b p e in
      (⊎_elim (λ h. h) (λ h. absurd (s.0 h)) (side_due a), ⊎_elim (λ h. h) (λ h. absurd (s.1 h)) (side_due b))

  -- both goroutines of an exchange are there
  pub together_there : (c : Config) (k q : ℕ) (a b : Option Goroutine) (p : Goroutine × Goroutine) → together Q c k q a b ≡ Some p → ((x : Goroutine) × (a ≡ Some x)) × ((y : Goroutine) × (b ≡ Some y))
  together_there c k q None b p e = absurd (none-some p (sym (ap (λ s. exchange c s (side_at (partner_sides (sides_of Q b)) q)) (no_side k)) ∙ e))
  together_there c k q (Some x) None p e = absurd (none-some p (sym (ap (λ t. exchange c (side_at (sides_of Q (Some x)) k) t) (no_side q) ∙ no_second c (side_at (sides_of Q (Some x)) k)) ∙ e))
  together_there c k q (Some x) (Some y) p e = ((x, refl), (y, refl))
