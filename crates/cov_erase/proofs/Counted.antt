-- What a counter step leaves, goroutine by goroutine.
use Rattle.std.proofs.Common.{◌≡◌, ℕ, zero, suc, Bool, true, false, cond, List, [], ◌∷◌, Option, Some, None, refl, sym, ap, ◌∙◌, subst, map}
use Rattle.std.specs.Prelude.{slice_get, slice_set, ◌==◌}
use Rattle.std.proofs.lemmas.Option.{none-some, same_Some}
use Rattle.std.proofs.lemmas.Bool.{eqb-true}
use Rattle.go_meaning.specs.declared.item.Item.{Item}
use Rattle.go_meaning.specs.declared.item.Item.TheVariants.{Run}
use Rattle.go_meaning.specs.declared.config.Call.{Call}
use Rattle.go_meaning.specs.declared.config.Frame.{Frame}
use Rattle.go_meaning.specs.declared.config.Goroutine.{Goroutine}
use Rattle.go_meaning.specs.declared.config.Config.{Config}
use Rattle.go_meaning.specs.declared.event.Event.TheVariants.{Count}
use Rattle.go_meaning.specs.Programs.{Parts, list_at, form_at}
use Rattle.go_meaning.specs.Steps.{count_of, due_item, due_frames, due, past_item, past_frames, counted_at, step, arrive_one, numbered}
use Rattle.go_meaning.specs.Erasing.{erase_item, erase_frame, erase_goroutine, erase_config}
use Rattle.cov_erase.proofs.Places.{IsPlain, place_past_count}
use Rattle.cov_erase.proofs.Settled.{IsControl, IsSound, AllSound}
use Rattle.cov_erase.proofs.Sound.{IsSoundGoroutine}
use Rattle.cov_erase.proofs.Stepped.{get_set_same, get_set_other, map_some, sound_get, sound_set}

module _ (Q : Parts) where
  pub count_some : (u : ℕ) (o : Option Goroutine) (w : Option ℕ) (x : Goroutine) → counted_at u o w ≡ Some x → (go : Goroutine) × (o ≡ Some go) × (w ≡ Some u) × (record go { frames = past_frames go.frames } ≡ x)
  count_some u None None x e = absurd (none-some x e)
  count_some u None (Some w) x e = absurd (none-some x e)
  count_some u (Some go) None x e = absurd (none-some x e)
  count_some u (Some go) (Some w) x e = by (w == u) (λ k. eqb-true w u k) e
    where
      by : (b : Bool) → (b ≡ true → w ≡ u) → cond b (Some (record go { frames = past_frames go.frames })) None ≡ Some x → (g : Goroutine) × (◌≡◌ {A = Option Goroutine} (Some go) (Some g)) × (◌≡◌ {A = Option ℕ} (Some w) (Some u)) × (record g { frames = past_frames g.frames } ≡ x)
      by true t k = (go, refl, ap Some (t refl), same_Some (record go { frames = past_frames go.frames }) x k)
      by false t k = absurd (none-some x k)

  abbrev pub IsApart : Type 0
  IsApart = (n i w : ℕ) → count_of (form_at Q n i) ≡ Some w → IsPlain (form_at Q n (suc i))

  past_due_item : IsApart → (u : ℕ) (is : List Item) → due_item Q is ≡ Some u → due_item Q (past_item is) ≡ None
  past_due_item a u (Run n i ∷ is) e = a n i u e
  past_due_item a u [] e = refl
  past_due_item a u (it ∷ is) e = refl

  pub past_due : IsApart → (u : ℕ) (b : Option Call) (fs : List Frame) → due_frames Q b fs ≡ Some u → due_frames Q b (past_frames fs) ≡ None
  past_due a u (Some call) fs e = refl
  past_due a u None [] e = refl
  past_due a u None (f ∷ fs) e = past_due_item a u f.control e

  past_control : (is : List Item) → IsControl Q is → IsControl Q (past_item is)
  past_control (Run n i ∷ is) h = (tt, h.1)
  past_control [] h = h
  past_control (it ∷ is) h = h

  past_sound : (fs : List Frame) → IsSound Q fs → IsSound Q (past_frames fs)
  past_sound [] h = tt
  past_sound (f ∷ fs) h = (past_control f.control h.0, h.1)

  past_erased_item : (u : ℕ) (is : List Item) → due_item Q is ≡ Some u → map (erase_item Q) (past_item is) ≡ map (erase_item Q) is
  past_erased_item u (Run n i ∷ is) e = ap (λ k. Run n k ∷ map (erase_item Q) is) (place_past_count (list_at Q n) i u e)
  past_erased_item u [] e = refl
  past_erased_item u (it ∷ is) e = refl

  past_erased : (u : ℕ) (b : Option Call) (fs : List Frame) → due_frames Q b fs ≡ Some u → map (erase_frame Q) (past_frames fs) ≡ map (erase_frame Q) fs
  past_erased u (Some call) fs e = absurd (none-some u e)
  past_erased u None [] e = refl
  past_erased u None (f ∷ fs) e =
      ap (λ k. record f { control = k } ∷ map (erase_frame Q) fs) (past_erased_item u f.control e)

  map_set_same : {A B : Type 0} (f : A → B) (xs : List A) (i : ℕ) (x y : A) → slice_get xs i ≡ Some x → f y ≡ f x → map f (slice_set xs i y) ≡ map f xs
  map_set_same f [] zero x y e k = refl
  map_set_same f [] (suc i) x y e k = refl
  map_set_same f (z ∷ zs) zero x y e k = ap (λ w. w ∷ map f zs) (k ∙ ap f (sym (same_Some z x e)))
  map_set_same f (z ∷ zs) (suc i) x y e k = ap (λ ws. f z ∷ ws) (map_set_same f zs i x y e k)

  -- what the counter step of goroutine a leaves
  pub record Counts (c d : Config) (a u : ℕ) : Type 0 where
    pub sound : AllSound Q d.goroutines
    pub before : due Q (numbered c a) ≡ Some u
    pub after : due Q (numbered d a) ≡ None
    pub others : (g : ℕ) → (g ≡ a → ⊥) → due Q (numbered d g) ≡ due Q (numbered c g)
    pub erased : erase_config Q d ≡ erase_config Q c

  pub counts : IsApart → (c d : Config) (a u : ℕ) → AllSound Q c.goroutines → step Q c (Count a u) ≡ Some d → Counts c d a u
  unfolding step
  counts ap' c d zero u h e = absurd (none-some d e)
  counts ap' c d (suc i) u h e =
      let f = map_some (arrive_one c i) (counted_at u (slice_get c.goroutines i) (due Q (slice_get c.goroutines i))) d e in
      let g = count_some u (slice_get c.goroutines i) (due Q (slice_get c.goroutines i)) f.0 f.1 in
      let go = g.0 in
      let past = record go { frames = past_frames go.frames } in
      let here : due Q (Some go) ≡ Some u = ap (due Q) (sym g.1) ∙ g.2 in
      let R : Config → Type 0 = λ x. Counts c x (suc i) u in
      let S : Goroutine → Type 0 = λ x. Counts c (arrive_one c i x) (suc i) u in
      let P : Option Goroutine → Type 0 = IsSoundGoroutine Q in
      subst R f.2 (subst S g.3 (record {
        sound = sound_set Q c.goroutines i past h (past_sound go.frames (subst P g.1 (sound_get Q c.goroutines i h)));
        before = g.2;
        after = ap (due Q) (get_set_same c.goroutines i go past g.1) ∙ past_due ap' u go.begin go.frames here;
        others = others past;
        erased = ap (λ gs. record c { goroutines = gs }) (map_set_same (erase_goroutine Q) c.goroutines i go past g.1 (ap (λ fs. record { begin = go.begin; frames = fs }) (past_erased u go.begin go.frames here)));
      }))
    where
      others : (x : Goroutine) (g : ℕ) → (g ≡ suc i → ⊥) → due Q (numbered (arrive_one c i x) g) ≡ due Q (numbered c g)
      others x zero k = refl
      others x (suc j) k = ap (due Q) (get_set_other c.goroutines i j x (λ e. k (ap suc (sym e))))
