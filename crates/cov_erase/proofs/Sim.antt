-- One step of a covered configuration and of the erased one.
use Rattle.std.proofs.Common.{◌≡◌, ℕ, zero, suc, Bool, true, false, cond, List, [], ◌∷◌, ◌++◌, Option, Some, None, refl, sym, ap, ap₂, ◌∙◌, map}
use Rattle.std.specs.Prelude.{slice_get, slice_set, ◌==◌, option_map}
use Rattle.std.specs.Option.{option_or}
use Rattle.std.proofs.lemmas.List.{map-set, map-append}
use Rattle.std.proofs.lemmas.Option.{slice_get-map}
use Rattle.go_meaning.specs.declared.item.Item.{Item}
use Rattle.go_meaning.specs.declared.item.Item.TheVariants.{Pull, Pick}
use Rattle.go_meaning.specs.declared.event.Event.TheVariants.{Step}
use Rattle.go_meaning.specs.declared.config.Call.{Call as Begun}
use Rattle.go_meaning.specs.declared.config.Frame.{Frame}
use Rattle.go_meaning.specs.declared.config.Goroutine.{Goroutine}
use Rattle.go_meaning.specs.declared.config.Config.{Config}
use Rattle.go_meaning.specs.Programs.{Parts}
use Rattle.go_meaning.specs.Acts.{act_of}
use Rattle.go_meaning.specs.Moves.{Move, put}
use Rattle.go_meaning.specs.Channels.{Sides, item_sides, side_at, sides_of, partner_sides, exchange, lone}
use Rattle.go_meaning.specs.Steps.{at_zero, on_item, on_control, on_frames, alone, arrive, together, arrive_both, step, numbered}
use Rattle.go_meaning.specs.Erasing.{erase_program, erase_item, erase_frame, erase_goroutine, erase_config}
use Rattle.cov_erase.proofs.Acting.{IsPlainItem, sim_act}
use Rattle.cov_erase.proofs.Moving.{erase_move, sim_put}
use Rattle.cov_erase.proofs.Exchanging.{HasPlainSide, HaveSides, AllHaveSides, erase_sides, erase_pair, kept_item_sides, kept_sides, kept_side_at, kept_partner, kept_exchange, kept_lone}

or_map : {A B : Type 0} (f : A → B) (o p : Option A) → option_or (option_map f o) (option_map f p) ≡ option_map f (option_or o p)
or_map f None p = refl
or_map f (Some x) p = refl

at_zero_map : {A B : Type 0} (f : A → B) (k : ℕ) (o : Option A) → at_zero k (option_map f o) ≡ option_map f (at_zero k o)
at_zero_map f zero o = refl
at_zero_map f (suc k) o = refl

module _ (Q : Parts) where
  abbrev er : Config → Config
  er = erase_config Q

  abbrev ei : Item → Item
  ei = erase_item Q

  abbrev ef : Frame → Frame
  ef = erase_frame Q

  abbrev eg : Goroutine → Goroutine
  eg = erase_goroutine Q

  -- the head item stands at no counter
  abbrev pub IsPlainControl : List Item → Type 0
  IsPlainControl [] = Unit {0}
  IsPlainControl (it ∷ is) = IsPlainItem Q it

  abbrev pub IsPlainFrames : List Frame → Type 0
  IsPlainFrames [] = Unit {0}
  IsPlainFrames (f ∷ fs) = IsPlainControl f.control

  abbrev pub IsPlainBegun : Option Begun → List Frame → Type 0
  IsPlainBegun (Some call) fs = Unit {0}
  IsPlainBegun None fs = IsPlainFrames fs

  abbrev pub IsPlainGoroutine : Option Goroutine → Type 0
  IsPlainGoroutine None = Unit {0}
  IsPlainGoroutine (Some go) = IsPlainBegun go.begin go.frames

  plain_side : (it : Item) → IsPlainItem Q it → HasPlainSide Q it
  plain_side (Pull n i) h = h
  plain_side (Pick n i) h = h
  plain_side it h = tt

  -- ---- a goroutine alone

  sim_sides : (c : Config) (i k : ℕ) (ss ss' : Sides) → AllHaveSides Q c.goroutines → ss' ≡ erase_sides Q ss → lone (erase_program Q) (er c) i ss' (side_at ss' k) ≡ option_map (erase_move Q) (lone Q c i ss (side_at ss k))
  sim_sides c i k ss ss' h e =
      ap (λ xs. lone (erase_program Q) (er c) i xs (side_at xs k)) e
      ∙ ap (lone (erase_program Q) (er c) i (erase_sides Q ss)) (kept_side_at Q ss k)
      ∙ kept_lone Q c i ss (side_at ss k) h

  sim_item : (c : Config) (i k : ℕ) (f : Frame) (fs : List Frame) (it : Item) (rest : List Item) → AllHaveSides Q c.goroutines → IsPlainItem Q it → on_item (erase_program Q) (er c) i k (ef f) (map ef fs) (ei it) (map ei rest) ≡ option_map (erase_move Q) (on_item Q c i k f fs it rest)
  sim_item c i k f fs it rest h p =
      ap₂ option_or
      (sim_sides c i k (item_sides Q it f fs rest) _ h (kept_item_sides Q it f fs rest (plain_side it p)))
      (ap (λ a. at_zero k (put (erase_program Q) (er c) i (ef f) (map ef fs) (map ei rest) a)) (sim_act Q it c f.slots f.stack p) ∙ ap (at_zero k) (sim_put Q (act_of Q c it f.slots f.stack) c i f fs rest) ∙ at_zero_map (erase_move Q) k (put Q c i f fs rest (act_of Q c it f.slots f.stack)))
      ∙ or_map (erase_move Q) (lone Q c i (item_sides Q it f fs rest) (side_at (item_sides Q it f fs rest) k)) (at_zero k (put Q c i f fs rest (act_of Q c it f.slots f.stack)))

  sim_control : (c : Config) (i k : ℕ) (f : Frame) (fs : List Frame) (is : List Item) → AllHaveSides Q c.goroutines → IsPlainControl is → on_control (erase_program Q) (er c) i k (ef f) (map ef fs) (map ei is) ≡ option_map (erase_move Q) (on_control Q c i k f fs is)
  sim_control c i k f fs [] h p = refl
  sim_control c i k f fs (it ∷ is) h p = sim_item c i k f fs it is h p

  sim_frames : (c : Config) (i k : ℕ) (b : Option Begun) (fs : List Frame) → AllHaveSides Q c.goroutines → IsPlainBegun b fs → on_frames (erase_program Q) (er c) i k b (map ef fs) ≡ option_map (erase_move Q) (on_frames Q c i k b fs)
  sim_frames c i zero (Some call) fs h p = refl
  sim_frames c i (suc k) (Some call) fs h p = refl
  sim_frames c i k None [] h p = refl
  sim_frames c i k None (f ∷ fs) h p = sim_control c i k f fs f.control h p

  sim_alone : (c : Config) (i k : ℕ) (o : Option Goroutine) → AllHaveSides Q c.goroutines → IsPlainGoroutine o → alone (erase_program Q) (er c) i k (option_map eg o) ≡ option_map (erase_move Q) (alone Q c i k o)
  sim_alone c i k None h p = refl
  sim_alone c i k (Some go) h p = sim_frames c i k go.begin go.frames h p

  arrive_kept : (c : Config) (i : ℕ) (m : Option Move) → option_map (arrive (er c) i) (option_map (erase_move Q) m) ≡ option_map er (option_map (arrive c i) m)
  arrive_kept c i None = refl
  arrive_kept c i (Some m) =
      ap (λ gs. Some (record m.world { goroutines = gs }))
      (ap (λ gs. gs ++ map eg m.born) (sym (map-set eg c.goroutines i m.after))
      ∙ sym (map-append eg (slice_set c.goroutines i m.after) m.born))

  -- ---- an exchange

  sim_together : (c : Config) (k q : ℕ) (a b : Option Goroutine) → HaveSides Q a → HaveSides Q b → together (erase_program Q) (er c) k q (option_map eg a) (option_map eg b) ≡ option_map (erase_pair Q) (together Q c k q a b)
  sim_together c k q a b h p =
      ap₂ (λ ss ts. exchange (er c) (side_at ss k) (side_at (partner_sides ts) q)) (kept_sides Q a h) (kept_sides Q b p)
      ∙ ap (λ ts. exchange (er c) (side_at (erase_sides Q (sides_of Q a)) k) (side_at ts q)) (kept_partner Q (sides_of Q b))
      ∙ ap₂ (λ s t. exchange (er c) s t) (kept_side_at Q (sides_of Q a) k) (kept_side_at Q (partner_sides (sides_of Q b)) q)
      ∙ kept_exchange Q c (side_at (sides_of Q a) k) (side_at (partner_sides (sides_of Q b)) q)

  both_kept : (c : Config) (i j : ℕ) (p : Option (Goroutine × Goroutine)) → option_map (arrive_both (er c) i j) (option_map (erase_pair Q) p) ≡ option_map er (option_map (arrive_both c i j) p)
  both_kept c i j None = refl
  both_kept c i j (Some p) =
      ap (λ gs. Some (record c { goroutines = gs }))
      (ap (λ gs. slice_set gs j (eg p.1)) (sym (map-set eg c.goroutines i p.0))
      ∙ sym (map-set eg (slice_set c.goroutines i p.0) j p.1))

  have_sides : (gos : List Goroutine) (i : ℕ) → AllHaveSides Q gos → HaveSides Q (slice_get gos i)
  have_sides [] i h = tt
  have_sides (go ∷ gos) zero h = h.0
  have_sides (go ∷ gos) (suc i) h = have_sides gos i h.1

  -- where the event's goroutine stands at no counter, the step of the erased configuration is the erased step
  pub sim_step : (c : Config) (g k p q : ℕ) → AllHaveSides Q c.goroutines → IsPlainGoroutine (numbered c g) → step (erase_program Q) (er c) (Step g k p q) ≡ option_map er (step Q c (Step g k p q))
  unfolding step
  sim_step c zero k p q a h = refl
  sim_step c (suc i) k zero zero a h =
      ap (λ o. option_map (arrive (er c) i) (alone (erase_program Q) (er c) i k o)) (slice_get-map eg c.goroutines i)
      ∙ ap (option_map (arrive (er c) i)) (sim_alone c i k (slice_get c.goroutines i) a h)
      ∙ arrive_kept c i (alone Q c i k (slice_get c.goroutines i))
  sim_step c (suc i) k zero (suc q) a h = refl
  sim_step c (suc i) k (suc j) q a h = by (i == j)
    where
      both : together (erase_program Q) (er c) k q (slice_get (er c).goroutines i) (slice_get (er c).goroutines j) ≡ option_map (erase_pair Q) (together Q c k q (slice_get c.goroutines i) (slice_get c.goroutines j))
      both =
          ap₂ (λ x y. together (erase_program Q) (er c) k q x y) (slice_get-map eg c.goroutines i) (slice_get-map eg c.goroutines j)
          ∙ sim_together c k q (slice_get c.goroutines i) (slice_get c.goroutines j) (have_sides c.goroutines i a) (have_sides c.goroutines j a)

      by : (b : Bool) → cond b None (option_map (arrive_both (er c) i j) (together (erase_program Q) (er c) k q (slice_get (er c).goroutines i) (slice_get (er c).goroutines j))) ≡ option_map er (cond b None (option_map (arrive_both c i j) (together Q c k q (slice_get c.goroutines i) (slice_get c.goroutines j))))
      by true = refl
      by false =
          ap (option_map (arrive_both (er c) i j)) both
          ∙ both_kept c i j (together Q c k q (slice_get c.goroutines i) (slice_get c.goroutines j))
