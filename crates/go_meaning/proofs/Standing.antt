-- What a step leaves as it was.
use Rattle.std.proofs.Common.{◌≡◌, ℕ, zero, suc, ◌+◌, ◌<◌, Bool, true, false, cond, List, [], ◌∷◌, ◌++◌, Option, Some, None, refl, sym, ap, ap₂, ◌∙◌, subst, length, ⊎_elim, arith}
use Rattle.std.specs.Prelude.{slice_get, slice_set, slice_index_or, ◌==◌, option_map}
use Rattle.std.specs.List.{range_with_len}
use Rattle.std.specs.Option.{option_or, MatchOption}
use Rattle.std.proofs.lemmas.Option.{none-some, same_Some, slice_get-map}
use Rattle.std.proofs.lemmas.Bool.{eqb-true, cases_eq}
use Rattle.go_meaning.specs.declared.node.Node.{Node}
use Rattle.go_meaning.specs.declared.node.NodeForm.{NodeForm}
use Rattle.go_meaning.specs.declared.node.NodeForm.TheVariants as node
use Rattle.go_meaning.specs.declared.item.Item.{Item}
use Rattle.go_meaning.specs.declared.item.Item.TheVariants.{Run}
use Rattle.go_meaning.specs.declared.config.Call.{Call}
use Rattle.go_meaning.specs.declared.config.Frame.{Frame}
use Rattle.go_meaning.specs.declared.config.Goroutine.{Goroutine}
use Rattle.go_meaning.specs.declared.config.Config.{Config}
use Rattle.go_meaning.specs.declared.event.Event.TheVariants.{Step, Count}
use Rattle.go_meaning.specs.Programs.{Parts, form_of, form_at}
use Rattle.go_meaning.specs.Lists.{Nest, cutting_order}
use Rattle.go_meaning.specs.WellFormed.{IsStatement}
use Rattle.go_meaning.specs.Acts.{run, act_of}
use Rattle.go_meaning.specs.Moves.{Move, put}
use Rattle.go_meaning.specs.Channels.{Side, Neither, Offers, Wants, Defaults, Plain, control_sides, frame_sides, sides_of, side_at, partner_sides, exchange, lone}
use Rattle.go_meaning.specs.Steps.{at_zero, on_control, on_frames, alone, arrive, together, arrive_both, count_of, due_item, due_frames, due, counted_at, arrive_one, past_frames, numbered, step}
use Rattle.go_meaning.specs.Readiness.{is_over, is_over_by}
use Rattle.go_meaning.specs.Laws.{StandsUntilCounted, StaysOver, UnitsAreBelow}

-- ---- lists

get_set_other : {A : Type 0} (xs : List A) (i j : ℕ) (v : A) → (i ≡ j → ⊥) → slice_get (slice_set xs i v) j ≡ slice_get xs j
get_set_other [] zero j v h = refl
get_set_other [] (suc i) j v h = refl
get_set_other (y ∷ ys) zero zero v h = absurd (h refl)
get_set_other (y ∷ ys) zero (suc j) v h = refl
get_set_other (y ∷ ys) (suc i) zero v h = refl
get_set_other (y ∷ ys) (suc i) (suc j) v h = get_set_other ys i j v (λ e. h (ap suc e))

get_append : {A : Type 0} (xs ys : List A) (i : ℕ) (x : A) → slice_get xs i ≡ Some x → slice_get (xs ++ ys) i ≡ Some x
get_append [] ys i x e = absurd (none-some x e)
get_append (z ∷ xs) ys zero x e = e
get_append (z ∷ xs) ys (suc i) x e = get_append xs ys i x e

map_some : {A B : Type 0} (f : A → B) (o : Option A) (y : B) → option_map f o ≡ Some y → (x : A) × (o ≡ Some x) × (f x ≡ y)
map_some f None y e = absurd (none-some y e)
map_some f (Some x) y e = (x, refl, same_Some (f x) y e)

-- ---- a goroutine that no event of its own advances

-- it has no step alone and no side
pub record IsStill (P : Parts) (c : Config) (o : Option Goroutine) : Type 0 where
  pub alone : (i k : ℕ) → alone P c i k o ≡ None
  pub sides : sides_of P o ≡ Plain Neither

module _ (P : Parts) where
  no_side : (k : ℕ) → side_at (Plain Neither) k ≡ Neither
  no_side zero = refl
  no_side (suc k) = refl

  no_second : (c : Config) (s : Side) → exchange c s Neither ≡ None
  no_second c Neither = refl
  no_second c (Offers o v a p) = refl
  no_second c (Wants o take) = refl
  no_second c (Defaults a) = refl

  pub still_first : (c : Config) (k q : ℕ) (a b : Option Goroutine) → IsStill P c a → together P c k q a b ≡ None
  still_first c k q a b h = ap (λ ss. exchange c (side_at ss k) (side_at (partner_sides (sides_of P b)) q)) h.sides ∙ ap (λ s. exchange c s (side_at (partner_sides (sides_of P b)) q)) (no_side k)

  still_second : (c : Config) (k q : ℕ) (a b : Option Goroutine) → IsStill P c b → together P c k q a b ≡ None
  still_second c k q a b h = ap (λ ss. exchange c (side_at (sides_of P a) k) (side_at (partner_sides ss) q)) h.sides ∙ ap (λ t. exchange c (side_at (sides_of P a) k) t) (no_side q) ∙ no_second c (side_at (sides_of P a) k)

  -- it is as it was after each step of the program
  kept_alone : (c d : Config) (i k j : ℕ) (go : Goroutine) → IsStill P c (Some go) → slice_get c.goroutines j ≡ Some go → option_map (arrive c i) (alone P c i k (slice_get c.goroutines i)) ≡ Some d → slice_get d.goroutines j ≡ Some go
  kept_alone c d i k j go h e s = ⊎_elim own other (cases_eq i j)
    where
      m : (x : Move) × (alone P c i k (slice_get c.goroutines i) ≡ Some x) × (arrive c i x ≡ d)
      m = map_some (arrive c i) (alone P c i k (slice_get c.goroutines i)) d s

      own : i ≡ j → slice_get d.goroutines j ≡ Some go
      own w = absurd (none-some m.0 (sym (ap (alone P c i k) (ap (slice_get c.goroutines) w ∙ e) ∙ h.alone i k) ∙ m.1))

      other : (i ≡ j → ⊥) → slice_get d.goroutines j ≡ Some go
      other n =
          let F : Config → Type 0 = λ x. slice_get x.goroutines j ≡ Some go in
          subst F m.2 (get_append (slice_set c.goroutines i m.0.after) m.0.born j go (get_set_other c.goroutines i j m.0.after n ∙ e))

  kept_together : (c d : Config) (i j k q l : ℕ) (go : Goroutine) → IsStill P c (Some go) → slice_get c.goroutines l ≡ Some go → option_map (arrive_both c i j) (together P c k q (slice_get c.goroutines i) (slice_get c.goroutines j)) ≡ Some d → slice_get d.goroutines l ≡ Some go
  kept_together c d i j k q l go h e s = ⊎_elim first (λ n. ⊎_elim second (λ n'. other n n') (cases_eq j l)) (cases_eq i l)
    where
      p : (x : Goroutine × Goroutine) × (together P c k q (slice_get c.goroutines i) (slice_get c.goroutines j) ≡ Some x) × (arrive_both c i j x ≡ d)
      p = map_some (arrive_both c i j) (together P c k q (slice_get c.goroutines i) (slice_get c.goroutines j)) d s

      first : i ≡ l → slice_get d.goroutines l ≡ Some go
      first w = absurd (none-some p.0 (sym (ap (λ a. together P c k q a (slice_get c.goroutines j)) (ap (slice_get c.goroutines) w ∙ e) ∙ still_first c k q (Some go) (slice_get c.goroutines j) h) ∙ p.1))

      second : j ≡ l → slice_get d.goroutines l ≡ Some go
      second w = absurd (none-some p.0 (sym (ap (λ b. together P c k q (slice_get c.goroutines i) b) (ap (slice_get c.goroutines) w ∙ e) ∙ still_second c k q (slice_get c.goroutines i) (Some go) h) ∙ p.1))

      other : (i ≡ l → ⊥) → (j ≡ l → ⊥) → slice_get d.goroutines l ≡ Some go
      other n n' =
          let F : Config → Type 0 = λ x. slice_get x.goroutines l ≡ Some go in
          subst F p.2 (get_set_other (slice_set c.goroutines i p.0.0) j l p.0.1 n' ∙ get_set_other c.goroutines i l p.0.0 n ∙ e)

  kept_apart : (c d : Config) (i j k q l : ℕ) (go : Goroutine) → IsStill P c (Some go) → slice_get c.goroutines l ≡ Some go → (b : Bool) → cond b None (option_map (arrive_both c i j) (together P c k q (slice_get c.goroutines i) (slice_get c.goroutines j))) ≡ Some d → slice_get d.goroutines l ≡ Some go
  kept_apart c d i j k q l go h e true s = absurd (none-some d s)
  kept_apart c d i j k q l go h e false s = kept_together c d i j k q l go h e s

  kept : (c d : Config) (a k b q l : ℕ) (go : Goroutine) → IsStill P c (Some go) → slice_get c.goroutines l ≡ Some go → step P c (Step a k b q) ≡ Some d → slice_get d.goroutines l ≡ Some go
  unfolding step
  kept c d zero k b q l go h e s = absurd (none-some d s)
  kept c d (suc i) k zero zero l go h e s = kept_alone c d i k l go h e s
  kept c d (suc i) k zero (suc q) l go h e s = absurd (none-some d s)
  kept c d (suc i) k (suc j) q l go h e s = kept_apart c d i j k q l go h e (i == j) s

  -- ---- at a counter

  run_still : (c : Config) (i k n j : ℕ) (f : Frame) (fs : List Frame) (rest : List Item) (o : Option NodeForm) (u : ℕ) → count_of o ≡ Some u → option_or (lone P c i (Plain Neither) (side_at (Plain Neither) k)) (at_zero k (put P c i f fs rest (run n j o))) ≡ None
  unfolding lone put
  run_still c i zero n j f fs rest (Some (node.Count w)) u e = refl
  run_still c i (suc k) n j f fs rest (Some (node.Count w)) u e = refl
  run_still c i k n j f fs rest o u e = cc

  control_still : (c : Config) (i k : ℕ) (f : Frame) (fs : List Frame) (is : List Item) (u : ℕ) → due_item P is ≡ Some u → (on_control P c i k f fs is ≡ None) × (control_sides P f fs is ≡ Plain Neither)
  unfolding act_of
  control_still c i k f fs (Run n j ∷ is) u e = (run_still c i k n j f fs is (form_at P n j) u e, refl)
  control_still c i k f fs [] u e = cc
  control_still c i k f fs (it ∷ is) u e = cc

  frames_still : (c : Config) (i k : ℕ) (b : Option Call) (fs : List Frame) (u : ℕ) → due_frames P b fs ≡ Some u → (on_frames P c i k b fs ≡ None) × (frame_sides P b fs ≡ Plain Neither)
  frames_still c i k (Some call) fs u e = cc
  frames_still c i k None [] u e = cc
  frames_still c i k None (f ∷ fs) u e = control_still c i k f fs f.control u e

  pub due_still : (c : Config) (go : Goroutine) (u : ℕ) → due P (Some go) ≡ Some u → IsStill P c (Some go)
  due_still c go u e = record { alone = λ i k. (frames_still c i k go.begin go.frames u e).0; sides = (frames_still c 0 0 go.begin go.frames u e).1 }

  -- ---- over

  over_still_by : (c : Config) (b : Option Call) (fs : List Frame) → is_over_by b fs ≡ true → ((i k : ℕ) → on_frames P c i k b fs ≡ None) × (frame_sides P b fs ≡ Plain Neither)
  over_still_by c None [] e = ((λ i k. refl), refl)
  over_still_by c (Some call) fs e = cc
  over_still_by c None (f ∷ fs) e = cc

  over_still : (c : Config) (go : Goroutine) → is_over (Some go) ≡ true → IsStill P c (Some go)
  over_still c go e = let h = over_still_by c go.begin go.frames e in record { alone = h.0; sides = h.1 }

  -- ---- counter steps of others

  pub there : (c : Config) (g u : ℕ) → due P (numbered c g) ≡ Some u → (go : Goroutine) × (numbered c g ≡ Some go)
  there c g u e = by (numbered c g) e
    where
      by : (o : Option Goroutine) → due P o ≡ Some u → (go : Goroutine) × (o ≡ Some go)
      by None k = cc
      by (Some go) k = (go, refl)

  counted_due : (w : ℕ) (o : Option Goroutine) (x : Goroutine) → counted_at w o (due P o) ≡ Some x → due P o ≡ Some w
  counted_due w None x e = absurd (none-some x e)
  counted_due w (Some go) x e = by (due P (Some go)) e
    where
      by : (v : Option ℕ) → counted_at w (Some go) v ≡ Some x → v ≡ Some w
      by None k = absurd (none-some x k)
      by (Some v) k = at (v == w) (eqb-true v w) k
        where
          at : (b : Bool) → (b ≡ true → v ≡ w) → cond b (Some (record go { frames = past_frames go.frames })) None ≡ Some x → ◌≡◌ {A = Option ℕ} (Some v) (Some w)
          at true t q = ap Some (t refl)
          at false t q = absurd (none-some x q)

  -- a goroutine is as it was after a counter step, if that isn't its own
  kept_count : (c d : Config) (a w l : ℕ) (go : Goroutine) → slice_get c.goroutines l ≡ Some go → (suc l ≡ a → ⊥) → step P c (Count a w) ≡ Some d → slice_get d.goroutines l ≡ Some go
  unfolding step
  kept_count c d zero w l go e n s = absurd (none-some d s)
  kept_count c d (suc i) w l go e n s =
      let m = map_some (arrive_one c i) (counted_at w (slice_get c.goroutines i) (due P (slice_get c.goroutines i))) d s in
      let F : Config → Type 0 = λ x. slice_get x.goroutines l ≡ Some go in
      subst F m.2 (get_set_other c.goroutines i l m.0 (λ k. n (ap suc (sym k))) ∙ e)

  pub own_count : (c d : Config) (a w : ℕ) → step P c (Count a w) ≡ Some d → due P (numbered c a) ≡ Some w
  unfolding step
  own_count c d zero w s = absurd (none-some d s)
  own_count c d (suc i) w s =
      let m = map_some (arrive_one c i) (counted_at w (slice_get c.goroutines i) (due P (slice_get c.goroutines i))) d s in
      counted_due w (slice_get c.goroutines i) m.0 m.1

pub stands_until_counted : StandsUntilCounted
stands_until_counted P c d (Step a k b q) zero u s e n = absurd (none-some u e)
stands_until_counted P c d (Step a k b q) (suc l) u s e n =
    let go = there P c (suc l) u e in
    let here : due P (Some go.0) ≡ Some u = ap (due P) (sym go.1) ∙ e in
    ap (due P) (kept P c d a k b q l go.0 (due_still P c go.0 u here) go.1 s) ∙ here
stands_until_counted P c d (Count a w) zero u s e n = absurd (none-some u e)
stands_until_counted P c d (Count a w) (suc l) u s e n =
    let go = there P c (suc l) u e in
    let here : due P (Some go.0) ≡ Some u = ap (due P) (sym go.1) ∙ e in
    ap (due P) (kept_count P c d a w l go.0 go.1 (λ k. n (ap₂ Count (sym k) (same_Some w u (sym (own_count P c d a w s) ∙ ap (λ x. due P (numbered c x)) (sym k) ∙ e)))) s) ∙ here

pub stays_over : StaysOver
stays_over P c d (Step a k b q) zero go s e o = absurd (none-some go e)
stays_over P c d (Step a k b q) (suc l) go s e o = kept P c d a k b q l go (over_still P c go o) e s
stays_over P c d (Count a w) zero go s e o = absurd (none-some go e)
stays_over P c d (Count a w) (suc l) go s e o = kept_count P c d a w l go e (λ k. never (own_count P c d a w s) k) s
  where
    no_due : (b : Option Call) (fs : List Frame) → is_over_by b fs ≡ true → due_frames P b fs ≡ None
    no_due None [] h = refl
    no_due (Some call) fs h = cc
    no_due None (f ∷ fs) h = cc

    never : due P (numbered c a) ≡ Some w → suc l ≡ a → ⊥
    never h k = none-some w (sym (no_due go.begin go.frames o) ∙ ap (due P) (sym e) ∙ ap (λ x. due P (numbered c x)) k ∙ h)

-- ---- units

range_get : (a n i : ℕ) → i < n → slice_get (range_with_len a n) i ≡ Some (a + i)
range_get a zero i h = absurd (omega arith)
range_get a (suc n) zero h = ap Some (omega arith)
range_get a (suc n) (suc i) h = range_get (a + 1) n i (omega (arith, h)) ∙ ap Some (omega arith)

is_there : (ls : List (List Node)) (n i : ℕ) (form : NodeForm) → form_of (slice_get (slice_index_or ls n []) i) ≡ Some form → n < length ls
is_there [] zero i form e = absurd (none-some form e)
is_there [] (suc n) i form e = absurd (none-some form e)
is_there (l ∷ ls) zero i form e = omega arith
is_there (l ∷ ls) (suc n) i form e = let h = is_there ls n i form e in omega (arith, h)

count_is : (o : Option NodeForm) (u : ℕ) → count_of o ≡ Some u → o ≡ Some (node.Count u)
count_is (Some (node.Count w)) u e = ap (λ v. Some (node.Count v)) (same_Some w u e)
count_is o u e = cc

pub units_are_below : UnitsAreBelow
units_are_below P c g u ok e = by (numbered c g) e
  where
    form_below : (n i : ℕ) → form_at P n i ≡ Some (node.Count u) → u < P.units
    form_below n i f =
        let h = is_there P.lists n i (node.Count u) f in
        let at = map_some (λ (x : Nest). x.list) (slice_get (cutting_order P) n) n (sym (slice_get-map (λ (x : Nest). x.list) (cutting_order P) n) ∙ ap (λ l. slice_get l n) ok.ordered ∙ range_get 0 (length P.lists) n h ∙ ap Some (omega arith)) in
        let F : Option Nest → Type 0 = λ o. MatchOption o (Unit {0}) (λ x. MatchOption (form_at P x.list i) (Unit {0}) (IsStatement P x)) in
        let s : MatchOption (form_at P at.0.list i) (Unit {0}) (IsStatement P at.0) = subst F at.1 (ok.statements n i) in
        let G : Option NodeForm → Type 0 = λ o. MatchOption o (Unit {0}) (IsStatement P at.0) in
        let t : IsStatement P at.0 (node.Count u) = subst G (ap (λ x. form_at P x i) at.2 ∙ f) s in
        t.within

    at_control : (is : List Item) → due_item P is ≡ Some u → u < P.units
    at_control (Run n i ∷ is) k = form_below n i (count_is (form_at P n i) u k)
    at_control [] k = cc
    at_control (it ∷ is) k = cc

    at_frames : (b : Option Call) (fs : List Frame) → due_frames P b fs ≡ Some u → u < P.units
    at_frames (Some call) fs k = cc
    at_frames None [] k = cc
    at_frames None (f ∷ fs) k = at_control f.control k

    by : (o : Option Goroutine) → due P o ≡ Some u → u < P.units
    by None k = cc
    by (Some go) k = at_frames go.begin go.frames k
