-- What a program step leaves, goroutine by goroutine.
use Rattle.std.proofs.Common.{◌≡◌, ℕ, zero, suc, Bool, true, false, cond, List, [], ◌∷◌, ◌++◌, Option, Some, None, refl, sym, ap, ◌∙◌, subst, inl, inr, ◌⊎◌, arith}
use Rattle.std.specs.Prelude.{slice_get, slice_set, ◌==◌, option_map}
use Rattle.std.specs.Option.{MatchOption}
use Rattle.std.proofs.lemmas.Option.{none-some, same_Some}
use Rattle.std.proofs.lemmas.Bool.{eqb-false}
use Rattle.go_meaning.specs.declared.config.Call.{Call}
use Rattle.go_meaning.specs.declared.config.Frame.{Frame}
use Rattle.go_meaning.specs.declared.config.Goroutine.{Goroutine}
use Rattle.go_meaning.specs.declared.config.Config.{Config}
use Rattle.go_meaning.specs.declared.event.Event.TheVariants.{Step}
use Rattle.go_meaning.specs.Programs.{Parts}
use Rattle.go_meaning.specs.Moves.{Move}
use Rattle.go_meaning.specs.Steps.{alone, together, due_frames, due, step, arrive, arrive_both, numbered}
use Rattle.cov_erase.proofs.Settled.{FramesSettled, IsSound, AllSound, sound_settled}
use Rattle.cov_erase.proofs.Sound.{IsSoundGoroutine, AreNew, MoveSettled, fine_alone, PairSettled, settled_both}
use Rattle.cov_erase.proofs.Waiting.{plain_due, alone_due, together_due, together_there}

-- ---- lists

pub get_set_same : {A : Type 0} (xs : List A) (i : ℕ) (x v : A) → slice_get xs i ≡ Some x → slice_get (slice_set xs i v) i ≡ Some v
get_set_same [] zero x v e = absurd (none-some x e)
get_set_same [] (suc i) x v e = absurd (none-some x e)
get_set_same (y ∷ ys) zero x v e = refl
get_set_same (y ∷ ys) (suc i) x v e = get_set_same ys i x v e

pub get_set_other : {A : Type 0} (xs : List A) (i j : ℕ) (v : A) → (i ≡ j → ⊥) → slice_get (slice_set xs i v) j ≡ slice_get xs j
get_set_other [] zero j v h = refl
get_set_other [] (suc i) j v h = refl
get_set_other (y ∷ ys) zero zero v h = absurd (h refl)
get_set_other (y ∷ ys) zero (suc j) v h = refl
get_set_other (y ∷ ys) (suc i) zero v h = refl
get_set_other (y ∷ ys) (suc i) (suc j) v h = get_set_other ys i j v (λ e. h (ap suc e))

pub get_append : {A : Type 0} (xs ys : List A) (i : ℕ) (x : A) → slice_get xs i ≡ Some x → slice_get (xs ++ ys) i ≡ Some x
get_append [] ys i x e = absurd (none-some x e)
get_append (z ∷ xs) ys zero x e = e
get_append (z ∷ xs) ys (suc i) x e = get_append xs ys i x e

pub map_some : {A B : Type 0} (f : A → B) (o : Option A) (y : B) → option_map f o ≡ Some y → (x : A) × (o ≡ Some x) × (f x ≡ y)
map_some f None y e = absurd (none-some y e)
map_some f (Some x) y e = (x, refl, same_Some (f x) y e)

pub at_some : {A : Type 0} (P : A → Type 0) (o : Option A) (x : A) → o ≡ Some x → MatchOption o (Unit {0}) P → P x
at_some P o x e h = let F : Option _ → Type 0 = λ w. MatchOption w (Unit {0}) P in subst F e h

module _ (Q : Parts) where
  pub sound_get : (gos : List Goroutine) (i : ℕ) → AllSound Q gos → IsSoundGoroutine Q (slice_get gos i)
  sound_get [] i h = tt
  sound_get (go ∷ gos) zero h = h.0
  sound_get (go ∷ gos) (suc i) h = sound_get gos i h.1

  pub sound_set : (gos : List Goroutine) (i : ℕ) (go : Goroutine) → AllSound Q gos → IsSound Q go.frames → AllSound Q (slice_set gos i go)
  sound_set [] zero go h k = tt
  sound_set [] (suc i) go h k = tt
  sound_set (x ∷ gos) zero go h k = (k, h.1)
  sound_set (x ∷ gos) (suc i) go h k = (h.0, sound_set gos i go h.1 k)

  sound_new : (gos born : List Goroutine) → AllSound Q gos → AreNew Q born → AllSound Q (gos ++ born)
  sound_new [] [] h k = tt
  sound_new [] (b ∷ bs) h k = (let P : List Frame → Type 0 = IsSound Q in subst P (sym k.0) tt, sound_new [] bs tt k.1)
  sound_new (go ∷ gos) bs h k = (h.0, sound_new gos bs h.1 k)

  pub due_new : (b : Option Call) (fs : List Frame) → fs ≡ [] → due_frames Q b fs ≡ None
  due_new (Some call) fs e = refl
  due_new None [] e = refl
  due_new None (f ∷ fs) e = absurd cc

  due_born : (born : List Goroutine) (i : ℕ) → AreNew Q born → due Q (slice_get born i) ≡ None
  due_born [] zero h = refl
  due_born [] (suc i) h = refl
  due_born (b ∷ bs) zero h = due_new b.begin b.frames h.0
  due_born (b ∷ bs) (suc i) h = due_born bs i h.1

  due_append : (gos born : List Goroutine) (i : ℕ) → AreNew Q born → due Q (slice_get (gos ++ born) i) ≡ due Q (slice_get gos i)
  due_append [] born zero h = due_born born zero h
  due_append [] born (suc i) h = due_born born (suc i) h
  due_append (go ∷ gos) born zero h = refl
  due_append (go ∷ gos) born (suc i) h = due_append gos born i h

  abbrev pub IsSettledGoroutine : Option Goroutine → Type 0
  IsSettledGoroutine None = Unit {0}
  IsSettledGoroutine (Some go) = FramesSettled Q go.frames

  -- what a program step of goroutines a and b leaves: theirs settled, and the others at the same counters
  pub record Stepped (c d : Config) (a b : ℕ) : Type 0 where
    pub sound : AllSound Q d.goroutines
    pub before : (g : ℕ) → (g ≡ a) ⊎ (g ≡ b) → due Q (numbered c g) ≡ None
    pub after : (g : ℕ) → (g ≡ a) ⊎ (g ≡ b) → IsSettledGoroutine (numbered d g)
    pub others : (g : ℕ) → (g ≡ a → ⊥) → (g ≡ b → ⊥) → due Q (numbered d g) ≡ due Q (numbered c g)

  settled_is : (o : Option Goroutine) (go : Goroutine) → o ≡ Some go → FramesSettled Q go.frames → IsSettledGoroutine o
  settled_is o go e h = let P : Option Goroutine → Type 0 = IsSettledGoroutine in subst P (sym e) h

  pub alone_some : (c : Config) (i k : ℕ) (o : Option Goroutine) (m : Move) → alone Q c i k o ≡ Some m → (go : Goroutine) × (o ≡ Some go)
  alone_some c i k None m e = absurd (none-some m e)
  alone_some c i k (Some go) m e = (go, refl)

  stepped_alone : (c d : Config) (i k : ℕ) → AllSound Q c.goroutines → option_map (arrive c i) (alone Q c i k (slice_get c.goroutines i)) ≡ Some d → Stepped c d (suc i) 0
  stepped_alone c d i k h e =
      let f = map_some (arrive c i) (alone Q c i k (slice_get c.goroutines i)) d e in
      let m = f.0 in
      let go = alone_some c i k (slice_get c.goroutines i) m f.1 in
      let none = alone_due Q c i k (slice_get c.goroutines i) m f.1 in
      let sound = sound_get c.goroutines i h in
      let s = at_some (MoveSettled Q) (alone Q c i k (slice_get c.goroutines i)) m f.1 (fine_alone Q c i k (slice_get c.goroutines i) sound (plain_due Q (slice_get c.goroutines i) sound none)) in
      let R : Config → Type 0 = λ x. Stepped c x (suc i) 0 in
      subst R f.2 (record {
        sound = sound_new (slice_set c.goroutines i m.after) m.born (sound_set c.goroutines i m.after h (sound_settled Q m.after.frames s.after)) s.born;
        before = before none;
        after = after m go.0 go.1 s.after;
        others = others m s.born;
      })
    where
      before : due Q (slice_get c.goroutines i) ≡ None → (g : ℕ) → (g ≡ suc i) ⊎ (g ≡ 0) → due Q (numbered c g) ≡ None
      before n zero k = refl
      before n (suc j) (inl k) = let k' : j ≡ i = omega arith in rw k' n
      before n (suc j) (inr k) = absurd (omega arith)

      after : (m : Move) (go : Goroutine) → slice_get c.goroutines i ≡ Some go → FramesSettled Q m.after.frames → (g : ℕ) → (g ≡ suc i) ⊎ (g ≡ 0) → IsSettledGoroutine (numbered (arrive c i m) g)
      after m go e s zero k = tt
      after m go e s (suc j) (inl k) =
          let k' : j ≡ i = omega arith in
          rw k' (settled_is _ m.after (get_append (slice_set c.goroutines i m.after) m.born i m.after (get_set_same c.goroutines i go m.after e)) s)
      after m go e s (suc j) (inr k) = absurd (omega arith)

      others : (m : Move) → AreNew Q m.born → (g : ℕ) → (g ≡ suc i → ⊥) → (g ≡ 0 → ⊥) → due Q (numbered (arrive c i m) g) ≡ due Q (numbered c g)
      others m n zero k l = refl
      others m n (suc j) k l =
          due_append (slice_set c.goroutines i m.after) m.born j n
          ∙ ap (due Q) (get_set_other c.goroutines i j m.after (λ e. k (ap suc (sym e))))

  stepped_pair : (c : Config) (i j : ℕ) (p : Goroutine × Goroutine) → (i ≡ j → ⊥) → AllSound Q c.goroutines → (k q : ℕ) → together Q c k q (slice_get c.goroutines i) (slice_get c.goroutines j) ≡ Some p → Stepped c (arrive_both c i j p) (suc i) (suc j)
  stepped_pair c i j p ne h k q e =
      let n = together_due Q c k q (slice_get c.goroutines i) (slice_get c.goroutines j) p e in
      let x = together_there Q c k q (slice_get c.goroutines i) (slice_get c.goroutines j) p e in
      let s = at_some (PairSettled Q) (together Q c k q (slice_get c.goroutines i) (slice_get c.goroutines j)) p e (settled_both Q c k q (slice_get c.goroutines i) (slice_get c.goroutines j) (sound_get c.goroutines i h) (sound_get c.goroutines j h)) in
      record {
        sound = sound_set (slice_set c.goroutines i p.0) j p.1 (sound_set c.goroutines i p.0 h (sound_settled Q p.0.frames s.0)) (sound_settled Q p.1.frames s.1);
        before = before n.0 n.1;
        after = after x.0.0 x.1.0 x.0.1 x.1.1 s.0 s.1;
        others = others;
      }
    where
      before : due Q (slice_get c.goroutines i) ≡ None → due Q (slice_get c.goroutines j) ≡ None → (g : ℕ) → (g ≡ suc i) ⊎ (g ≡ suc j) → due Q (numbered c g) ≡ None
      before m n zero k = refl
      before m n (suc g) (inl k) = let k' : g ≡ i = omega arith in rw k' m
      before m n (suc g) (inr k) = let k' : g ≡ j = omega arith in rw k' n

      after : (x y : Goroutine) → slice_get c.goroutines i ≡ Some x → slice_get c.goroutines j ≡ Some y → FramesSettled Q p.0.frames → FramesSettled Q p.1.frames → (g : ℕ) → (g ≡ suc i) ⊎ (g ≡ suc j) → IsSettledGoroutine (numbered (arrive_both c i j p) g)
      after x y ex ey m n zero k = tt
      after x y ex ey m n (suc g) (inl k) =
          let k' : g ≡ i = omega arith in
          rw k' (settled_is _ p.0 (get_set_other (slice_set c.goroutines i p.0) j i p.1 (λ w. ne (sym w)) ∙ get_set_same c.goroutines i x p.0 ex) m)
      after x y ex ey m n (suc g) (inr k) =
          let k' : g ≡ j = omega arith in
          rw k' (settled_is _ p.1 (get_set_same (slice_set c.goroutines i p.0) j y p.1 (get_set_other c.goroutines i j p.0 ne ∙ ey)) n)

      others : (g : ℕ) → (g ≡ suc i → ⊥) → (g ≡ suc j → ⊥) → due Q (numbered (arrive_both c i j p) g) ≡ due Q (numbered c g)
      others zero k l = refl
      others (suc g) k l =
          ap (due Q) (get_set_other (slice_set c.goroutines i p.0) j g p.1 (λ e. l (ap suc (sym e))) ∙ get_set_other c.goroutines i g p.0 (λ e. k (ap suc (sym e))))

  stepped_both : (c d : Config) (i j k q : ℕ) → AllSound Q c.goroutines → cond (i == j) None (option_map (arrive_both c i j) (together Q c k q (slice_get c.goroutines i) (slice_get c.goroutines j))) ≡ Some d → Stepped c d (suc i) (suc j)
  stepped_both c d i j k q h e = by (i == j) (λ w. eqb-false i j w) e
    where
      by : (b : Bool) → (b ≡ false → i ≡ j → ⊥) → cond b None (option_map (arrive_both c i j) (together Q c k q (slice_get c.goroutines i) (slice_get c.goroutines j))) ≡ Some d → Stepped c d (suc i) (suc j)
      by true n w = absurd (none-some d w)
      by false n w =
          let f = map_some (arrive_both c i j) (together Q c k q (slice_get c.goroutines i) (slice_get c.goroutines j)) d w in
          let R : Config → Type 0 = λ x. Stepped c x (suc i) (suc j) in
          subst R f.2 (stepped_pair c i j f.0 (n refl) h k q f.1)

  pub stepped : (c d : Config) (a k b q : ℕ) → AllSound Q c.goroutines → step Q c (Step a k b q) ≡ Some d → Stepped c d a b
  unfolding step
  stepped c d zero k b q h e = absurd (none-some d e)
  stepped c d (suc i) k zero zero h e = stepped_alone c d i k h e
  stepped c d (suc i) k zero (suc q) h e = absurd (none-some d e)
  stepped c d (suc i) k (suc j) q h e = stepped_both c d i j k q h e
