-- The counter steps after an end.
use Rattle.std.proofs.Common.{◌≡◌, ℕ, zero, suc, ◌+◌, ◌<◌, ◌≤◌, List, [], ◌∷◌, ◌++◌, Option, Some, None, refl, sym, ap, ◌∙◌, subst, take, length, arith, append_assoc}
use Rattle.std.specs.Prelude.{slice_get, slice_set, option_map}
use Rattle.std.proofs.lemmas.Option.{none-some, same_Some}
use Rattle.go_meaning.specs.declared.config.Goroutine.{Goroutine}
use Rattle.go_meaning.specs.declared.config.Config.{Config}
use Rattle.go_meaning.specs.declared.event.End.{End}
use Rattle.go_meaning.specs.declared.event.Event.{Event}
use Rattle.go_meaning.specs.declared.event.Event.TheVariants.{Count}
use Rattle.go_meaning.specs.Programs.{Parts}
use Rattle.go_meaning.specs.Steps.{due, counted_at, arrive_one, numbered, step}
use Rattle.go_meaning.specs.Histories.{replay, steps_in}
use Rattle.go_meaning.specs.Entries.{count_at}
use Rattle.go_meaning.specs.Serial.{due_from, IsSerial}
use Rattle.go_state.specs.declared.limits.Limits.{Limits}
use Rattle.go_state.specs.Runs.{RunState}
use Rattle.go_state.specs.Schedule.{IsAt, EndsBy, dues_of, dues}
use Rattle.go_state.proofs.Activity.{count_steps}
use Rattle.go_state.proofs.Replays.{replay_more}
use Rattle.go_state.proofs.Scheduling.{ends_in}

map_some : {A B : Type 0} (f : A → B) (o : Option A) (y : B) → option_map f o ≡ Some y → (x : A) × (o ≡ Some x) × (f x ≡ y)
map_some f None y e = absurd (none-some y e)
map_some f (Some x) y e = (x, refl, same_Some (f x) y e)

get_set_other : {A : Type 0} (xs : List A) (i j : ℕ) (v : A) → (i ≡ j → ⊥) → slice_get (slice_set xs i v) j ≡ slice_get xs j
get_set_other [] zero j v h = refl
get_set_other [] (suc i) j v h = refl
get_set_other (y ∷ ys) zero zero v h = absurd (h refl)
get_set_other (y ∷ ys) zero (suc j) v h = refl
get_set_other (y ∷ ys) (suc i) zero v h = refl
get_set_other (y ∷ ys) (suc i) (suc j) v h = get_set_other ys i j v (λ e. h (ap suc e))

length_set : {A : Type 0} (xs : List A) (i : ℕ) (v : A) → length (slice_set xs i v) ≡ length xs
length_set [] zero v = refl
length_set [] (suc i) v = refl
length_set (x ∷ xs) zero v = refl
length_set (x ∷ xs) (suc i) v = ap suc (length_set xs i v)

module _ (P : Parts) where
  due_more : (gos : List Goroutine) (a i : ℕ) → i < length gos → due_from P a (take (suc i) gos) ≡ due_from P a (take i gos) ++ count_at (due P (slice_get gos i)) (a + i)
  due_more [] a i h = absurd (omega arith)
  due_more (go ∷ gos) a zero h = append_none (count_at (due P (Some go)) a) ∙ ap (count_at (due P (Some go))) (zero_more a)
    where
      append_none : (es : List Event) → es ++ [] ≡ es
      append_none [] = refl
      append_none (e ∷ es) = ap (λ l. e ∷ l) (append_none es)

      zero_more : (a : ℕ) → a ≡ a + 0
      zero_more a = omega arith
  due_more (go ∷ gos) a (suc i) h =
      ap (λ l. count_at (due P (Some go)) a ++ l) (due_more gos (suc a) i (omega (arith, h)) ∙ ap (λ n. due_from P (suc a) (take i gos) ++ count_at (due P (slice_get gos i)) n) (shift a i))
      ∙ sym (append_assoc (count_at (due P (Some go)) a) (due_from P (suc a) (take i gos)) (count_at (due P (slice_get gos i)) (a + suc i)))
    where
      shift : (a i : ℕ) → suc a + i ≡ a + suc i
      shift a i = omega arith

  -- the goroutines before index i have counted
  pub record Counted (h h' : List Event) (i : ℕ) : Type 0 where
    pub first : Config
    pub last : Config
    pub before : replay P h ≡ Some first
    pub after : replay P h' ≡ Some last
    pub events : h' ≡ h ++ due_from P 1 (take i first.goroutines)
    pub rest : (j : ℕ) → i ≤ j → slice_get last.goroutines j ≡ slice_get first.goroutines j
    pub many : length last.goroutines ≡ length first.goroutines

  append_none : (es : List Event) → es ++ [] ≡ es
  append_none [] = refl
  append_none (e ∷ es) = ap (λ l. e ∷ l) (append_none es)

  pub none_counted : (h : List Event) (c : Config) → replay P h ≡ Some c → Counted h h 0
  none_counted h c w = record { first = c; last = c; before = w; after = w; events = sym (append_none h); rest = λ j l. refl; many = refl }

  -- what a counter step leaves
  record Passed (c d : Config) (i : ℕ) : Type 0 where
    others : (j : ℕ) → suc i ≤ j → slice_get d.goroutines j ≡ slice_get c.goroutines j
    many : length d.goroutines ≡ length c.goroutines

  passed : (c d : Config) (i u : ℕ) → step P c (Count (suc i) u) ≡ Some d → Passed c d i
  unfolding step
  passed c d i u e =
      let m = map_some (arrive_one c i) (counted_at u (slice_get c.goroutines i) (due P (slice_get c.goroutines i))) d e in
      let F : Config → Type 0 = λ x. Passed c x i in
      subst F m.2 (record { others = λ j l. get_set_other c.goroutines i j m.0 (λ w. omega (arith, w, l)); many = length_set c.goroutines i m.0 })

  record Next (c : Config) (h : List Event) (i : ℕ) : Type 0 where
    config : Config
    replays : replay P h ≡ Some config
    passed : Passed c config i

  -- the next goroutine counts, if it stands at a counter
  next : (h : List Event) (c : Config) (i : ℕ) (o : Option ℕ) → replay P h ≡ Some c → due P (slice_get c.goroutines i) ≡ o → Next c (h ++ count_at o (suc i)) i
  next h c i None w e = let F : List Event → Type 0 = λ l. Next c l i in subst F (sym (append_none h)) (record { config = c; replays = w; passed = record { others = λ j l. refl; many = refl } })
  next h c i (Some u) w e = let s = count_steps P c (suc i) u e in record { config = s.0; replays = replay_more P h c (Count (suc i) u) w ∙ s.1; passed = passed c s.0 i u s.1 }

  pub counted_more : (h h' h'' : List Event) (c : Config) (i : ℕ) → (k : Counted h h' i) → i < length k.first.goroutines → replay P h' ≡ Some c → h'' ≡ h' ++ count_at (due P (numbered c (i + 1))) (i + 1) → Counted h h'' (i + 1)
  counted_more h h' h'' c i k l w e =
      let one : i + 1 ≡ suc i = omega arith in
      let same : k.last ≡ c = same_Some k.last c (sym k.after ∙ w) in
      let G : ℕ → Type 0 = λ n. h'' ≡ h' ++ count_at (due P (numbered c n)) n in
      let e' : h'' ≡ h' ++ count_at (due P (slice_get c.goroutines i)) (suc i) = subst G one e in
      let n = next h' c i (due P (slice_get c.goroutines i)) w refl in
      let at : slice_get c.goroutines i ≡ slice_get k.first.goroutines i = ap (λ (x : Config). slice_get x.goroutines i) (sym same) ∙ k.rest i (omega arith) in
      let F : ℕ → Type 0 = Counted h h'' in
      let dm = due_more k.first.goroutines 1 i l in
      let shift : 1 + i ≡ suc i = omega arith in
      subst F (sym one) (record {
        first = k.first;
        last = n.config;
        before = k.before;
        after = ap (replay P) e' ∙ n.replays;
        events =
            e' ∙ ap (λ x. x ++ count_at (due P (slice_get c.goroutines i)) (suc i)) k.events
            ∙ append_assoc h (due_from P 1 (take i k.first.goroutines)) (count_at (due P (slice_get c.goroutines i)) (suc i))
            ∙ ap (λ x. h ++ x) (ap (λ o. due_from P 1 (take i k.first.goroutines) ++ count_at (due P o) (suc i)) at ∙ ap (λ m. due_from P 1 (take i k.first.goroutines) ++ count_at (due P (slice_get k.first.goroutines i)) m) (sym shift) ∙ sym dm);
        rest = λ j m. n.passed.others j m ∙ ap (λ (x : Config). slice_get x.goroutines j) (sym same) ∙ k.rest j (omega (arith, m));
        many = n.passed.many ∙ ap (λ (x : Config). length x.goroutines) (sym same) ∙ k.many;
      })

  take_whole : {A : Type 0} (xs : List A) (n : ℕ) → length xs ≤ n → take n xs ≡ xs
  take_whole [] zero h = refl
  take_whole [] (suc n) h = refl
  take_whole (x ∷ xs) zero h = absurd (omega arith)
  take_whole (x ∷ xs) (suc n) h = ap (λ l. x ∷ l) (take_whole xs n (omega (arith, h)))

  pub all_counted : (h h' : List Event) (i : ℕ) (k : Counted h h' i) → length k.first.goroutines ≤ i → h' ≡ h ++ dues_of P (replay P h)
  all_counted h h' i k l = k.events ∙ ap (λ x. h ++ due_from P 1 x) (take_whole k.first.goroutines i l) ∙ ap (λ o. h ++ dues_of P o) (sym k.before)

-- a run at an end, after which each goroutine at a counter has counted
pub serial_run : (r n : RunState) (g t : ℕ) (P : Parts) (l : Limits) (e : Option End) → r.program ≡ P → r.limits ≡ l → IsAt r g t → EndsBy r e → (e ≡ None → ⊥) → n.history ≡ r.history ++ dues r → IsSerial P l.steps n.history
serial_run r n g t P l None p q at ends some h = absurd (some refl)
serial_run r n g t P l (Some e) p q at ends some h =
    let w : IsSerial r.program r.limits.steps n.history = record {
      events = r.history;
      last = record { config = at.config; now = g; taken = t; steps = steps_in r.history };
      leads = at.leads;
      end = e;
      ends = ends_in r at.config (Some e) at.replays ends;
      whole = h ∙ ap (λ o. r.history ++ dues_of r.program o) at.replays;
    } in
    let F : Parts → Type 0 = λ x. IsSerial x r.limits.steps n.history in
    let G : Limits → Type 0 = λ x. IsSerial P x.steps n.history in
    subst G q (subst F p w)
