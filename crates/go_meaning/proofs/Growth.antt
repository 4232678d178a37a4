-- A step takes no goroutine away, and there are never more than 256.
use Rattle.std.proofs.Common.{◌≡◌, ℕ, zero, suc, ◌+◌, ◌<◌, ◌≤◌, Bool, true, false, cond, List, [], ◌∷◌, ◌++◌, Option, Some, None, refl, ap, subst, length, arith, length-append}
use Rattle.std.specs.Prelude.{slice_get, slice_set, nat_lt, take, ◌==◌, option_map, option_and_then}
use Rattle.std.specs.List.{list_any}
use Rattle.std.specs.Option.{MatchOption, option_or}
use Rattle.std.proofs.lemmas.Option.{none-some, same_Some}
use Rattle.std.proofs.lemmas.Bool.{ltb-true}
use Rattle.go_meaning.specs.declared.value.Value.{Value}
use Rattle.go_meaning.specs.declared.value.Channel.{Channel}
use Rattle.go_meaning.specs.declared.expr.Target.{Target}
use Rattle.go_meaning.specs.declared.node.Deferral.{Deferral}
use Rattle.go_meaning.specs.declared.item.Item.{Item}
use Rattle.go_meaning.specs.declared.event.End.TheVariants as ends
use Rattle.go_meaning.specs.declared.act.Act.{Act}
use Rattle.go_meaning.specs.declared.act.Act.TheVariants as act
use Rattle.go_meaning.specs.declared.config.Call.{Call}
use Rattle.go_meaning.specs.declared.config.Deferred.{Deferred}
use Rattle.go_meaning.specs.declared.config.Deferred.TheVariants as deferred
use Rattle.go_meaning.specs.declared.config.Frame.{Frame}
use Rattle.go_meaning.specs.declared.config.Goroutine.{Goroutine}
use Rattle.go_meaning.specs.declared.config.Config.{Config}
use Rattle.go_meaning.specs.declared.event.Event.{Event}
use Rattle.go_meaning.specs.declared.event.Event.TheVariants.{Step, Count}
use Rattle.go_meaning.specs.Programs.{Parts, function_at}
use Rattle.go_meaning.specs.Operations.{channel_at}
use Rattle.go_meaning.specs.Acts.{act_of}
use Rattle.go_meaning.specs.Moves.{Move, moved, running, started, new_frame, on_with, stopped, Taken, taken, assigned, called, call, spawn, goroutine_limit, stack_limit, deferred_call, defer, run_deferred, return_from, unwind, put, operands_of}
use Rattle.go_meaning.specs.Channels.{Side, Neither, Offers, Wants, Defaults, Sides, item_sides, side_at, listed, with_values, send, receive_from, receive, is_ready, lone}
use Rattle.go_meaning.specs.Steps.{at_zero, on_control, on_frames, alone, arrive, together, arrive_both, counted_at, arrive_one, due, step}
use Rattle.go_meaning.specs.Laws.{AreFew, GoroutinesStay, GoroutinesStayFew}

length_set : {A : Type 0} (xs : List A) (i : ℕ) (v : A) → length (slice_set xs i v) ≡ length xs
length_set [] zero v = refl
length_set [] (suc i) v = refl
length_set (x ∷ xs) zero v = refl
length_set (x ∷ xs) (suc i) v = ap suc (length_set xs i v)

map_some : {A B : Type 0} (f : A → B) (o : Option A) (y : B) → option_map f o ≡ Some y → (x : A) × (o ≡ Some x) × (f x ≡ y)
map_some f None y e = absurd (none-some y e)
map_some f (Some x) y e = (x, refl, same_Some (f x) y e)

at_some : {A : Type 0} (P : A → Type 0) (o : Option A) (x : A) → o ≡ Some x → MatchOption o (Unit {0}) P → P x
at_some P o x e h = let F : Option _ → Type 0 = λ w. MatchOption w (Unit {0}) P in subst F e h

module _ (Q : Parts) (c : Config) (few : AreFew c) where
  -- with those that a move starts
  abbrev IsFew : Move → Type 0
  IsFew m = length c.goroutines + length m.born ≤ 256

  none_born : IsFew (moved c (running []))
  none_born = omega (arith, few)

  abbrev AllFew : Option Move → Type 0
  AllFew o = MatchOption o (Unit {0}) IsFew

  few_if : (b : Bool) (m n : Move) → IsFew m → IsFew n → IsFew (cond b m n)
  few_if true m n h k = h
  few_if false m n h k = k

  few_called : (f : Frame) (fs : List Frame) (f' : Frame) (fs' : List Frame) (new : Frame) → IsFew (called Q c f fs f' fs' new)
  few_called f fs f' fs' new = few_if (nat_lt (length (f ∷ fs)) stack_limit) (moved c (running (new ∷ f' ∷ fs'))) (stopped c f fs ends.StackLimit) none_born none_born

  few_calls : (f : Frame) (fs : List Frame) (rest : List Item) (g : ℕ) (o : Option Taken) → AllFew (option_map (call Q c f fs rest g) o)
  few_calls f fs rest g None = tt
  few_calls f fs rest g (Some t) = few_called f fs (record f { stack = t.stack; control = rest }) fs (new_frame Q g t.values false)

  few_spawn : (f : Frame) (fs : List Frame) (rest : List Item) (g : ℕ) (o : Option Taken) → AllFew (option_map (spawn c f fs rest g) o)
  few_spawn f fs rest g None = tt
  few_spawn f fs rest g (Some t) = by (nat_lt (length c.goroutines) goroutine_limit) (ltb-true (length c.goroutines) goroutine_limit)
    where
      by : (b : Bool) → (b ≡ true → length c.goroutines < goroutine_limit) → IsFew (cond b (record { world = c; after = running (record f { stack = t.stack; control = rest } ∷ fs); born = started g t.values ∷ [] }) (stopped c f fs ends.GoroutineLimit))
      by true h = let k : length c.goroutines < 256 = h refl in omega (arith, k)
      by false h = none_born

  few_deferred : (f : Frame) (fs : List Frame) (rest : List Item) (st : List Value) (o : Option Deferred) → AllFew (option_map (λ d. on_with c (record f { deferred = d ∷ f.deferred }) fs st rest) o)
  few_deferred f fs rest st None = tt
  few_deferred f fs rest st (Some d) = none_born

  few_defer : (f : Frame) (fs : List Frame) (rest : List Item) (d : Deferral) (o : Option Taken) → AllFew (option_and_then (defer c f fs rest d) o)
  few_defer f fs rest d None = tt
  few_defer f fs rest d (Some t) = few_deferred f fs rest t.stack (deferred_call d t.values)

  few_run : (f : Frame) (fs : List Frame) (d : Deferred) (ds : List Deferred) → IsFew (run_deferred Q c f fs d ds)
  few_run f fs (deferred.Call d) ds = few_called f fs (record f { deferred = ds }) fs (new_frame Q d.function d.args true)
  few_run f fs (deferred.Done g) ds = none_born
  few_run f fs (deferred.Unlock m) ds = none_born
  few_run f fs (deferred.Close v) ds = none_born
  few_run f fs (deferred.Println vs) ds = none_born

  few_return : (i : ℕ) (f : Frame) (fs : List Frame) (n : ℕ) (ds : List Deferred) → IsFew (return_from Q c i f fs n ds)
  few_return i f [] n [] = none_born
  few_return i f (g ∷ fs) n [] = none_born
  few_return i f fs n (d ∷ ds) = few_run f fs d ds

  few_unwind : (f : Frame) (fs : List Frame) (m : List ℕ) (ds : List Deferred) → IsFew (unwind Q c f fs m ds)
  few_unwind f [] m [] = none_born
  few_unwind f (g ∷ fs) m [] = none_born
  few_unwind f fs m (d ∷ ds) = few_run f fs d ds

  few_assigns : (f : Frame) (fs : List Frame) (rest : List Item) (t : Target) (ts : List Target) (o : Option Value) → AllFew (option_map (assigned c f fs rest t ts) o)
  few_assigns f fs rest t ts None = tt
  few_assigns f fs rest t ts (Some v) = none_born

  few_put : (i : ℕ) (f : Frame) (fs : List Frame) (rest : List Item) (a : Act) → AllFew (put Q c i f fs rest a)
  unfolding put
  few_put i f fs rest act.Stuck = tt
  few_put i f fs rest act.Waits = tt
  few_put i f fs rest (act.Assigns t ts) = few_assigns f fs rest t ts (slice_get f.stack (length ts))
  few_put i f fs rest (act.Calls g) = few_calls f fs rest g (taken (function_at Q g).params f.stack)
  few_put i f fs rest (act.Spawns g) = few_spawn f fs rest g (taken (function_at Q g).params f.stack)
  few_put i f fs rest (act.Defers d) = few_defer f fs rest d (taken (operands_of Q d) f.stack)
  few_put i f fs rest (act.Returns n) = few_return i f fs n f.deferred
  few_put i f fs rest (act.Unwinds m) = few_unwind f fs m f.deferred
  few_put i f fs rest a = none_born

  all_if : (b : Bool) (o p : Option Move) → AllFew o → AllFew p → AllFew (cond b o p)
  all_if true o p h k = h
  all_if false o p h k = k

  few_send : (o : Option ℕ) (v : Value) (a p : Goroutine) (h : Option Channel) → AllFew (send c o v a p h)
  few_send o v a p None = tt
  few_send o v a p (Some ch) = all_if ch.closed (Some (moved c p)) (cond (nat_lt (length ch.values) ch.capacity) (Some (moved (with_values c o ch (ch.values ++ v ∷ [])) a)) None) none_born (all_if (nat_lt (length ch.values) ch.capacity) (Some (moved (with_values c o ch (ch.values ++ v ∷ [])) a)) None none_born tt)

  few_receive_from : (o : Option ℕ) (take : Value → Bool → Goroutine) (ch : Channel) (vs : List Value) → AllFew (receive_from c o take ch vs)
  few_receive_from o take ch (v ∷ vs) = none_born
  few_receive_from o take ch [] = all_if ch.closed (Some (moved c (take ch.zero false))) None none_born tt

  few_receive : (o : Option ℕ) (take : Value → Bool → Goroutine) (h : Option Channel) → AllFew (receive c o take h)
  few_receive o take None = tt
  few_receive o take (Some ch) = few_receive_from o take ch ch.values

  few_lone : (i : ℕ) (ss : Sides) (s : Side) → AllFew (lone Q c i ss s)
  unfolding lone
  few_lone i ss Neither = tt
  few_lone i ss (Offers o v a p) = few_send o v a p (channel_at c o)
  few_lone i ss (Wants o take) = few_receive o take (channel_at c o)
  few_lone i ss (Defaults a) = all_if (list_any (is_ready Q c i) (listed ss)) None (Some (moved c a)) tt none_born

  few_or : (o p : Option Move) → AllFew o → AllFew p → AllFew (option_or o p)
  few_or None p h k = k
  few_or (Some m) p h k = h

  few_zero : (k : ℕ) (o : Option Move) → AllFew o → AllFew (at_zero k o)
  few_zero zero o h = h
  few_zero (suc k) o h = tt

  few_control : (i k : ℕ) (f : Frame) (fs : List Frame) (is : List Item) → AllFew (on_control Q c i k f fs is)
  few_control i k f fs [] = tt
  few_control i k f fs (it ∷ is) =
      few_or (lone Q c i (item_sides Q it f fs is) (side_at (item_sides Q it f fs is) k)) (at_zero k (put Q c i f fs is (act_of Q c it f.slots f.stack)))
      (few_lone i (item_sides Q it f fs is) (side_at (item_sides Q it f fs is) k))
      (few_zero k (put Q c i f fs is (act_of Q c it f.slots f.stack)) (few_put i f fs is (act_of Q c it f.slots f.stack)))

  few_frames : (i k : ℕ) (b : Option Call) (fs : List Frame) → AllFew (on_frames Q c i k b fs)
  few_frames i zero (Some call) fs = none_born
  few_frames i (suc k) (Some call) fs = tt
  few_frames i k None [] = tt
  few_frames i k None (f ∷ fs) = few_control i k f fs f.control

  few_alone : (i k : ℕ) (o : Option Goroutine) → AllFew (alone Q c i k o)
  few_alone i k None = tt
  few_alone i k (Some go) = few_frames i k go.begin go.frames

  few_arrived : (d : Config) (i k : ℕ) → option_map (arrive c i) (alone Q c i k (slice_get c.goroutines i)) ≡ Some d → AreFew d
  few_arrived d i k e =
      let m = map_some (arrive c i) (alone Q c i k (slice_get c.goroutines i)) d e in
      let h = at_some IsFew (alone Q c i k (slice_get c.goroutines i)) m.0 m.1 (few_alone i k (slice_get c.goroutines i)) in
      let F : Config → Type 0 = AreFew in
      let a = length-append (slice_set c.goroutines i m.0.after) m.0.born in
      let b = length_set c.goroutines i m.0.after in
      subst F m.2 (omega (arith, h, a, b))

  few_both : (d : Config) (i j k q : ℕ) (b : Bool) → cond b None (option_map (arrive_both c i j) (together Q c k q (slice_get c.goroutines i) (slice_get c.goroutines j))) ≡ Some d → AreFew d
  few_both d i j k q true e = absurd (none-some d e)
  few_both d i j k q false e =
      let m = map_some (arrive_both c i j) (together Q c k q (slice_get c.goroutines i) (slice_get c.goroutines j)) d e in
      let F : Config → Type 0 = AreFew in
      let a = length_set (slice_set c.goroutines i m.0.0) j m.0.1 in
      let b = length_set c.goroutines i m.0.0 in
      subst F m.2 (omega (arith, few, a, b))

  few_counted : (d : Config) (i u : ℕ) → option_map (arrive_one c i) (counted_at u (slice_get c.goroutines i) (due Q (slice_get c.goroutines i))) ≡ Some d → AreFew d
  few_counted d i u e =
      let m = map_some (arrive_one c i) (counted_at u (slice_get c.goroutines i) (due Q (slice_get c.goroutines i))) d e in
      let F : Config → Type 0 = AreFew in
      let a = length_set c.goroutines i m.0 in
      subst F m.2 (omega (arith, few, a))

  stay_few : (d : Config) (e : Event) → step Q c e ≡ Some d → AreFew d
  unfolding step
  stay_few d (Step zero k p q) e = absurd (none-some d e)
  stay_few d (Step (suc i) k zero zero) e = few_arrived d i k e
  stay_few d (Step (suc i) k zero (suc q)) e = absurd (none-some d e)
  stay_few d (Step (suc i) k (suc j) q) e = few_both d i j k q (i == j) e
  stay_few d (Count zero u) e = absurd (none-some d e)
  stay_few d (Count (suc i) u) e = few_counted d i u e

pub goroutines_stay_few : GoroutinesStayFew
goroutines_stay_few P c d e s few = stay_few P c few d e s

-- ---- none is taken away

module _ (P : Parts) (c d : Config) where
  abbrev IsMore : Type 0
  IsMore = length c.goroutines ≤ length d.goroutines

  more_alone : (i k : ℕ) → option_map (arrive c i) (alone P c i k (slice_get c.goroutines i)) ≡ Some d → IsMore
  more_alone i k e =
      let m = map_some (arrive c i) (alone P c i k (slice_get c.goroutines i)) d e in
      let F : Config → Type 0 = λ x. length c.goroutines ≤ length x.goroutines in
      let a = length-append (slice_set c.goroutines i m.0.after) m.0.born in
      let b = length_set c.goroutines i m.0.after in
      subst F m.2 (omega (arith, a, b))

  more_both : (i j k q : ℕ) (b : Bool) → cond b None (option_map (arrive_both c i j) (together P c k q (slice_get c.goroutines i) (slice_get c.goroutines j))) ≡ Some d → IsMore
  more_both i j k q true e = absurd (none-some d e)
  more_both i j k q false e =
      let m = map_some (arrive_both c i j) (together P c k q (slice_get c.goroutines i) (slice_get c.goroutines j)) d e in
      let F : Config → Type 0 = λ x. length c.goroutines ≤ length x.goroutines in
      let a = length_set (slice_set c.goroutines i m.0.0) j m.0.1 in
      let b = length_set c.goroutines i m.0.0 in
      subst F m.2 (omega (arith, a, b))

  more_counted : (i u : ℕ) → option_map (arrive_one c i) (counted_at u (slice_get c.goroutines i) (due P (slice_get c.goroutines i))) ≡ Some d → IsMore
  more_counted i u e =
      let m = map_some (arrive_one c i) (counted_at u (slice_get c.goroutines i) (due P (slice_get c.goroutines i))) d e in
      let F : Config → Type 0 = λ x. length c.goroutines ≤ length x.goroutines in
      let a = length_set c.goroutines i m.0 in
      subst F m.2 (omega (arith, a))

  more : (e : Event) → step P c e ≡ Some d → IsMore
  unfolding step
  more (Step zero k p q) e = absurd (none-some d e)
  more (Step (suc i) k zero zero) e = more_alone i k e
  more (Step (suc i) k zero (suc q)) e = absurd (none-some d e)
  more (Step (suc i) k (suc j) q) e = more_both i j k q (i == j) e
  more (Count zero u) e = absurd (none-some d e)
  more (Count (suc i) u) e = more_counted i u e

pub goroutines_stay : GoroutinesStay
goroutines_stay P c d e s = more P c d e s
