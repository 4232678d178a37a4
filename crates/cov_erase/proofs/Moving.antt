-- What an act leaves, in a covered program and in the erased one.
use Rattle.std.proofs.Common.{◌≡◌, ℕ, zero, suc, ◌+◌, Bool, true, false, cond, List, [], ◌∷◌, ◌++◌, Option, Some, None, refl, sym, ap, ◌∙◌, map, length}
use Rattle.std.specs.Prelude.{slice_get, nat_lt, take, drop, option_map, option_and_then}
use Rattle.std.proofs.lemmas.List.{map-append, length-map}
use Rattle.go_meaning.specs.declared.value.Value.{Value}
use Rattle.go_meaning.specs.declared.value.Value.TheVariants as value
use Rattle.go_meaning.specs.declared.value.Channel.{Channel}
use Rattle.go_meaning.specs.declared.expr.Variable.TheVariants.{Slot, Global}
use Rattle.go_meaning.specs.declared.expr.Target.{Target}
use Rattle.go_meaning.specs.declared.expr.Target.TheVariants as target
use Rattle.go_meaning.specs.declared.node.Deferral.{Deferral}
use Rattle.go_meaning.specs.declared.node.Deferral.TheVariants as deferral
use Rattle.go_meaning.specs.declared.item.Item.{Item}
use Rattle.go_meaning.specs.declared.item.Item.TheVariants.{Run, Loop, Test, Next, Each, Pull, Match, Compare, Pick}
use Rattle.go_meaning.specs.declared.event.End.TheVariants as ends
use Rattle.go_meaning.specs.declared.act.Act.{Act}
use Rattle.go_meaning.specs.declared.act.Act.TheVariants as act
use Rattle.go_meaning.specs.declared.config.Deferred.{Deferred}
use Rattle.go_meaning.specs.declared.config.Deferred.TheVariants as deferred
use Rattle.go_meaning.specs.declared.config.Frame.{Frame}
use Rattle.go_meaning.specs.declared.config.Goroutine.{Goroutine}
use Rattle.go_meaning.specs.declared.config.Config.{Config}
use Rattle.go_meaning.specs.Programs.{Parts, function_at}
use Rattle.go_meaning.specs.Moves.{Move, moved, running, started, new_frame, on_with, stopped, Taken, taken, set_slot, set_global, assign_rest, assigned, mark, Cut, cut_at, cut_past, past_mark, broken, fallen, cut_to, called, call, spawn, goroutine_limit, stack_limit, deferred_call, defer, run_deferred, over, deliver, return_from, unwind, set_closed, put}
use Rattle.go_meaning.specs.Erasing.{erase_program, erase_item, erase_frame, erase_goroutine, erase_config}
use Rattle.cov_erase.proofs.Acting.{erase_act}

module _ (Q : Parts) where
  abbrev er : Config → Config
  er = erase_config Q

  abbrev ei : Item → Item
  ei = erase_item Q

  abbrev ef : Frame → Frame
  ef = erase_frame Q

  abbrev pub erase_move : Move → Move
  erase_move m = record { world = er m.world; after = erase_goroutine Q m.after; born = map (erase_goroutine Q) m.born }

  -- a frame that goes on with other items
  kept_on : (c : Config) (f : Frame) (fs : List Frame) (st : List Value) (is is' : List Item) → is' ≡ map ei is → on_with (er c) (ef f) (map ef fs) st is' ≡ erase_move (on_with c f fs st is)
  kept_on c f fs st is is' e = ap (λ js. on_with (er c) (ef f) (map ef fs) st js) e

  -- ---- assignment

  kept_global : (t : Target) (v : Value) (c : Config) → set_global t v (er c) ≡ er (set_global t v c)
  kept_global target.Blank v c = refl
  kept_global (target.Variable (Slot s)) v c = refl
  kept_global (target.Variable (Global g)) v c = refl

  pub kept_rest : (ts : List Target) (is : List Item) → assign_rest ts ++ map ei is ≡ map ei (assign_rest ts ++ is)
  kept_rest [] is = refl
  kept_rest (t ∷ ts) is = refl

  kept_assigned : (c : Config) (f : Frame) (fs : List Frame) (rest : List Item) (t : Target) (ts : List Target) (v : Value) → assigned (er c) (ef f) (map ef fs) (map ei rest) t ts v ≡ erase_move (assigned c f fs rest t ts v)
  kept_assigned c f fs rest t ts v =
      ap (λ d. on_with d (ef (record f { slots = set_slot t v f.slots })) (map ef fs) (take (length ts) f.stack ++ drop (suc (length ts)) f.stack) (assign_rest ts ++ map ei rest)) (kept_global t v c)
      ∙ kept_on (set_global t v c) (record f { slots = set_slot t v f.slots }) fs _ _ _ (kept_rest ts rest)

  kept_assigns : (c : Config) (f : Frame) (fs : List Frame) (rest : List Item) (t : Target) (ts : List Target) (o : Option Value) → option_map (assigned (er c) (ef f) (map ef fs) (map ei rest) t ts) o ≡ option_map erase_move (option_map (assigned c f fs rest t ts) o)
  kept_assigns c f fs rest t ts None = refl
  kept_assigns c f fs rest t ts (Some v) = ap Some (kept_assigned c f fs rest t ts v)

  -- ---- marks

  kept_mark : (it : Item) → mark (ei it) ≡ mark it
  kept_mark (Run n i) = refl
  kept_mark (Loop n i) = refl
  kept_mark (Test n i) = refl
  kept_mark (Next n i) = refl
  kept_mark (Each n i) = refl
  kept_mark (Pull n i) = refl
  kept_mark (Match n i k) = refl
  kept_mark (Compare n i k) = refl
  kept_mark (Pick n i) = refl
  kept_mark it = refl

  erase_cut : Cut → Cut
  erase_cut cut = record { values = cut.values; control = map ei cut.control }

  kept_cut_at : (o : Option ℕ) (k : ℕ) (it : Item) (is : List Item) (more more' : ℕ → Cut) → ((j : ℕ) → more' j ≡ erase_cut (more j)) → cut_at o k (ei it) (map ei is) more' ≡ erase_cut (cut_at o k it is more)
  unfolding erase_cut
  kept_cut_at None k it is more more' h = h k
  kept_cut_at (Some v) zero it is more more' h = refl
  kept_cut_at (Some v) (suc k) it is more more' h = ap (λ (x : Cut). record { values = v + x.values; control = x.control }) (h k)

  kept_cut : (is : List Item) (k : ℕ) → cut_past (map ei is) k ≡ erase_cut (cut_past is k)
  unfolding erase_cut
  kept_cut [] k = refl
  kept_cut (it ∷ is) k = ap (λ o. cut_at o k (ei it) (map ei is) (cut_past (map ei is))) (kept_mark it) ∙ kept_cut_at (mark it) k it is (cut_past is) (cut_past (map ei is)) (kept_cut is)

  kept_past : (is : List Item) → past_mark (map ei is) ≡ erase_cut (past_mark is)
  unfolding erase_cut
  kept_past [] = refl
  kept_past (it ∷ is) = ap (λ o. record { values = elim o as (λ _. ℕ) [ None ↦ 0 | Some v ↦ v ]; control = map ei is }) (kept_mark it)

  kept_broken : (is : List Item) (k : ℕ) → broken (map ei is) k ≡ erase_cut (broken is k)
  unfolding erase_cut
  kept_broken is k =
      ap (λ (x : Cut). record { values = x.values + (past_mark x.control).values; control = (past_mark x.control).control }) (kept_cut is k)
      ∙ ap (λ (y : Cut). record { values = (cut_past is k).values + y.values; control = y.control }) (kept_past (cut_past is k).control)

  kept_fallen : (is : List Item) (l : ℕ) → fallen (map ei is) l ≡ erase_cut (fallen is l)
  unfolding erase_cut
  kept_fallen is l = ap (λ (x : Cut). record { values = x.values; control = Run l 0 ∷ x.control }) (kept_cut is 0)

  kept_to : (c : Config) (f : Frame) (fs : List Frame) (cut cut' : Cut) → cut' ≡ erase_cut cut → cut_to (er c) (ef f) (map ef fs) cut' ≡ erase_move (cut_to c f fs cut)
  unfolding erase_cut
  kept_to c f fs cut cut' e = ap (cut_to (er c) (ef f) (map ef fs)) e

  -- ---- calls

  kept_called : (c : Config) (f : Frame) (fs : List Frame) (f' : Frame) (fs' : List Frame) (new : Frame) → called (erase_program Q) (er c) (ef f) (map ef fs) (ef f') (map ef fs') (ef new) ≡ erase_move (called Q c f fs f' fs' new)
  kept_called c f fs f' fs' new =
      ap (λ n. cond (nat_lt (suc n) stack_limit) (moved (er c) (running (ef new ∷ ef f' ∷ map ef fs'))) (stopped (er c) (ef f) (map ef fs) ends.StackLimit)) (length-map fs ef)
      ∙ by (nat_lt (suc (length fs)) stack_limit)
    where
      by : (b : Bool) → cond b (moved (er c) (running (ef new ∷ ef f' ∷ map ef fs'))) (stopped (er c) (ef f) (map ef fs) ends.StackLimit) ≡ erase_move (cond b (moved c (running (new ∷ f' ∷ fs'))) (stopped c f fs ends.StackLimit))
      by true = refl
      by false = refl

  kept_calls : (c : Config) (f : Frame) (fs : List Frame) (rest : List Item) (g : ℕ) (o : Option Taken) → option_map (call (erase_program Q) (er c) (ef f) (map ef fs) (map ei rest) g) o ≡ option_map erase_move (option_map (call Q c f fs rest g) o)
  kept_calls c f fs rest g None = refl
  kept_calls c f fs rest g (Some t) = ap Some (kept_called c f fs (record f { stack = t.stack; control = rest }) fs (new_frame Q g t.values false))

  abbrev spawned : ℕ → Taken → Config → Frame → List Frame → List Item → Move
  spawned g t c f fs rest = record { world = c; after = running (record f { stack = t.stack; control = rest } ∷ fs); born = started g t.values ∷ [] }

  kept_spawn : (c : Config) (f : Frame) (fs : List Frame) (rest : List Item) (g : ℕ) (t : Taken) → spawn (er c) (ef f) (map ef fs) (map ei rest) g t ≡ erase_move (spawn c f fs rest g t)
  kept_spawn c f fs rest g t =
      ap (λ n. cond (nat_lt n goroutine_limit) (spawned g t (er c) (ef f) (map ef fs) (map ei rest)) (stopped (er c) (ef f) (map ef fs) ends.GoroutineLimit)) (length-map c.goroutines (erase_goroutine Q))
      ∙ by (nat_lt (length c.goroutines) goroutine_limit)
    where
      by : (b : Bool) → cond b (spawned g t (er c) (ef f) (map ef fs) (map ei rest)) (stopped (er c) (ef f) (map ef fs) ends.GoroutineLimit) ≡ erase_move (cond b (spawned g t c f fs rest) (stopped c f fs ends.GoroutineLimit))
      by true = refl
      by false = refl

  kept_spawns : (c : Config) (f : Frame) (fs : List Frame) (rest : List Item) (g : ℕ) (o : Option Taken) → option_map (spawn (er c) (ef f) (map ef fs) (map ei rest) g) o ≡ option_map erase_move (option_map (spawn c f fs rest g) o)
  kept_spawns c f fs rest g None = refl
  kept_spawns c f fs rest g (Some t) = ap Some (kept_spawn c f fs rest g t)

  kept_defer : (c : Config) (f : Frame) (fs : List Frame) (rest : List Item) (st : List Value) (o : Option Deferred) → option_map (λ d. on_with (er c) (record (ef f) { deferred = d ∷ f.deferred }) (map ef fs) st (map ei rest)) o ≡ option_map erase_move (option_map (λ d. on_with c (record f { deferred = d ∷ f.deferred }) fs st rest) o)
  kept_defer c f fs rest st None = refl
  kept_defer c f fs rest st (Some d) = refl

  kept_defers : (c : Config) (f : Frame) (fs : List Frame) (rest : List Item) (d : Deferral) (o : Option Taken) → option_and_then (defer (er c) (ef f) (map ef fs) (map ei rest) d) o ≡ option_map erase_move (option_and_then (defer c f fs rest d) o)
  kept_defers c f fs rest d None = refl
  kept_defers c f fs rest d (Some t) = kept_defer c f fs rest t.stack (deferred_call d t.values)

  kept_run : (c : Config) (f : Frame) (fs : List Frame) (d : Deferred) (ds : List Deferred) → run_deferred (erase_program Q) (er c) (ef f) (map ef fs) d ds ≡ erase_move (run_deferred Q c f fs d ds)
  kept_run c f fs (deferred.Call d) ds = kept_called c f fs (record f { deferred = ds }) fs (new_frame Q d.function d.args true)
  kept_run c f fs (deferred.Done g) ds = refl
  kept_run c f fs (deferred.Unlock m) ds = refl
  kept_run c f fs (deferred.Close v) ds = refl
  kept_run c f fs (deferred.Println vs) ds = refl

  -- ---- returns

  kept_over : (i : ℕ) (c : Config) (go : Goroutine) → moved (over i (er c)) go ≡ moved (er (over i c)) go
  kept_over zero c go = refl
  kept_over (suc i) c go = refl

  kept_deliver : (c : Config) (i : ℕ) (vs : List Value) (fs : List Frame) → deliver (er c) i vs (map ef fs) ≡ erase_move (deliver c i vs fs)
  kept_deliver c i vs [] = kept_over i c (running [])
  kept_deliver c i vs (g ∷ fs) = refl

  kept_return : (c : Config) (i : ℕ) (f : Frame) (fs : List Frame) (n : ℕ) (ds : List Deferred) → return_from (erase_program Q) (er c) i (ef f) (map ef fs) n ds ≡ erase_move (return_from Q c i f fs n ds)
  kept_return c i f fs n [] = kept_deliver c i (cond f.drops [] (take n f.stack)) fs
  kept_return c i f fs n (d ∷ ds) = kept_run c f fs d ds

  kept_unwind : (c : Config) (f : Frame) (fs : List Frame) (m : List ℕ) (ds : List Deferred) → unwind (erase_program Q) (er c) (ef f) (map ef fs) m ds ≡ erase_move (unwind Q c f fs m ds)
  kept_unwind c f [] m [] = refl
  kept_unwind c f (g ∷ fs) m [] = refl
  kept_unwind c f fs m (d ∷ ds) = kept_run c f fs d ds

  kept_closed : (k : ℕ) (c : Config) (o : Option Channel) → set_closed k (er c) o ≡ er (set_closed k c o)
  kept_closed k c None = refl
  kept_closed k c (Some ch) = refl

  abbrev advanced : Config → Frame → List Frame → List Item → Target → Value → Target → Value → Value → List Item → Move
  advanced c f fs rest o v r w x items =
      on_with (set_global r w (set_global o v c)) (record f { slots = set_slot r w (set_slot o v f.slots) }) fs (x ∷ drop 1 f.stack) (items ++ rest)

  kept_advance : (c : Config) (f : Frame) (fs : List Frame) (rest : List Item) (o : Target) (v : Value) (r : Target) (w x : Value) (items : List Item) → advanced (er c) (ef f) (map ef fs) (map ei rest) o v r w x (map ei items) ≡ erase_move (advanced c f fs rest o v r w x items)
  kept_advance c f fs rest o v r w x items =
      ap (λ d. on_with d (ef (record f { slots = set_slot r w (set_slot o v f.slots) })) (map ef fs) (x ∷ drop 1 f.stack) (map ei items ++ map ei rest)) (ap (set_global r w) (kept_global o v c) ∙ kept_global r w (set_global o v c))
      ∙ kept_on (set_global r w (set_global o v c)) (record f { slots = set_slot r w (set_slot o v f.slots) }) fs (x ∷ drop 1 f.stack) (items ++ rest) _ (sym (map-append ei items rest))

  -- ---- each act

  pub sim_put : (a : Act) (c : Config) (i : ℕ) (f : Frame) (fs : List Frame) (rest : List Item) → put (erase_program Q) (er c) i (ef f) (map ef fs) (map ei rest) (erase_act Q a) ≡ option_map erase_move (put Q c i f fs rest a)
  unfolding put erase_act
  sim_put act.Stuck c i f fs rest = refl
  sim_put act.Waits c i f fs rest = refl
  sim_put (act.Replaces n items) c i f fs rest = ap Some (kept_on c f fs _ (items ++ rest) _ (sym (map-append ei items rest)))
  sim_put (act.Pushes n v) c i f fs rest = refl
  sim_put (act.Assigns t ts) c i f fs rest = kept_assigns c f fs rest t ts (slice_get f.stack (length ts))
  sim_put (act.Advances o at r code next items) c i f fs rest = ap Some (kept_advance c f fs rest o (value.Number at) r (value.Number code) (value.Number next) items)
  sim_put (act.Breaks k) c i f fs rest = ap Some (kept_to c f fs (broken rest k) _ (kept_broken rest k))
  sim_put (act.Continues k) c i f fs rest = ap Some (kept_to c f fs (cut_past rest k) _ (kept_cut rest k))
  sim_put (act.Falls l) c i f fs rest = ap Some (kept_to c f fs (fallen rest l) _ (kept_fallen rest l))
  sim_put (act.Calls g) c i f fs rest = kept_calls c f fs rest g (taken (function_at Q g).params f.stack)
  sim_put (act.Spawns g) c i f fs rest = kept_spawns c f fs rest g (taken (function_at Q g).params f.stack)
  sim_put (act.Defers (deferral.Call g)) c i f fs rest = kept_defers c f fs rest (deferral.Call g) (taken (function_at Q g).params f.stack)
  sim_put (act.Defers (deferral.Done g)) c i f fs rest = kept_defers c f fs rest (deferral.Done g) (taken 0 f.stack)
  sim_put (act.Defers (deferral.Unlock m)) c i f fs rest = kept_defers c f fs rest (deferral.Unlock m) (taken 0 f.stack)
  sim_put (act.Defers deferral.Close) c i f fs rest = kept_defers c f fs rest deferral.Close (taken 1 f.stack)
  sim_put (act.Defers (deferral.Println n)) c i f fs rest = kept_defers c f fs rest (deferral.Println n) (taken n f.stack)
  sim_put (act.Returns n) c i f fs rest = ap Some (kept_return c i f fs n f.deferred)
  sim_put (act.Unwinds m) c i f fs rest = ap Some (kept_unwind c f fs m f.deferred)
  sim_put (act.Panics m) c i f fs rest = refl
  sim_put (act.Stops e) c i f fs rest = refl
  sim_put (act.Ends n e) c i f fs rest = refl
  sim_put (act.Prints n text) c i f fs rest = refl
  sim_put (act.Locks m b) c i f fs rest = refl
  sim_put (act.Sets n g k) c i f fs rest = refl
  sim_put (act.Makes n v capacity) c i f fs rest = refl
  sim_put (act.Closes k) c i f fs rest = ap (λ d. Some (on_with d (ef f) (map ef fs) (drop 1 f.stack) (map ei rest))) (kept_closed k c (slice_get c.channels k))
