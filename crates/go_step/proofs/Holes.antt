-- What an act leaves doesn't depend on the goroutines, but on how many there are.
use Rattle.std.proofs.Common.{◌≡◌, ℕ, zero, suc, ◌<◌, Bool, true, false, List, [], ◌∷◌, ◌++◌, drop, length, Option, Some, None, refl, sym, ap, ◌∙◌}
use Rattle.std.specs.Prelude.{option_map, option_and_then, nat_lt, nat_le, slice_get, if◌then◌else◌}
use Rattle.go_meaning.specs.declared.value.Value.{Value}
use Rattle.go_meaning.specs.declared.value.Value.TheVariants.{Number}
use Rattle.go_meaning.specs.declared.value.Channel.{Channel}
use Rattle.go_meaning.specs.declared.expr.Variable.TheVariants.{Slot, Global}
use Rattle.go_meaning.specs.declared.expr.Target.{Target}
use Rattle.go_meaning.specs.declared.expr.Target.TheVariants as target
use Rattle.go_meaning.specs.declared.node.Deferral.{Deferral}
use Rattle.go_meaning.specs.declared.item.Item.{Item}
use Rattle.go_meaning.specs.declared.event.End.{End}
use Rattle.go_meaning.specs.declared.event.End.TheVariants as ends
use Rattle.go_meaning.specs.declared.act.Act.{Act}
use Rattle.go_meaning.specs.declared.act.Act.TheVariants as act
use Rattle.go_meaning.specs.declared.config.Deferred.{Deferred}
use Rattle.go_meaning.specs.declared.config.Deferred.TheVariants as deferred
use Rattle.go_meaning.specs.declared.config.Frame.{Frame}
use Rattle.go_meaning.specs.declared.config.Goroutine.{Goroutine}
use Rattle.go_meaning.specs.declared.config.Config.{Config}
use Rattle.go_meaning.specs.Programs.{Parts, function_at}
use Rattle.go_meaning.specs.Moves.{Move, Taken, moved, running, set_slot, set_global, assigned, taken, call, called, spawn, defer, deferred_call, operands_of, over, return_from, run_deferred, unwind, deliver, stopped, stack_limit, goroutine_limit, set_closed, started, put}
use Rattle.go_step.specs.Goroutines.{holed, holed_move}

global_holed : (t : Target) (v : Value) (c : Config) (gs : List Goroutine) → set_global t v (holed gs c) ≡ holed gs (set_global t v c)
global_holed target.Blank v c gs = refl
global_holed (target.Variable (Slot s)) v c gs = refl
global_holed (target.Variable (Global g)) v c gs = refl

if_holed : (b : Bool) (gs : List Goroutine) (x y x' y' : Move) → x' ≡ holed_move gs x → y' ≡ holed_move gs y → (if b then x' else y') ≡ holed_move gs (if b then x else y)
if_holed true gs x y x' y' e h = e
if_holed false gs x y x' y' e h = h

map_holed : {A : Type 0} (gs : List Goroutine) (o : Option A) (f g : A → Move) → ((x : A) → f x ≡ holed_move gs (g x)) → option_map f o ≡ option_map (holed_move gs) (option_map g o)
map_holed gs None f g h = refl
map_holed gs (Some x) f g h = ap Some (h x)

then_holed : (gs : List Goroutine) (o : Option Taken) (f g : Taken → Option Move) → ((x : Taken) → f x ≡ option_map (holed_move gs) (g x)) → option_and_then f o ≡ option_map (holed_move gs) (option_and_then g o)
then_holed gs None f g h = refl
then_holed gs (Some x) f g h = h x

module _ (P : Parts) (c : Config) (gs : List Goroutine) where
  called_holed : (f : Frame) (fs : List Frame) (g : Frame) (gs' : List Frame) (new : Frame) → called P (holed gs c) f fs g gs' new ≡ holed_move gs (called P c f fs g gs' new)
  called_holed f fs g gs' new = if_holed (nat_lt (length (f ∷ fs)) stack_limit) gs _ _ _ _ refl refl

  deferred_holed : (f : Frame) (fs : List Frame) (d : Deferred) (ds : List Deferred) → run_deferred P (holed gs c) f fs d ds ≡ holed_move gs (run_deferred P c f fs d ds)
  deferred_holed f fs (deferred.Call d) ds = called_holed f fs _ fs _
  deferred_holed f fs (deferred.Done g) ds = refl
  deferred_holed f fs (deferred.Unlock m) ds = refl
  deferred_holed f fs (deferred.Close v) ds = refl
  deferred_holed f fs (deferred.Println vs) ds = refl

  deliver_holed : (i : ℕ) (vs : List Value) (fs : List Frame) → deliver (holed gs c) i vs fs ≡ holed_move gs (deliver c i vs fs)
  deliver_holed zero vs [] = refl
  deliver_holed (suc i) vs [] = refl
  deliver_holed i vs (g ∷ fs) = refl

  return_holed : (i : ℕ) (f : Frame) (fs : List Frame) (n : ℕ) (ds : List Deferred) → return_from P (holed gs c) i f fs n ds ≡ holed_move gs (return_from P c i f fs n ds)
  return_holed i f fs n [] = deliver_holed i _ fs
  return_holed i f fs n (d ∷ ds) = deferred_holed f fs d ds

  unwind_holed : (f : Frame) (fs : List Frame) (m : List ℕ) (ds : List Deferred) → unwind P (holed gs c) f fs m ds ≡ holed_move gs (unwind P c f fs m ds)
  unwind_holed f [] m [] = refl
  unwind_holed f (g ∷ fs) m [] = refl
  unwind_holed f fs m (d ∷ ds) = deferred_holed f fs d ds

  closed_holed : (k : ℕ) (o : Option Channel) → set_closed k (holed gs c) o ≡ holed gs (set_closed k c o)
  closed_holed k None = refl
  closed_holed k (Some ch) = refl

  pub put_holed : (i : ℕ) (f : Frame) (fs : List Frame) (rest : List Item) (a : Act) → length gs ≡ length c.goroutines → put P (holed gs c) i f fs rest a ≡ option_map (holed_move gs) (put P c i f fs rest a)
  unfolding put
  put_holed i f fs rest act.Stuck n = refl
  put_holed i f fs rest act.Waits n = refl
  put_holed i f fs rest (act.Replaces k items) n = refl
  put_holed i f fs rest (act.Pushes k v) n = refl
  put_holed i f fs rest (act.Assigns t ts) n = map_holed gs (slice_get f.stack (length ts)) _ _ (λ v. ap (λ d. record (assigned c f fs rest t ts v) { world = d }) (global_holed t v c gs))
  put_holed i f fs rest (act.Advances o at r code next items) n =
      ap (λ d. Some (record (moved c (running (record f { slots = set_slot r (Number code) (set_slot o (Number at) f.slots); stack = Number next ∷ drop 1 f.stack; control = items ++ rest } ∷ fs))) { world = d }))
      (ap (set_global r (Number code)) (global_holed o (Number at) c gs) ∙ global_holed r (Number code) (set_global o (Number at) c) gs)
  put_holed i f fs rest (act.Breaks k) n = refl
  put_holed i f fs rest (act.Continues k) n = refl
  put_holed i f fs rest (act.Falls l) n = refl
  put_holed i f fs rest (act.Calls g) n = map_holed gs (taken (function_at P g).params f.stack) _ _ (λ t. called_holed f fs _ fs _)
  put_holed i f fs rest (act.Spawns g) n = map_holed gs (taken (function_at P g).params f.stack) _ _ (λ t. ap (λ k. if nat_lt k goroutine_limit then record { world = holed gs c; after = running (record f { stack = t.stack; control = rest } ∷ fs); born = started g t.values ∷ [] } else stopped (holed gs c) f fs ends.GoroutineLimit) n ∙ if_holed (nat_lt (length c.goroutines) goroutine_limit) gs _ _ _ _ refl refl)
  put_holed i f fs rest (act.Defers d) n = then_holed gs (taken (operands_of P d) f.stack) _ _ (λ t. map_holed gs (deferred_call d t.values) _ _ (λ x. refl))
  put_holed i f fs rest (act.Returns k) n = ap Some (return_holed i f fs k f.deferred)
  put_holed i f fs rest (act.Unwinds m) n = ap Some (unwind_holed f fs m f.deferred)
  put_holed i f fs rest (act.Panics m) n = refl
  put_holed i f fs rest (act.Stops e) n = refl
  put_holed i f fs rest (act.Ends k e) n = refl
  put_holed i f fs rest (act.Prints k text) n = refl
  put_holed i f fs rest (act.Locks m b) n = refl
  put_holed i f fs rest (act.Sets k g m) n = refl
  put_holed i f fs rest (act.Makes k v capacity) n = refl
  put_holed i f fs rest (act.Closes k) n = ap (λ d. Some (record (moved c (running (record f { stack = drop 1 f.stack; control = rest } ∷ fs))) { world = d })) (closed_holed k (slice_get c.channels k))
