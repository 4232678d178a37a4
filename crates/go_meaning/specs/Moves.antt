-- What a goroutine's step leaves: how an act changes its frames and the rest of the configuration. Go specification,
-- "Calls", "Return statements", "Defer statements", "Handling panics".
use Rattle.std.specs.Prelude.{ℕ, zero, suc, ◌+◌, ◌-◌, Bool, true, false, List, [], ◌∷◌, ◌++◌, map, length, reverse, take, drop, replicate, slice_get, slice_set, nat_le, nat_lt, Option, Some, None, option_map, option_and_then, if◌then◌else◌}
use Rattle.go_meaning.specs.declared.value.Value.{Value}
use Rattle.go_meaning.specs.declared.value.Value.TheVariants as value
use Rattle.go_meaning.specs.declared.value.Channel.{Channel}
use Rattle.go_meaning.specs.declared.expr.Variable.TheVariants.{Slot, Global}
use Rattle.go_meaning.specs.declared.expr.Target.{Target}
use Rattle.go_meaning.specs.declared.expr.Target.TheVariants as target
use Rattle.go_meaning.specs.declared.expr.Op.TheVariants as op
use Rattle.go_meaning.specs.declared.node.Deferral.{Deferral}
use Rattle.go_meaning.specs.declared.node.Deferral.TheVariants as deferral
use Rattle.go_meaning.specs.declared.item.Item.{Item}
use Rattle.go_meaning.specs.declared.item.Item.TheVariants.{Run, Assign, Do, Next, Each, Pull, Leave, Return, Unwind}
use Rattle.go_meaning.specs.declared.event.End.{End}
use Rattle.go_meaning.specs.declared.event.End.TheVariants as ends
use Rattle.go_meaning.specs.declared.act.Act.{Act}
use Rattle.go_meaning.specs.declared.act.Act.TheVariants as act
use Rattle.go_meaning.specs.declared.config.Deferred.{Deferred}
use Rattle.go_meaning.specs.declared.config.Deferred.TheVariants as deferred
use Rattle.go_meaning.specs.declared.config.Frame.{Frame}
use Rattle.go_meaning.specs.declared.config.Goroutine.{Goroutine}
use Rattle.go_meaning.specs.declared.config.Config.{Config}
use Rattle.go_meaning.specs.Programs.{Parts, function_at}
use Rattle.go_meaning.specs.Acts.{Slots}

-- ---- limits

abbrev pub goroutine_limit : ℕ
goroutine_limit = 256

abbrev pub stack_limit : ℕ
stack_limit = 10000

-- ---- goroutines and frames

abbrev pub running : List Frame → Goroutine
running fs = record { begin = None; frames = fs }

-- a goroutine before its first step
abbrev pub started : ℕ → List Value → Goroutine
started f args = record { begin = Some (record { function = f; args = args }); frames = [] }

-- the frame of a call: the arguments in its first slots, and then the body and an empty return
abbrev pub new_frame : Parts → ℕ → List Value → Bool → Frame
new_frame P f args drops = record {
  slots = map Some args ++ replicate ((function_at P f).slots - length args) None;
  stack = [];
  deferred = [];
  control = Run (function_at P f).body 0 ∷ Return 0 ∷ [];
  drops = drops;
}

-- what a step of one goroutine leaves: all but the goroutines, this goroutine, and those that it started
pub record Move : Type 0 where
  pub world : Config
  pub after : Goroutine
  pub born : List Goroutine

abbrev pub moved : Config → Goroutine → Move
moved c go = record { world = c; after = go; born = [] }

-- the frame goes on with this stack and control
abbrev pub on_with : Config → Frame → List Frame → List Value → List Item → Move
on_with c f fs stack control = moved c (running (record f { stack = stack; control = control } ∷ fs))

-- the end comes, and nothing else changes
abbrev pub stopped : Config → Frame → List Frame → End → Move
stopped c f fs e = moved (record c { end = Some e }) (running (f ∷ fs))

-- ---- values that are taken

-- values off the stack and in the order in which they were pushed, and the stack that is left
pub record Taken : Type 0 where
  pub values : List Value
  pub stack : List Value

abbrev pub taken : ℕ → List Value → Option Taken
taken n st = if nat_le n (length st) then Some (record { values = reverse (take n st); stack = drop n st }) else None

-- ---- assignment

abbrev pub set_slot : Target → Value → Slots → Slots
set_slot (target.Variable (Slot s)) v slots = slice_set slots s (Some v)
set_slot t v slots = slots

abbrev pub set_global : Target → Value → Config → Config
set_global (target.Variable (Global g)) v c = record c { globals = slice_set c.globals g v }
set_global t v c = c

-- the targets that are left
abbrev pub assign_rest : List Target → List Item
assign_rest [] = []
assign_rest (t ∷ ts) = Assign (t ∷ ts) ∷ []

-- the target takes the value under so many others, which stay
abbrev pub assigned : Config → Frame → List Frame → List Item → Target → List Target → Value → Move
assigned c f fs rest t ts v =
    let k = length ts in
    on_with (set_global t v c) (record f { slots = set_slot t v f.slots }) fs (take k f.stack ++ drop (suc k) f.stack) (assign_rest ts ++ rest)

-- ---- `break`, `continue`, `fallthrough`

-- how many values the statement of a mark keeps on the stack
abbrev pub mark : Item → Option ℕ
mark Leave = Some 0
mark (Next n i) = Some 0
mark (Each n i) = Some 2
mark (Pull n i) = Some 1
mark item = None

-- the control from a mark on, and the values of the marks before it
pub record Cut : Type 0 where
  pub values : ℕ
  pub control : List Item

abbrev pub cut_at : Option ℕ → ℕ → Item → List Item → (ℕ → Cut) → Cut
cut_at None k item is more = more k
cut_at (Some v) zero item is more = record { values = 0; control = item ∷ is }
cut_at (Some v) (suc k) item is more = record { values = v + (more k).values; control = (more k).control }

-- past k marks
abbrev pub cut_past : List Item → ℕ → Cut
cut_past [] k = record { values = 0; control = [] }
cut_past (item ∷ is) k = cut_at (mark item) k item is (cut_past is)

-- the mark goes too, with its values
abbrev pub past_mark : List Item → Cut
past_mark [] = record { values = 0; control = [] }
past_mark (item ∷ is) = record { values = elim (mark item) as (λ _. ℕ) [ None ↦ 0 | Some v ↦ v ]; control = is }

abbrev pub broken : List Item → ℕ → Cut
broken is k = let cut = cut_past is k in record { values = cut.values + (past_mark cut.control).values; control = (past_mark cut.control).control }

abbrev pub fallen : List Item → ℕ → Cut
fallen is l = let cut = cut_past is 0 in record { values = cut.values; control = Run l 0 ∷ cut.control }

abbrev pub cut_to : Config → Frame → List Frame → Cut → Move
cut_to c f fs cut = on_with c f fs (drop cut.values f.stack) cut.control

-- ---- panics

-- a panic clears the frame's stack and takes its whole control
abbrev pub panicked : Frame → List Frame → List ℕ → Goroutine
panicked f fs message = running (record f { stack = []; control = Unwind message ∷ [] } ∷ fs)

-- ---- calls and deferred calls

-- a further frame, unless there are too many
abbrev pub called : Parts → Config → Frame → List Frame → Frame → List Frame → Frame → Move
called P c f fs f' fs' new = if nat_lt (length (f ∷ fs)) stack_limit then moved c (running (new ∷ f' ∷ fs')) else stopped c f fs ends.StackLimit

abbrev pub call : Parts → Config → Frame → List Frame → List Item → ℕ → Taken → Move
call P c f fs rest g t = called P c f fs (record f { stack = t.stack; control = rest }) fs (new_frame P g t.values false)

abbrev pub spawn : Config → Frame → List Frame → List Item → ℕ → Taken → Move
spawn c f fs rest g t =
    if nat_lt (length c.goroutines) goroutine_limit then record { world = c; after = running (record f { stack = t.stack; control = rest } ∷ fs); born = started g t.values ∷ [] } else stopped c f fs ends.GoroutineLimit

-- how many operands a deferred call keeps
abbrev pub operands_of : Parts → Deferral → ℕ
operands_of P (deferral.Call f) = (function_at P f).params
operands_of P (deferral.Done g) = 0
operands_of P (deferral.Unlock m) = 0
operands_of P deferral.Close = 1
operands_of P (deferral.Println n) = n

abbrev pub deferred_call : Deferral → List Value → Option Deferred
deferred_call (deferral.Call f) vs = Some (deferred.Call (record { function = f; args = vs }))
deferred_call (deferral.Done g) vs = Some (deferred.Done g)
deferred_call (deferral.Unlock m) vs = Some (deferred.Unlock m)
deferred_call deferral.Close (v ∷ vs) = Some (deferred.Close v)
deferred_call deferral.Close [] = None
deferred_call (deferral.Println n) vs = Some (deferred.Println vs)

abbrev pub defer : Config → Frame → List Frame → List Item → Deferral → Taken → Option Move
defer c f fs rest d t = option_map (λ call. on_with c (record f { deferred = call ∷ f.deferred }) fs t.stack rest) (deferred_call d t.values)

-- The deferred call that was added last is taken from the frame and run, and the control stays below it: a function in a
-- frame whose results are dropped, any other as its operation.
abbrev pub run_deferred : Parts → Config → Frame → List Frame → Deferred → List Deferred → Move
run_deferred P c f fs (deferred.Call d) ds = called P c f fs (record f { deferred = ds }) fs (new_frame P d.function d.args true)
run_deferred P c f fs (deferred.Done g) ds = on_with c (record f { deferred = ds }) fs f.stack (Do (op.Done g) ∷ f.control)
run_deferred P c f fs (deferred.Unlock m) ds = on_with c (record f { deferred = ds }) fs f.stack (Do (op.Unlock m) ∷ f.control)
run_deferred P c f fs (deferred.Close v) ds = on_with c (record f { deferred = ds }) fs (v ∷ f.stack) (Do op.Close ∷ f.control)
run_deferred P c f fs (deferred.Println vs) ds = on_with c (record f { deferred = ds }) fs (reverse vs ++ f.stack) (Do (op.Println (length vs)) ∷ f.control)

-- ---- returns

-- a goroutine is over; if it is goroutine 1, the run is
abbrev pub over : ℕ → Config → Config
over zero c = record c { end = Some ends.Returned }
over (suc i) c = c

-- the frame has gone, and its results go to the caller
abbrev pub deliver : Config → ℕ → List Value → List Frame → Move
deliver c i results [] = moved (over i c) (running [])
deliver c i results (g ∷ fs) = on_with c g fs (results ++ g.stack) g.control

abbrev pub return_from : Parts → Config → ℕ → Frame → List Frame → ℕ → List Deferred → Move
return_from P c i f fs n [] = deliver c i (if f.drops then [] else take n f.stack) fs
return_from P c i f fs n (d ∷ ds) = run_deferred P c f fs d ds

abbrev pub unwind_to : Config → List ℕ → List Frame → Move
unwind_to c m [] = moved (record c { end = Some (ends.Panic m) }) (running [])
unwind_to c m (g ∷ fs) = on_with c g fs g.stack (Unwind m ∷ [])

abbrev pub unwind : Parts → Config → Frame → List Frame → List ℕ → List Deferred → Move
unwind P c f fs m [] = unwind_to c m fs
unwind P c f fs m (d ∷ ds) = run_deferred P c f fs d ds

-- ---- changes of the rest of the configuration

abbrev pub write : List ℕ → Config → Config
write text c = record c { output = c.output ++ text }

abbrev pub new_channel : Value → ℕ → Channel
new_channel v capacity = record { capacity = capacity; zero = v; values = []; closed = false }

abbrev pub set_closed : ℕ → Config → Option Channel → Config
set_closed k c None = c
set_closed k c (Some ch) = record c { channels = slice_set c.channels k (record ch { closed = true }) }

-- ---- each act, of the goroutine with index i, whose running frame has a head item and then `rest`

unfoldable pub put : Parts → Config → ℕ → Frame → List Frame → List Item → Act → Option Move
put P c i f fs rest act.Stuck = None
put P c i f fs rest act.Waits = None
put P c i f fs rest (act.Replaces n items) = Some (on_with c f fs (drop n f.stack) (items ++ rest))
put P c i f fs rest (act.Pushes n v) = Some (on_with c f fs (v ∷ drop n f.stack) rest)
put P c i f fs rest (act.Assigns t ts) = option_map (assigned c f fs rest t ts) (slice_get f.stack (length ts))
put P c i f fs rest (act.Advances o at r code next items) = Some (on_with
    (set_global r (value.Number code) (set_global o (value.Number at) c))
    (record f { slots = set_slot r (value.Number code) (set_slot o (value.Number at) f.slots) })
    fs
    (value.Number next ∷ drop 1 f.stack)
    (items ++ rest))
put P c i f fs rest (act.Breaks k) = Some (cut_to c f fs (broken rest k))
put P c i f fs rest (act.Continues k) = Some (cut_to c f fs (cut_past rest k))
put P c i f fs rest (act.Falls l) = Some (cut_to c f fs (fallen rest l))
put P c i f fs rest (act.Calls g) = option_map (call P c f fs rest g) (taken (function_at P g).params f.stack)
put P c i f fs rest (act.Spawns g) = option_map (spawn c f fs rest g) (taken (function_at P g).params f.stack)
put P c i f fs rest (act.Defers d) = option_and_then (defer c f fs rest d) (taken (operands_of P d) f.stack)
put P c i f fs rest (act.Returns n) = Some (return_from P c i f fs n f.deferred)
put P c i f fs rest (act.Unwinds m) = Some (unwind P c f fs m f.deferred)
put P c i f fs rest (act.Panics m) = Some (moved c (panicked f fs m))
put P c i f fs rest (act.Stops e) = Some (stopped c f fs e)
put P c i f fs rest (act.Ends n e) = Some (on_with (record c { end = Some e }) f fs (drop n f.stack) rest)
put P c i f fs rest (act.Prints n text) = Some (on_with (write text c) f fs (drop n f.stack) rest)
put P c i f fs rest (act.Locks m b) = Some (on_with (record c { mutexes = slice_set c.mutexes m b }) f fs f.stack rest)
put P c i f fs rest (act.Sets n g k) = Some (on_with (record c { groups = slice_set c.groups g k }) f fs (drop n f.stack) rest)
put P c i f fs rest (act.Makes n v capacity) = Some (on_with
    (record c { channels = c.channels ++ new_channel v capacity ∷ [] })
    f
    fs
    (value.Channel (Some (length c.channels)) ∷ drop n f.stack)
    rest)
put P c i f fs rest (act.Closes k) = Some (on_with (set_closed k c (slice_get c.channels k)) f fs (drop 1 f.stack) rest)
