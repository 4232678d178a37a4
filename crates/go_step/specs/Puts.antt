-- What the acts of a goroutine leave, by the frame that runs, and by all its frames.
use Rattle.std.specs.Prelude.{◌≡◌, ℕ, suc, ◌≤◌, ◌<◌, Bool, true, false, List, [], ◌∷◌, ◌++◌, length, reverse, take, drop, slice_get, Option, Some, None, Result, Ok, Err}
use Rattle.std.specs.declared.alloc.AllocError.{AllocError}
use Rattle.go_value.specs.declared.int.Int.{Int}
use Rattle.go_meaning.specs.declared.value.Value.{Value}
use Rattle.go_meaning.specs.declared.value.Value.TheVariants.{Number}
use Rattle.go_meaning.specs.declared.expr.Target.{Target}
use Rattle.go_meaning.specs.declared.node.Deferral.{Deferral}
use Rattle.go_meaning.specs.declared.node.Deferral.TheVariants as deferral
use Rattle.go_meaning.specs.declared.item.Item.{Item}
use Rattle.go_meaning.specs.declared.item.Item.TheVariants.{Unwind}
use Rattle.go_meaning.specs.declared.act.Act.{Act}
use Rattle.go_meaning.specs.declared.act.Act.TheVariants as act
use Rattle.go_meaning.specs.declared.config.Deferred.{Deferred}
use Rattle.go_meaning.specs.declared.config.Frame.{Frame}
use Rattle.go_meaning.specs.declared.config.Goroutine.{Goroutine}
use Rattle.go_meaning.specs.declared.config.Config.{Config}
use Rattle.go_meaning.specs.Programs.{Parts}
use Rattle.go_meaning.specs.Moves.{Move, Cut, moved, running, assign_rest, set_slot, set_global, operands_of, deferred_call, put}

-- the item at the head of the control goes, with so many values
abbrev pub consumed : ℕ → Frame → Frame
consumed n f = record f { stack = drop n f.stack; control = drop 1 f.control }

-- the control from a mark on, without the values of the marks before it
abbrev pub cut_frame : Frame → Cut → Frame
cut_frame f cut = record f { stack = drop cut.values f.stack; control = cut.control }

-- a panic clears the stack and takes the whole control
abbrev pub panicking : List ℕ → Frame → Frame
panicking m f = record f { stack = []; control = Unwind m ∷ [] }

-- what an act at the head of a control leaves
abbrev pub put_frame : Parts → Config → ℕ → Frame → List Frame → Act → Option Move
put_frame P c i f fs a = put P c i f fs (drop 1 f.control) a

-- An act leaves another configuration and another frame, or has no step. An `Err` changes nothing.
abbrev pub PutsFrame : Parts → Config → Frame → Act → Result Bool AllocError → Config → Frame → Type 0
PutsFrame P c f a (Ok true) d g = (i : ℕ) (fs : List Frame) → put_frame P c i f fs a ≡ Some (moved d (running (g ∷ fs)))
PutsFrame P c f a (Ok false) d g = ((i : ℕ) (fs : List Frame) → put_frame P c i f fs a ≡ None) × (d ≡ c) × (g ≡ f)
PutsFrame P c f a (Err e) d g = (d ≡ c) × (g ≡ f)

-- the targets take an offset and a rune, and a further offset takes the top's place
abbrev pub advanced : Target → Int → Target → Int → Int → List Item → Frame → Frame
advanced o at r code next items f =
    record f {
      slots = set_slot r (Number code) (set_slot o (Number at) f.slots);
      stack = Number next ∷ drop 1 f.stack;
      control = items ++ drop 1 f.control;
    }

-- the frame after an assignment of a value that lies under others
abbrev pub assigned_frame : Frame → Target → List Target → Value → Frame
assigned_frame f t ts v =
    record f {
      slots = set_slot t v f.slots;
      stack = take (length ts) f.stack ++ drop (suc (length ts)) f.stack;
      control = assign_rest ts ++ drop 1 f.control;
    }

-- whether there is such a value, and what the assignment leaves
abbrev pub AssignsFrame : Config → Frame → Target → List Target → Bool → Config → Frame → Type 0
AssignsFrame c f t ts true d g = (v : Value) × (slice_get f.stack (length ts) ≡ Some v) × (d ≡ set_global t v c) × (g ≡ assigned_frame f t ts v)
AssignsFrame c f t ts false d g = (slice_get f.stack (length ts) ≡ None) × (d ≡ c) × (g ≡ f)

-- `close` has one operand
abbrev pub IsOneToClose : Deferral → ℕ → Type 0
IsOneToClose deferral.Close n = n ≡ 1
IsOneToClose d n = Unit {0}

-- the frame after a call is deferred, whose operands are so many
abbrev pub deferred_frame : Frame → ℕ → Deferred → Frame
deferred_frame f n call = record f { stack = drop n f.stack; deferred = call ∷ f.deferred; control = drop 1 f.control }

-- whether a call could be deferred, and what that leaves
abbrev pub DefersFrame : Parts → Frame → Deferral → Result Bool AllocError → Frame → Type 0
DefersFrame P f d (Ok true) g =
    (operands_of P d ≤ length f.stack) × ((call : Deferred) × (deferred_call d (reverse (take (operands_of P d) f.stack)) ≡ Some call) × (g ≡ deferred_frame f (operands_of P d) call))
DefersFrame P f d (Ok false) g = (length f.stack < operands_of P d) × (g ≡ f)
DefersFrame P f d (Err e) g = g ≡ f

-- the acts that change their frame, and at most variables
abbrev pub IsOfFrame : Act → Type 0
IsOfFrame act.Stuck = Unit {0}
IsOfFrame act.Waits = Unit {0}
IsOfFrame (act.Replaces n items) = Unit {0}
IsOfFrame (act.Pushes n v) = Unit {0}
IsOfFrame (act.Assigns t ts) = Unit {0}
IsOfFrame (act.Advances o at r code next items) = Unit {0}
IsOfFrame (act.Breaks k) = Unit {0}
IsOfFrame (act.Continues k) = Unit {0}
IsOfFrame (act.Falls l) = Unit {0}
IsOfFrame (act.Defers d) = Unit {0}
IsOfFrame (act.Panics m) = Unit {0}
IsOfFrame a = ⊥

-- those that change more of the configuration
abbrev pub IsOfWorld : Act → Type 0
IsOfWorld (act.Stops e) = Unit {0}
IsOfWorld (act.Ends n e) = Unit {0}
IsOfWorld (act.Prints n text) = Unit {0}
IsOfWorld (act.Locks m b) = Unit {0}
IsOfWorld (act.Sets n g k) = Unit {0}
IsOfWorld (act.Makes n v capacity) = Unit {0}
IsOfWorld (act.Closes k) = Unit {0}
IsOfWorld a = ⊥

-- the same of the acts that change the frames
abbrev pub put_frames : Parts → Config → ℕ → List Frame → Act → Option Move
put_frames P c i [] a = None
put_frames P c i (f ∷ fs) a = put_frame P c i f fs a

-- an act of the goroutine with this index leaves another configuration and other frames, or has no step
abbrev pub PutsFrames : Parts → Config → ℕ → List Frame → Act → Result Bool AllocError → Config → List Frame → Type 0
PutsFrames P c i fs a (Ok true) d gs = put_frames P c i fs a ≡ Some (moved d (running gs))
PutsFrames P c i fs a (Ok false) d gs = (put_frames P c i fs a ≡ None) × (d ≡ c) × (gs ≡ fs)
PutsFrames P c i fs a (Err e) d gs = (d ≡ c) × (gs ≡ fs)

-- the acts that leave all frames but the one that runs
abbrev pub IsOfOneFrame : Act → Type 0
IsOfOneFrame (act.Calls g) = ⊥
IsOfOneFrame (act.Spawns g) = ⊥
IsOfOneFrame (act.Returns n) = ⊥
IsOfOneFrame (act.Unwinds m) = ⊥
IsOfOneFrame a = Unit {0}

abbrev pub StartsNone : Act → Type 0
StartsNone (act.Spawns g) = ⊥
StartsNone a = Unit {0}

abbrev pub SortsAct : Act → Bool → Type 0
SortsAct a true = IsOfWorld a
SortsAct a false = IsOfFrame a
