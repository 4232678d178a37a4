-- Frames of calls, before and after their arguments are there.
use Rattle.std.specs.Prelude.{◌≡◌, ℕ, ◌≤◌, ◌<◌, Bool, true, false, List, [], ◌∷◌, ◌++◌, length, map, reverse, take, drop, max, replicate, Option, Some, None, if◌then◌else◌}
use Rattle.go_meaning.specs.declared.value.Value.{Value}
use Rattle.go_meaning.specs.declared.item.Item.TheVariants.{Run, Return, Do, Unwind}
use Rattle.go_meaning.specs.declared.expr.Op.TheVariants as op
use Rattle.go_meaning.specs.declared.config.Deferred.{Deferred}
use Rattle.go_meaning.specs.declared.config.Deferred.TheVariants as deferred
use Rattle.go_meaning.specs.declared.config.Frame.{Frame}
use Rattle.go_meaning.specs.declared.config.Config.{Config}
use Rattle.go_meaning.specs.Moves.{Move, run_deferred}
use Rattle.go_meaning.specs.Programs.{Parts, function_at}
use Rattle.go_step.specs.Puts.{consumed}

-- a frame with room for so many arguments
abbrev pub blank : Parts → ℕ → ℕ → Bool → Frame
blank P g n drops = record {
  slots = replicate (max (function_at P g).slots n) None;
  stack = [];
  deferred = [];
  control = Run (function_at P g).body 0 ∷ Return 0 ∷ [];
  drops = drops;
}

-- the first slots take the arguments
abbrev pub filled : Frame → List Value → Frame
filled f vs = record f { slots = map Some vs ++ drop (length vs) f.slots }

-- the frame that runs has so many values
abbrev pub HasValues : ℕ → List Frame → Type 0
HasValues n [] = ⊥
HasValues n (f ∷ fs) = n ≤ length f.stack

-- a further frame has so many values of the frame below it
abbrev pub CallsFrames : ℕ → Frame → List Frame → List Frame → Type 0
CallsFrames n new [] gs = ⊥
CallsFrames n new (f ∷ fs) gs = gs ≡ filled new (reverse (take n f.stack)) ∷ consumed n f ∷ fs

-- the deferred call that was added last is run
abbrev pub deferred_by : Parts → Config → Frame → List Frame → List Deferred → Option Move
deferred_by P c f fs [] = None
deferred_by P c f fs (d ∷ ds) = Some (run_deferred P c f fs d ds)

abbrev pub deferred_move : Parts → Config → List Frame → Option Move
deferred_move P c [] = None
deferred_move P c (f ∷ fs) = deferred_by P c f fs f.deferred

abbrev pub HasDeferred : List Frame → Type 0
HasDeferred [] = ⊥
HasDeferred (f ∷ fs) = 0 < length f.deferred

-- the deferred call that was added last is that of a function, with so many arguments
abbrev pub IsCallOf : ℕ → ℕ → List Deferred → Type 0
IsCallOf g n (deferred.Call d ∷ ds) = (d.function ≡ g) × (length d.args ≡ n)
IsCallOf g n ds = ⊥

abbrev pub DefersCall : ℕ → ℕ → List Frame → Type 0
DefersCall g n [] = ⊥
DefersCall g n (f ∷ fs) = IsCallOf g n f.deferred

-- a further frame has its arguments
abbrev pub DefersBy : ℕ → ℕ → Frame → Frame → List Frame → List Frame → List Deferred → Type 0
DefersBy g n new f fs gs (deferred.Call d ∷ ds) = (d.function ≡ g) × (length d.args ≡ n) × (gs ≡ filled new d.args ∷ record f { deferred = ds } ∷ fs)
DefersBy g n new f fs gs ds = ⊥

abbrev pub DefersInto : ℕ → ℕ → Frame → List Frame → List Frame → Type 0
DefersInto g n new [] gs = ⊥
DefersInto g n new (f ∷ fs) gs = DefersBy g n new f fs gs f.deferred

-- any other deferred call is its operation, over its operands
abbrev pub operated : Frame → List Deferred → Option Frame
operated f (deferred.Done g ∷ ds) = Some (record f { deferred = ds; control = Do (op.Done g) ∷ f.control })
operated f (deferred.Unlock m ∷ ds) = Some (record f { deferred = ds; control = Do (op.Unlock m) ∷ f.control })
operated f (deferred.Close v ∷ ds) = Some (record f { deferred = ds; stack = v ∷ f.stack; control = Do op.Close ∷ f.control })
operated f (deferred.Println vs ∷ ds) = Some (record f { deferred = ds; stack = reverse vs ++ f.stack; control = Do (op.Println (length vs)) ∷ f.control })
operated f ds = None

abbrev pub IsOperation : List Deferred → Type 0
IsOperation [] = ⊥
IsOperation (deferred.Call d ∷ ds) = ⊥
IsOperation (d ∷ ds) = Unit {0}

abbrev pub IsClose : List Deferred → Type 0
IsClose (deferred.Close v ∷ ds) = Unit {0}
IsClose ds = ⊥

abbrev pub IsPrintlnOf : ℕ → List Deferred → Type 0
IsPrintlnOf n (deferred.Println vs ∷ ds) = n ≡ length vs
IsPrintlnOf n ds = ⊥

abbrev pub DefersOperation : List Frame → Type 0
DefersOperation [] = ⊥
DefersOperation (f ∷ fs) = IsOperation f.deferred

abbrev pub OperatesFrames : List Frame → List Frame → Type 0
OperatesFrames [] gs = ⊥
OperatesFrames (f ∷ fs) gs = (g : Frame) × (operated f f.deferred ≡ Some g) × (gs ≡ g ∷ fs)

-- so many results go to the caller, unless they are dropped
abbrev pub DeliversFrames : ℕ → List Frame → List Frame → Type 0
DeliversFrames n [] gs = ⊥
DeliversFrames n (f ∷ []) gs = ⊥
DeliversFrames n (f ∷ g ∷ fs) gs = gs ≡ record g { stack = (if f.drops then [] else take n f.stack) ++ g.stack } ∷ fs

-- the frame that runs has no deferred calls
abbrev pub HasNone : List Frame → Type 0
HasNone [] = ⊥
HasNone (f ∷ fs) = f.deferred ≡ []

-- the caller panics
abbrev pub UnwindsFrames : List ℕ → List Frame → List Frame → Type 0
UnwindsFrames m [] gs = ⊥
UnwindsFrames m (f ∷ []) gs = ⊥
UnwindsFrames m (f ∷ g ∷ fs) gs = gs ≡ record g { control = Unwind m ∷ [] } ∷ fs
