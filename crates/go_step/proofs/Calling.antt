-- What calls leave, once the frames are there.
use Rattle.std.proofs.Common.{◌≡◌, ℕ, ◌<◌, ◌≤◌, Bool, true, false, List, [], ◌∷◌, length, reverse, take, drop, Option, Some, None, refl, sym, ap, ◌∙◌, arith}
use Rattle.std.specs.Prelude.{option_map, if◌then◌else◌}
use Rattle.std.proofs.lemmas.Bool.{le-leb, lt-ltb}
use Rattle.std.proofs.lemmas.List.{length-reverse, length-take-le}
use Rattle.go_meaning.specs.declared.value.Value.{Value}
use Rattle.go_meaning.specs.declared.act.Act.TheVariants as act
use Rattle.go_meaning.specs.declared.config.Deferred.{Deferred}
use Rattle.go_meaning.specs.declared.config.Deferred.TheVariants as deferred
use Rattle.go_meaning.specs.declared.config.Frame.{Frame}
use Rattle.go_meaning.specs.declared.config.Config.{Config}
use Rattle.go_meaning.specs.Programs.{Parts, function_at}
use Rattle.go_meaning.specs.Moves.{Move, Taken, moved, running, taken, called, call, new_frame, stack_limit, put}
use Rattle.go_step.specs.Puts.{consumed, put_frames}
use Rattle.go_step.specs.Calls.{blank, filled, HasValues, CallsFrames, DefersBy, DefersInto, operated, OperatesFrames, deferred_by, deferred_move}
use Rattle.go_step.proofs.Arguments.{entered}

pub if_true : {A : Type 0} (b : Bool) (x y : A) → b ≡ true → (if b then x else y) ≡ x
if_true true x y e = refl
if_true false x y e = absurd cc

pub if_false : {A : Type 0} (b : Bool) (x y : A) → b ≡ false → (if b then x else y) ≡ y
if_false true x y e = absurd cc
if_false false x y e = refl

pub taken_is : (n : ℕ) (st : List Value) → n ≤ length st → taken n st ≡ Some (record { values = reverse (take n st); stack = drop n st })
taken_is n st h = let t : Option Taken = Some (record { values = reverse (take n st); stack = drop n st }) in if_true _ t None (le-leb n (length st) h)

called_room : (P : Parts) (c : Config) (f : Frame) (fs : List Frame) (g : Frame) (gs : List Frame) (new : Frame) → length (f ∷ fs) < stack_limit → called P c f fs g gs new ≡ moved c (running (new ∷ g ∷ gs))
called_room P c f fs g gs new h = if_true _ (moved c (running (new ∷ g ∷ gs))) _ (lt-ltb (length (f ∷ fs)) stack_limit h)

pub call_leaves : (P : Parts) (c : Config) (i : ℕ) (fs gs : List Frame) (g n : ℕ) → n ≡ (function_at P g).params → HasValues n fs → length fs < stack_limit → CallsFrames n (blank P g n false) fs gs → put_frames P c i fs (act.Calls g) ≡ Some (moved c (running gs))
unfolding put
call_leaves P c i [] gs g n e has room is = absurd has
call_leaves P c i (f ∷ fs) gs g n e has room is =
    let values = reverse (take n f.stack) in
    let len : length values ≡ n = length-reverse (take n f.stack) ∙ length-take-le n f.stack has in
    let below = consumed n f in
    ap (option_map (call P c f fs (drop 1 f.control) g)) (ap (λ m. taken m f.stack) (sym e) ∙ taken_is n f.stack has)
    ∙ ap Some (called_room P c f fs below fs (new_frame P g values false) room)
    ∙ ap (λ l. Some (moved c (running l))) (ap (λ new. new ∷ below ∷ fs) (sym (entered P g n values false len)) ∙ sym is)

-- a deferred call of a function
deferred_by_leaves : (P : Parts) (c : Config) (f : Frame) (fs gs : List Frame) (g n : ℕ) (ds : List Deferred) → length (f ∷ fs) < stack_limit → DefersBy g n (blank P g n true) f fs gs ds → deferred_by P c f fs ds ≡ Some (moved c (running gs))
deferred_by_leaves P c f fs gs g n (deferred.Call d ∷ ds) room is =
    ap Some (called_room P c f fs (record f { deferred = ds }) fs (new_frame P d.function d.args true) room)
    ∙ ap (λ l. Some (moved c (running l))) (ap (λ new. new ∷ record f { deferred = ds } ∷ fs) (sym (ap (λ h. filled (blank P h n true) d.args) (sym is.0) ∙ entered P d.function n d.args true is.1)) ∙ sym is.2)
deferred_by_leaves P c f fs gs g n ds room is = absurd is

pub deferred_leaves : (P : Parts) (c : Config) (fs gs : List Frame) (g n : ℕ) → length fs < stack_limit → DefersInto g n (blank P g n true) fs gs → deferred_move P c fs ≡ Some (moved c (running gs))
deferred_leaves P c [] gs g n room is = absurd is
deferred_leaves P c (f ∷ fs) gs g n room is = deferred_by_leaves P c f fs gs g n f.deferred room is

-- any other deferred call
operation_by_leaves : (P : Parts) (c : Config) (f g : Frame) (fs : List Frame) (ds : List Deferred) → operated f ds ≡ Some g → deferred_by P c f fs ds ≡ Some (moved c (running (g ∷ fs)))
operation_by_leaves P c f g fs [] e = absurd cc
operation_by_leaves P c f g fs (deferred.Call d ∷ ds) e = absurd cc
operation_by_leaves P c f g fs (d ∷ ds) e = ap (option_map (λ h. moved c (running (h ∷ fs)))) e

pub operation_leaves : (P : Parts) (c : Config) (fs gs : List Frame) → OperatesFrames fs gs → deferred_move P c fs ≡ Some (moved c (running gs))
operation_leaves P c [] gs h = absurd h
operation_leaves P c (f ∷ fs) gs h = operation_by_leaves P c f h.0 fs f.deferred h.1 ∙ ap (λ l. Some (moved c (running l))) (sym h.2)
