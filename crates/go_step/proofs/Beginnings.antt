-- What a first step and a counter step leave.
use Rattle.std.proofs.Common.{◌≡◌, ℕ, ◌==◌, Bool, true, false, List, [], ◌∷◌, ◌++◌, map, drop, length, Option, Some, None, slice_get, refl, sym, ap, ◌∙◌}
use Rattle.std.proofs.lemmas.Option.{same_Some}
use Rattle.go_meaning.specs.declared.value.Value.{Value}
use Rattle.go_meaning.specs.Moves.{running, new_frame}
use Rattle.go_step.specs.Calls.{blank, filled}
use Rattle.go_step.proofs.Arguments.{entered}
use Rattle.std.specs.Prelude.{slice_set, option_map, if◌then◌else◌}
use Rattle.std.proofs.lemmas.List.{set-set}
use Rattle.go_meaning.specs.declared.item.Item.{Item}
use Rattle.go_meaning.specs.declared.config.Call.{Call}
use Rattle.go_meaning.specs.declared.config.Frame.{Frame}
use Rattle.go_meaning.specs.declared.config.Goroutine.{Goroutine}
use Rattle.go_meaning.specs.declared.config.Config.{Config}
use Rattle.go_meaning.specs.Programs.{Parts}
use Rattle.go_meaning.specs.Steps.{due, due_item, past_item, past_frames, counted_at, arrive_one}
use Rattle.go_step.specs.Goroutines.{holed}
use Rattle.go_step.specs.Beginning.{begins, is_due, Passes, count_step, Counts}
use Rattle.go_step.proofs.Restored.{restored}

passed_by : (u : ℕ) (go : Goroutine) (w : Option ℕ) (r : Bool) → r ≡ is_due u w → counted_at u (Some go) w ≡ (if r then Some (record go { frames = past_frames go.frames }) else None)
passed_by u go None true e = absurd cc
passed_by u go None false e = refl
passed_by u go (Some w) r e = ap (λ b. if b then Some (record go { frames = past_frames go.frames }) else None) (sym e)

pub passes_top : (P : Parts) (go : Goroutine) (f : Frame) (fs : List Frame) (u : ℕ) (r : Bool) → go.begin ≡ None → go.frames ≡ f ∷ fs → r ≡ is_due u (due_item P f.control) → Passes P go u r (record go { frames = record f { control = if r then past_item f.control else f.control } ∷ fs })
passes_top P go f fs u true none top e =
    let w : due P (Some go) ≡ due_item P f.control = ap (λ (g : Goroutine). due P (Some g)) (same go none top) in
    ap (counted_at u (Some go)) w ∙ passed_by u go (due_item P f.control) true e ∙ ap (λ l. Some (record go { frames = past_frames l })) top
  where
    same : (g : Goroutine) → g.begin ≡ None → g.frames ≡ f ∷ fs → g ≡ record { begin = None; frames = f ∷ fs }
    same g a b = ap (λ o. record { begin = o; frames = g.frames }) a ∙ ap (λ l. record { begin = None; frames = l }) b
passes_top P go f fs u false none top e =
    let w : due P (Some go) ≡ due_item P f.control = ap (λ (g : Goroutine). due P (Some g)) (same go none top) in
    (ap (counted_at u (Some go)) w ∙ passed_by u go (due_item P f.control) false e, ap (λ l. record go { frames = l }) (sym top))
  where
    same : (g : Goroutine) → g.begin ≡ None → g.frames ≡ f ∷ fs → g ≡ record { begin = None; frames = f ∷ fs }
    same g a b = ap (λ o. record { begin = o; frames = g.frames }) a ∙ ap (λ l. record { begin = None; frames = l }) b

pub counts_at : (P : Parts) (c : Config) (i u : ℕ) (go hole new : Goroutine) (r : Bool) → slice_get c.goroutines i ≡ Some go → Passes P go u r new → Counts P c i u r (holed (slice_set (slice_set c.goroutines i hole) i new) c)
counts_at P c i u go hole new true at e =
    ap (λ o. option_map (arrive_one c i) (counted_at u o (due P o))) at ∙ ap (option_map (arrive_one c i)) e ∙ ap (λ l. Some (holed l c)) (sym (set-set c.goroutines i hole new))
counts_at P c i u go hole new false at e =
    (ap (λ o. option_map (arrive_one c i) (counted_at u o (due P o))) at ∙ ap (option_map (arrive_one c i)) e.0, ap (λ l. holed l c) (ap (slice_set (slice_set c.goroutines i hole) i) e.1 ∙ restored c.goroutines i hole go at))

pub begun_is : (P : Parts) (o : Option Call) (call taken : Call) (n : ℕ) (f : Frame) (slots : List (Option Value)) (gs : List Frame) → o ≡ Some call → Some taken ≡ o → f ≡ blank P call.function n false → n ≡ length call.args → slots ≡ map Some taken.args ++ drop (length taken.args) f.slots → gs ≡ record f { slots = slots } ∷ [] → begins P o ≡ Some (running gs)
begun_is P o call taken n f slots gs is took made len fills top =
    let same : taken ≡ call = same_Some taken call (took ∙ is) in
    let frame : record f { slots = slots } ≡ new_frame P call.function call.args false =
    ap (λ l. record f { slots = l }) (fills ∙ ap (λ (k : Call). map Some k.args ++ drop (length k.args) f.slots) same)
    ∙ ap (λ (g : Frame). filled g call.args) made
    ∙ entered P call.function n call.args false (sym len) in
    ap (begins P) is ∙ ap (λ (g : Frame). Some (running (g ∷ []))) (sym frame) ∙ ap (λ l. Some (running l)) (sym top)
