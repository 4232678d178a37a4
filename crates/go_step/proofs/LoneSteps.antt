-- The step of a goroutine alone, by what its head item does with a channel.
use Rattle.std.proofs.Common.{◌≡◌, ℕ, zero, suc, ◌+◌, ◌-◌, ◌<◌, Bool, true, false, List, [], ◌∷◌, Option, Some, None, refl, sym, ap, ◌∙◌, subst, length, slice_get, arith}
use Rattle.std.specs.Prelude.{◌==◌, ◌≢◌, is_some, option_map, slice_set, if◌then◌else◌}
use Rattle.std.specs.Option.{option_or}
use Rattle.std.specs.List.{list_any}
use Rattle.std.proofs.lemmas.List.{append-nil, set-set}
use Rattle.go_meaning.specs.declared.value.Value.{Value}
use Rattle.go_meaning.specs.declared.item.Item.{Item}
use Rattle.go_meaning.specs.declared.item.Item.TheVariants as item
use Rattle.go_meaning.specs.declared.event.Event.TheVariants.{Step, Count}
use Rattle.go_meaning.specs.declared.config.Call.{Call}
use Rattle.go_meaning.specs.declared.config.Frame.{Frame}
use Rattle.go_meaning.specs.declared.config.Goroutine.{Goroutine}
use Rattle.go_meaning.specs.declared.config.Config.{Config}
use Rattle.go_meaning.specs.Programs.{Parts}
use Rattle.go_meaning.specs.Acts.{Slots, act_of}
use Rattle.go_meaning.specs.Moves.{Move, moved, running, put}
use Rattle.go_meaning.specs.Channels.{Side, Neither, Offers, Wants, Defaults, Sides, item_sides, control_sides, frame_sides, sides_of, side_at, is_default, is_ready, listed, by_itself, lone}
use Rattle.go_meaning.specs.Steps.{at_zero, on_item, on_control, on_frames, alone, arrive, step}
use Rattle.go_step.specs.declared.parts.Entry.{Entry}
use Rattle.go_step.specs.declared.parts.Part.{Part}
use Rattle.go_step.specs.declared.parts.Part.TheVariants as part
use Rattle.go_step.specs.Alone.{NeedsNoChannel, OfControl, OfFrames, GoesAlone, alone_at}
use Rattle.go_step.specs.Parts.{part_side, frames_side, goroutine_side, plain_part, part_of, control_part, frames_part, goroutine_part, FramesFit, BeginFits, GoroutineFits, waits_item, waits_control, waits_frames, waits}
use Rattle.go_step.specs.Handing.{gone_in, gone_by, lone_at, alone_by, entered, both_at, IsNoDefault}
use Rattle.go_step.proofs.Calling.{if_true, if_false}
use Rattle.go_step.proofs.Restored.{restored}
use Rattle.go_step.proofs.Exchanging.{fitting, begun_by}
use Rattle.go_step.proofs.Sided.{sided, sided_none, part_fits}

-- ---- items that wait for a channel do nothing else

or_none : (o : Option Move) → option_or o None ≡ o
or_none None = refl
or_none (Some m) = refl

zero_none : (k : ℕ) → at_zero {A = Move} k None ≡ None
zero_none zero = refl
zero_none (suc k) = refl

waiting_put : (P : Parts) (c : Config) (i : ℕ) (f : Frame) (fs : List Frame) (rest : List Item) (it : Item) (slots : Slots) (st : List Value) → waits_item it ≡ true → put P c i f fs rest (act_of P c it slots st) ≡ None
unfolding put act_of
waiting_put P c i f fs rest item.Send slots st e = refl
waiting_put P c i f fs rest item.Recv slots st e = refl
waiting_put P c i f fs rest item.RecvOk slots st e = refl
waiting_put P c i f fs rest (item.Pull n j) slots st e = refl
waiting_put P c i f fs rest (item.Pick n j) slots st e = refl
waiting_put P c i f fs rest it slots st e = absurd cc

item_lone : (P : Parts) (c : Config) (i k : ℕ) (f : Frame) (fs : List Frame) (it : Item) (rest : List Item) → waits_item it ≡ true → on_item P c i k f fs it rest ≡ lone P c i (item_sides P it f fs rest) (side_at (item_sides P it f fs rest) k)
item_lone P c i k f fs it rest e =
    ap (λ o. option_or (lone P c i (item_sides P it f fs rest) (side_at (item_sides P it f fs rest) k)) (at_zero k o)) (waiting_put P c i f fs rest it f.slots f.stack e)
    ∙ ap (option_or (lone P c i (item_sides P it f fs rest) (side_at (item_sides P it f fs rest) k))) (zero_none k)
    ∙ or_none (lone P c i (item_sides P it f fs rest) (side_at (item_sides P it f fs rest) k))

part_waits : (P : Parts) (it : Item) (k : ℕ) (st : List Value) (p : Part) → part_of P it k st ≡ Some p → waits_item it ≡ true
part_waits P item.Send k st p e = refl
part_waits P item.Recv k st p e = refl
part_waits P item.RecvOk k st p e = refl
part_waits P (item.Pull n j) k st p e = refl
part_waits P (item.Pick n j) k st p e = refl
part_waits P it zero st p e = absurd cc
part_waits P it (suc k) st p e = absurd cc

control_lone : (P : Parts) (c : Config) (i k : ℕ) (f : Frame) (fs : List Frame) (is : List Item) (p : Part) → control_part P k f.stack is ≡ Some p → on_control P c i k f fs is ≡ lone P c i (control_sides P f fs is) (side_at (control_sides P f fs is) k)
control_lone P c i k f fs [] p e = absurd cc
control_lone P c i k f fs (it ∷ rest) p e = item_lone P c i k f fs it rest (part_waits P it k f.stack p e)

frames_lone : (P : Parts) (c : Config) (i k : ℕ) (b : Option Call) (fs : List Frame) (p : Part) → frames_part P k b fs ≡ Some p → on_frames P c i k b fs ≡ lone P c i (frame_sides P b fs) (side_at (frame_sides P b fs) k)
frames_lone P c i k (Some call) fs p e = absurd cc
frames_lone P c i k None [] p e = absurd cc
frames_lone P c i k None (f ∷ fs) p e = control_lone P c i k f fs f.control p e

goroutine_lone : (P : Parts) (c : Config) (i k : ℕ) (o : Option Goroutine) (p : Part) → goroutine_part P k o ≡ Some p → alone P c i k o ≡ lone P c i (sides_of P o) (side_at (sides_of P o) k)
goroutine_lone P c i k None p e = absurd cc
goroutine_lone P c i k (Some go) p e = frames_lone P c i k go.begin go.frames p e

-- ---- parts that are no default clause

lone_side : (P : Parts) (c : Config) (i : ℕ) (ss : Sides) (s : Side) → is_default s ≡ false → lone P c i ss s ≡ by_itself c s
unfolding lone
lone_side P c i ss Neither e = refl
lone_side P c i ss (Offers o v a p) e = refl
lone_side P c i ss (Wants o t) e = refl
lone_side P c i ss (Defaults a) e = absurd cc

frames_no_default : (p : Part) (fs : List Frame) → IsNoDefault p → is_default (frames_side p fs) ≡ false
frames_no_default p [] h = refl
frames_no_default (part.Offers a) (f ∷ fs) h = refl
frames_no_default (part.Wants w) (f ∷ fs) h = refl
frames_no_default (part.Default e) (f ∷ fs) h = absurd h

no_default : (p : Part) (o : Option Goroutine) → IsNoDefault p → is_default (goroutine_side p o) ≡ false
no_default p None h = refl
no_default p (Some go) h = frames_no_default p go.frames h

pub part_alone : (P : Parts) (c : Config) (i k : ℕ) (p : Part) → goroutine_part P k (slice_get c.goroutines i) ≡ Some p → IsNoDefault p → lone_at c i p ≡ alone_by P c i k
part_alone P c i k p e h =
    let o : Option Goroutine = slice_get c.goroutines i in
    sym (ap (option_map (arrive c i)) (goroutine_lone P c i k o p e
    ∙ ap (lone P c i (sides_of P o)) (sided P k o p e)
    ∙ lone_side P c i (sides_of P o) (goroutine_side p o) (no_default p o h)))

-- ---- a default clause

only_some : (b : Bool) (m : Move) → is_some (if b then None else Some m) ≡ true → (if b then None else Some m) ≡ Some m
only_some true m e = absurd cc
only_some false m e = refl

lone_default : (P : Parts) (c : Config) (i : ℕ) (ss : Sides) (after : Goroutine) → is_some (lone P c i ss (Defaults after)) ≡ true → lone P c i ss (Defaults after) ≡ Some (moved c after)
unfolding lone
lone_default P c i ss after e = only_some (list_any (is_ready P c i) (listed ss)) (moved c after) e

default_side : (entry : Entry) (o : Option Goroutine) → GoroutineFits (part.Default entry) o → goroutine_side (part.Default entry) o ≡ Defaults (gone_by entry.pops entry.items o)
default_side entry o fits =
    let at = fitting (part.Default entry) o fits in
    subst (λ x. goroutine_side (part.Default entry) x ≡ Defaults (gone_by entry.pops entry.items x)) (sym at.2) refl

pub default_alone : (P : Parts) (c : Config) (i k : ℕ) (entry : Entry) → goroutine_part P k (slice_get c.goroutines i) ≡ Some (part.Default entry) → is_some (alone P c i k (slice_get c.goroutines i)) ≡ true → alone_by P c i k ≡ Some (entered c i entry)
default_alone P c i k entry e some =
    let o : Option Goroutine = slice_get c.goroutines i in
    let is : alone P c i k o ≡ lone P c i (sides_of P o) (Defaults (gone_by entry.pops entry.items o)) =
    goroutine_lone P c i k o (part.Default entry) e
    ∙ ap (lone P c i (sides_of P o)) (sided P k o (part.Default entry) e ∙ default_side entry o (part_fits P k o (part.Default entry) e)) in
    ap (option_map (arrive c i)) (is ∙ lone_default P c i (sides_of P o) (gone_by entry.pops entry.items o) (sym (ap is_some is) ∙ some))
    ∙ ap (λ l. Some (record c { goroutines = l })) (append-nil (slice_set c.goroutines i (gone_by entry.pops entry.items o)))

pub enters : (c : Config) (i : ℕ) (entry : Entry) (go hole : Goroutine) (one two : List Goroutine) (fs : List Frame) → slice_get c.goroutines i ≡ Some go → GoroutineFits (part.Default entry) (slice_get c.goroutines i) → one ≡ slice_set c.goroutines i hole → fs ≡ gone_in entry.pops entry.items go.frames → two ≡ slice_set one i (record go { frames = fs }) → record c { goroutines = two } ≡ entered c i entry
enters c i entry go hole one two fs at fits a gone b =
    let after : record go { frames = fs } ≡ gone_by entry.pops entry.items (slice_get c.goroutines i) =
    ap (λ o. record { begin = o; frames = fs }) (begun_by (part.Default entry) (slice_get c.goroutines i) go at fits) ∙ ap running gone ∙ sym (ap (gone_by entry.pops entry.items) at) in
    ap (λ l. record c { goroutines = l }) (b ∙ ap (λ l. slice_set l i (record go { frames = fs })) a ∙ set-set c.goroutines i hole (record go { frames = fs }) ∙ ap (slice_set c.goroutines i) after)

pub enter_back : (c : Config) (i : ℕ) (go hole : Goroutine) (one two : List Goroutine) (fs : List Frame) → slice_get c.goroutines i ≡ Some go → one ≡ slice_set c.goroutines i hole → fs ≡ go.frames → two ≡ slice_set one i (record go { frames = fs }) → record c { goroutines = two } ≡ c
enter_back c i go hole one two fs at a same b =
    ap (λ l. record c { goroutines = l }) (b ∙ ap (λ l. slice_set l i (record go { frames = fs })) a ∙ ap (λ l. slice_set (slice_set c.goroutines i hole) i (record go { frames = l })) same ∙ restored c.goroutines i hole go at)

no_move : (o : Option Move) → is_some o ≡ false → o ≡ None
no_move None e = refl
no_move (Some m) e = absurd cc

pub no_step : (P : Parts) (c : Config) (i k : ℕ) → is_some (alone P c i k (slice_get c.goroutines i)) ≡ false → alone_by P c i k ≡ None
no_step P c i k e = ap (option_map (arrive c i)) (no_move (alone P c i k (slice_get c.goroutines i)) e)

-- ---- without a part

nothing_by_itself : (P : Parts) (c : Config) (i : ℕ) (ss : Sides) → lone P c i ss Neither ≡ None
unfolding lone
nothing_by_itself P c i ss = refl

-- an item that waits has no step without a part
none_waits : (P : Parts) (c : Config) (i k : ℕ) (f : Frame) (fs : List Frame) (it : Item) (rest : List Item) → waits_item it ≡ true → side_at (item_sides P it f fs rest) k ≡ Neither → on_item P c i k f fs it rest ≡ None
none_waits P c i k f fs it rest e s = item_lone P c i k f fs it rest e ∙ ap (lone P c i (item_sides P it f fs rest)) s ∙ nothing_by_itself P c i (item_sides P it f fs rest)

-- and no item a later clause
later_item : (P : Parts) (c : Config) (i k : ℕ) (f : Frame) (fs : List Frame) (it : Item) (rest : List Item) → side_at (item_sides P it f fs rest) (suc k) ≡ Neither → on_item P c i (suc k) f fs it rest ≡ None
later_item P c i k f fs it rest s =
    or_none (lone P c i (item_sides P it f fs rest) (side_at (item_sides P it f fs rest) (suc k)))
    ∙ ap (lone P c i (item_sides P it f fs rest)) s ∙ nothing_by_itself P c i (item_sides P it f fs rest)

later_control : (P : Parts) (c : Config) (i k : ℕ) (f : Frame) (fs : List Frame) (is : List Item) → side_at (control_sides P f fs is) (suc k) ≡ Neither → on_control P c i (suc k) f fs is ≡ None
later_control P c i k f fs [] s = refl
later_control P c i k f fs (it ∷ rest) s = later_item P c i k f fs it rest s

later_frames : (P : Parts) (c : Config) (i k : ℕ) (b : Option Call) (fs : List Frame) → side_at (frame_sides P b fs) (suc k) ≡ Neither → on_frames P c i (suc k) b fs ≡ None
later_frames P c i k (Some call) fs s = refl
later_frames P c i k None [] s = refl
later_frames P c i k None (f ∷ fs) s = later_control P c i k f fs f.control s

later_goroutine : (P : Parts) (c : Config) (i k : ℕ) (o : Option Goroutine) → side_at (sides_of P o) (suc k) ≡ Neither → alone P c i (suc k) o ≡ None
later_goroutine P c i k None s = refl
later_goroutine P c i k (Some go) s = later_frames P c i k go.begin go.frames s

pub later_none : (P : Parts) (c : Config) (i k : ℕ) → k ≢ 0 → goroutine_part P k (slice_get c.goroutines i) ≡ None → alone_by P c i k ≡ None
later_none P c i zero h e = absurd (h refl)
later_none P c i (suc k) h e = ap (option_map (arrive c i)) (later_goroutine P c i k (slice_get c.goroutines i) (sided_none P (suc k) (slice_get c.goroutines i) e))

waiting_control : (P : Parts) (c : Config) (i k : ℕ) (f : Frame) (fs : List Frame) (is : List Item) → waits_control is ≡ true → side_at (control_sides P f fs is) k ≡ Neither → on_control P c i k f fs is ≡ None
waiting_control P c i k f fs [] w s = absurd cc
waiting_control P c i k f fs (it ∷ rest) w s = none_waits P c i k f fs it rest w s

waiting_frames : (P : Parts) (c : Config) (i k : ℕ) (b : Option Call) (fs : List Frame) → waits_frames b fs ≡ true → side_at (frame_sides P b fs) k ≡ Neither → on_frames P c i k b fs ≡ None
waiting_frames P c i k (Some call) fs w s = absurd cc
waiting_frames P c i k None [] w s = absurd cc
waiting_frames P c i k None (f ∷ fs) w s = waiting_control P c i k f fs f.control w s

waiting_goroutine : (P : Parts) (c : Config) (i k : ℕ) (o : Option Goroutine) → waits o ≡ true → side_at (sides_of P o) k ≡ Neither → alone P c i k o ≡ None
waiting_goroutine P c i k None w s = absurd cc
waiting_goroutine P c i k (Some go) w s = waiting_frames P c i k go.begin go.frames w s

pub waiting_none : (P : Parts) (c : Config) (i k : ℕ) → waits (slice_get c.goroutines i) ≡ true → goroutine_part P k (slice_get c.goroutines i) ≡ None → alone_by P c i k ≡ None
waiting_none P c i k w e = ap (option_map (arrive c i)) (waiting_goroutine P c i k (slice_get c.goroutines i) w (sided_none P k (slice_get c.goroutines i) e))

-- ---- an item that needs no channel

not_waiting_item : (it : Item) → waits_item it ≡ false → NeedsNoChannel it
not_waiting_item item.Send e = absurd cc
not_waiting_item item.Recv e = absurd cc
not_waiting_item item.RecvOk e = absurd cc
not_waiting_item (item.Pull n j) e = absurd cc
not_waiting_item (item.Pick n j) e = absurd cc
not_waiting_item it e = tt

not_waiting_control : (is : List Item) → waits_control is ≡ false → OfControl NeedsNoChannel is
not_waiting_control [] e = tt
not_waiting_control (it ∷ rest) e = not_waiting_item it e

not_waiting_frames : (b : Option Call) (fs : List Frame) → waits_frames b fs ≡ false → OfFrames NeedsNoChannel b fs
not_waiting_frames (Some call) fs e = tt
not_waiting_frames None [] e = tt
not_waiting_frames None (f ∷ fs) e = not_waiting_control f.control e

pub not_waiting : (o : Option Goroutine) → waits o ≡ false → GoesAlone o
not_waiting None e = tt
not_waiting (Some go) e = not_waiting_frames go.begin go.frames e

pub at_none : (P : Parts) (c : Config) (i k : ℕ) → k ≡ 0 → alone_at P c i ≡ alone_by P c i k
at_none P c i k e = ap (λ n. option_map (arrive c i) (alone P c i n (slice_get c.goroutines i))) (sym e)
