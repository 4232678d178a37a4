-- The step of a goroutine alone is what the act of its head item leaves.
use Rattle.std.proofs.Common.{◌≡◌, ℕ, ◌<◌, Bool, true, false, List, [], ◌∷◌, length, Option, Some, None, slice_get, refl, sym, ap, ◌∙◌, subst, arith}
use Rattle.std.specs.Prelude.{option_map, slice_set, drop, Result, Ok, Err}
use Rattle.std.proofs.lemmas.Option.{same_Some}
use Rattle.std.proofs.lemmas.List.{set-set, append-nil}
use Rattle.go_meaning.specs.declared.item.Item.{Item}
use Rattle.go_meaning.specs.declared.item.Item.TheVariants as item
use Rattle.go_meaning.specs.declared.act.Act.{Act}
use Rattle.go_meaning.specs.declared.config.Call.{Call}
use Rattle.go_meaning.specs.declared.config.Frame.{Frame}
use Rattle.go_meaning.specs.declared.config.Goroutine.{Goroutine}
use Rattle.go_meaning.specs.declared.config.Config.{Config}
use Rattle.go_meaning.specs.Programs.{Parts}
use Rattle.go_meaning.specs.Acts.{act_of}
use Rattle.go_meaning.specs.Channels.{lone}
use Rattle.go_meaning.specs.Fitting.{ActsFit, IsFitting}
use Rattle.go_meaning.specs.Moves.{Move, put}
use Rattle.go_meaning.specs.Steps.{arrive, alone, on_item, on_control, on_frames}
use Rattle.go_step.specs.Alone.{NeedsNoChannel, OfControl, OfFrames, GoesAlone, act_of_control, act_of_frames, act_of_head, has_begin, has_begin_by, alone_at}
use Rattle.go_step.specs.Beginning.{begins}
use Rattle.go_step.specs.Goroutines.{holed, put_goroutine, put_goroutine_by, put_at, FitsBy, FitsFrames, FitsGoroutine}

item_alone : (P : Parts) (c : Config) (i : ℕ) (f : Frame) (fs : List Frame) (it : Item) (rest : List Item) → NeedsNoChannel it → on_item P c i 0 f fs it rest ≡ put P c i f fs rest (act_of P c it f.slots f.stack)
unfolding lone
item_alone P c i f fs item.Leave rest h = refl
item_alone P c i f fs item.Send rest h = absurd h
item_alone P c i f fs item.Recv rest h = absurd h
item_alone P c i f fs item.RecvOk rest h = absurd h
item_alone P c i f fs (item.Pull n k) rest h = absurd h
item_alone P c i f fs (item.Pick n k) rest h = absurd h
item_alone P c i f fs it rest h = refl

control_alone : (P : Parts) (c : Config) (i : ℕ) (f : Frame) (fs : List Frame) (a : Act) (is : List Item) → f.control ≡ is → OfControl NeedsNoChannel is → act_of_control P c f is ≡ Some a → on_control P c i 0 f fs is ≡ put P c i f fs (drop 1 f.control) a
control_alone P c i f fs a [] e h s = absurd cc
control_alone P c i f fs a (it ∷ rest) e h s =
    item_alone P c i f fs it rest h ∙ ap (put P c i f fs rest) (same_Some (act_of P c it f.slots f.stack) a s) ∙ ap (λ l. put P c i f fs (drop 1 l) a) (sym e)

frames_alone : (P : Parts) (c : Config) (i : ℕ) (a : Act) (b : Option Call) (fs : List Frame) → OfFrames NeedsNoChannel b fs → act_of_frames P c b fs ≡ Some a → on_frames P c i 0 b fs ≡ put_goroutine_by P c i b fs a
frames_alone P c i a (Some call) fs h e = absurd cc
frames_alone P c i a None [] h e = absurd cc
frames_alone P c i a None (f ∷ fs) h e = control_alone P c i f fs a f.control refl h e

goroutine_alone : (P : Parts) (c : Config) (i : ℕ) (a : Act) (o : Option Goroutine) → GoesAlone o → act_of_head P c o ≡ Some a → alone P c i 0 o ≡ put_goroutine P c i a o
goroutine_alone P c i a None h e = absurd cc
goroutine_alone P c i a (Some go) h e = frames_alone P c i a go.begin go.frames h e

pub put_alone : (P : Parts) (c : Config) (i : ℕ) (a : Act) → GoesAlone (slice_get c.goroutines i) → act_of_head P c (slice_get c.goroutines i) ≡ Some a → put_at P c i a ≡ alone_at P c i
put_alone P c i a h e = sym (ap (option_map (arrive c i)) (goroutine_alone P c i a (slice_get c.goroutines i) h e))

-- without an item there is no step
control_none : (P : Parts) (c : Config) (i : ℕ) (f : Frame) (fs : List Frame) (is : List Item) → act_of_control P c f is ≡ None → on_control P c i 0 f fs is ≡ None
control_none P c i f fs [] e = refl
control_none P c i f fs (it ∷ rest) e = absurd cc

frames_none : (P : Parts) (c : Config) (i : ℕ) (b : Option Call) (fs : List Frame) → has_begin_by b ≡ false → act_of_frames P c b fs ≡ None → on_frames P c i 0 b fs ≡ None
frames_none P c i (Some call) fs h e = absurd cc
frames_none P c i None [] h e = refl
frames_none P c i None (f ∷ fs) h e = control_none P c i f fs f.control e

goroutine_none : (P : Parts) (c : Config) (i : ℕ) (o : Option Goroutine) → has_begin o ≡ false → act_of_head P c o ≡ None → alone P c i 0 o ≡ None
goroutine_none P c i None h e = refl
goroutine_none P c i (Some go) h e = frames_none P c i go.begin go.frames h e

pub none_alone : (P : Parts) (c : Config) (i : ℕ) → has_begin (slice_get c.goroutines i) ≡ false → act_of_head P c (slice_get c.goroutines i) ≡ None → alone_at P c i ≡ None
none_alone P c i h e = ap (option_map (arrive c i)) (goroutine_none P c i (slice_get c.goroutines i) h e)

-- what an item does fits its frame
control_fits : (P : Parts) (c : Config) (f : Frame) (fs : List Frame) (a : Act) (is : List Item) → ActsFit → f.control ≡ is → act_of_control P c f is ≡ Some a → FitsFrames a c (f ∷ fs)
control_fits P c f fs a [] law e s = absurd cc
control_fits P c f fs a (it ∷ rest) law e s =
    (omega (arith, ap length e), subst (λ b. IsFitting b c f.stack) (same_Some (act_of P c it f.slots f.stack) a s) (law P c it f.slots f.stack))

frames_fit : (P : Parts) (c : Config) (a : Act) (b : Option Call) (fs : List Frame) → ActsFit → act_of_frames P c b fs ≡ Some a → FitsBy a c b fs
frames_fit P c a (Some call) fs law e = absurd cc
frames_fit P c a None [] law e = absurd cc
frames_fit P c a None (f ∷ fs) law e = control_fits P c f fs a f.control law refl e

pub head_fits : (P : Parts) (c : Config) (a : Act) (o : Option Goroutine) → ActsFit → act_of_head P c o ≡ Some a → FitsGoroutine a c o
head_fits P c a None law e = absurd cc
head_fits P c a (Some go) law e = frames_fit P c a go.begin go.frames law e

-- ---- the first step

begins_by : (P : Parts) (c : Config) (i : ℕ) (b : Option Call) (fs : List Frame) (new : Goroutine) → begins P b ≡ Some new → on_frames P c i 0 b fs ≡ Some (record { world = c; after = new; born = [] })
begins_by P c i None fs new e = absurd cc
begins_by P c i (Some call) fs new e = ap (option_map (λ (g : Goroutine). let m : Move = record { world = c; after = g; born = [] } in m)) e

pub begin_leads : (P : Parts) (c : Config) (i : ℕ) (go hole new : Goroutine) → slice_get c.goroutines i ≡ Some go → begins P go.begin ≡ Some new → alone_at P c i ≡ Some (holed (slice_set (slice_set c.goroutines i hole) i new) c)
begin_leads P c i go hole new at e =
    ap (λ o. option_map (arrive c i) (alone P c i 0 o)) at ∙ ap (option_map (arrive c i)) (begins_by P c i go.begin go.frames new e)
    ∙ ap (λ l. Some (holed l c)) (append-nil (slice_set c.goroutines i new) ∙ sym (set-set c.goroutines i hole new))
