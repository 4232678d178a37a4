-- One step of a configuration.
use Rattle.std.specs.Prelude.{ℕ, zero, suc, false, ◌==◌, List, [], ◌∷◌, ◌++◌, slice_get, slice_set, Option, Some, None, option_map, if◌then◌else◌}
use Rattle.std.specs.Option.{option_or}
use Rattle.go_meaning.specs.declared.node.NodeForm.{NodeForm}
use Rattle.go_meaning.specs.declared.node.NodeForm.TheVariants as node
use Rattle.go_meaning.specs.declared.item.Item.{Item}
use Rattle.go_meaning.specs.declared.item.Item.TheVariants.{Run}
use Rattle.go_meaning.specs.declared.event.Event.{Event}
use Rattle.go_meaning.specs.declared.event.Event.TheVariants.{Step, Count}
use Rattle.go_meaning.specs.declared.config.Call.{Call}
use Rattle.go_meaning.specs.declared.config.Frame.{Frame}
use Rattle.go_meaning.specs.declared.config.Goroutine.{Goroutine}
use Rattle.go_meaning.specs.declared.config.Config.{Config}
use Rattle.go_meaning.specs.Programs.{Parts, form_at}
use Rattle.go_meaning.specs.Acts.{act_of}
use Rattle.go_meaning.specs.Moves.{Move, moved, running, new_frame, put}
use Rattle.go_meaning.specs.Channels.{item_sides, side_at, sides_of, partner_sides, exchange, lone}

-- ---- a step of one goroutine alone: its index, and the clause that it takes or 0

-- where there is no clause to be named
abbrev pub at_zero : {A : Type 0} → ℕ → Option A → Option A
at_zero zero o = o
at_zero (suc k) o = None

-- the head item sends or receives, or else does what its act says
abbrev pub on_item : Parts → Config → ℕ → ℕ → Frame → List Frame → Item → List Item → Option Move
on_item P c i k f fs item rest =
    let ss = item_sides P item f fs rest in
    option_or (lone P c i ss (side_at ss k)) (at_zero k (put P c i f fs rest (act_of P c item f.slots f.stack)))

abbrev pub on_control : Parts → Config → ℕ → ℕ → Frame → List Frame → List Item → Option Move
on_control P c i k f fs [] = None
on_control P c i k f fs (item ∷ rest) = on_item P c i k f fs item rest

-- the first step makes the frame of the goroutine's function
abbrev pub on_frames : Parts → Config → ℕ → ℕ → Option Call → List Frame → Option Move
on_frames P c i k (Some call) fs = at_zero k (Some (moved c (running (new_frame P call.function call.args false ∷ []))))
on_frames P c i k None [] = None
on_frames P c i k None (f ∷ fs) = on_control P c i k f fs f.control

abbrev pub alone : Parts → Config → ℕ → ℕ → Option Goroutine → Option Move
alone P c i k None = None
alone P c i k (Some go) = on_frames P c i k go.begin go.frames

abbrev pub arrive : Config → ℕ → Move → Config
arrive c i m = record m.world { goroutines = slice_set c.goroutines i m.after ++ m.born }

-- ---- an unbuffered exchange of two goroutines

abbrev pub together : Parts → Config → ℕ → ℕ → Option Goroutine → Option Goroutine → Option (Goroutine × Goroutine)
together P c k q a b = exchange c (side_at (sides_of P a) k) (side_at (partner_sides (sides_of P b)) q)

abbrev pub arrive_both : Config → ℕ → ℕ → Goroutine × Goroutine → Config
arrive_both c i j p = record c { goroutines = slice_set (slice_set c.goroutines i p.0) j p.1 }

-- ---- a counter step

abbrev pub count_of : Option NodeForm → Option ℕ
count_of (Some (node.Count u)) = Some u
count_of form = None

abbrev pub due_item : Parts → List Item → Option ℕ
due_item P (Run n i ∷ rest) = count_of (form_at P n i)
due_item P is = None

abbrev pub due_frames : Parts → Option Call → List Frame → Option ℕ
due_frames P (Some call) fs = None
due_frames P None [] = None
due_frames P None (f ∷ fs) = due_item P f.control

-- the unit at whose counter a goroutine stands
abbrev pub due : Parts → Option Goroutine → Option ℕ
due P None = None
due P (Some go) = due_frames P go.begin go.frames

-- past the counter
abbrev pub past_item : List Item → List Item
past_item (Run n i ∷ rest) = Run n (suc i) ∷ rest
past_item is = is

abbrev pub past_frames : List Frame → List Frame
past_frames [] = []
past_frames (f ∷ fs) = record f { control = past_item f.control } ∷ fs

abbrev pub counted_at : ℕ → Option Goroutine → Option ℕ → Option Goroutine
counted_at u (Some go) (Some w) = if w == u then Some (record go { frames = past_frames go.frames }) else None
counted_at u go w = None

abbrev pub arrive_one : Config → ℕ → Goroutine → Config
arrive_one c i go = record c { goroutines = slice_set c.goroutines i go }

-- ---- goroutine 1 has index 0

abbrev pub numbered : Config → ℕ → Option Goroutine
numbered c zero = None
numbered c (suc i) = slice_get c.goroutines i

-- One next configuration, or none: of the goroutine, its clause, its partner and the partner's clause, where 0 is none.
unfoldable pub step : Parts → Config → Event → Option Config
step P c (Step zero k p q) = None
step P c (Step (suc i) k zero zero) = option_map (arrive c i) (alone P c i k (slice_get c.goroutines i))
step P c (Step (suc i) k zero (suc q)) = None
step P c (Step (suc i) k (suc j) q) =
    if i == j then None else option_map (arrive_both c i j) (together P c k q (slice_get c.goroutines i) (slice_get c.goroutines j))
step P c (Count zero u) = None
step P c (Count (suc i) u) = option_map (arrive_one c i) (counted_at u (slice_get c.goroutines i) (due P (slice_get c.goroutines i)))
