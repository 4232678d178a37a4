-- What sends and receives leave of the frames and channels that they reach.
use Rattle.std.specs.Prelude.{◌≡◌, ℕ, suc, ◌<◌, Bool, true, false, List, [], ◌∷◌, ◌++◌, take, drop, slice_get, slice_set, slice_index_or, Option, Some, None, option_map, Result, Ok, Err}
use Rattle.std.specs.declared.alloc.AllocError.{AllocError}
use Rattle.go_meaning.specs.declared.value.Value.{Value}
use Rattle.go_meaning.specs.declared.value.Value.TheVariants as value
use Rattle.go_meaning.specs.declared.value.Channel.{Channel}
use Rattle.go_meaning.specs.declared.item.Item.{Item}
use Rattle.go_meaning.specs.declared.config.Frame.{Frame}
use Rattle.go_meaning.specs.declared.config.Goroutine.{Goroutine}
use Rattle.go_meaning.specs.declared.config.Config.{Config}
use Rattle.go_meaning.specs.Moves.{Move, moved, running, set_slot}
use Rattle.go_meaning.specs.Programs.{Parts}
use Rattle.go_meaning.specs.Steps.{arrive, alone, together, arrive_both}
use Rattle.go_meaning.specs.Channels.{by_itself, exchange}
use Rattle.go_step.specs.declared.parts.Taking.{Taking}
use Rattle.go_step.specs.declared.parts.Taking.TheVariants as taking
use Rattle.go_step.specs.declared.parts.Want.{Want}
use Rattle.go_step.specs.declared.parts.Entry.{Entry}
use Rattle.go_step.specs.declared.parts.Part.{Part}
use Rattle.go_step.specs.declared.parts.Part.TheVariants as part
use Rattle.go_step.specs.Parts.{gone, took, part_side, frames_side, goroutine_side}

-- ---- room

-- items under the head
abbrev pub tucked : List Item → List Item → List Item
tucked items is = take 1 is ++ items ++ drop 1 is

-- with room for one value more
abbrev pub prepared : List Item → Frame → Frame
prepared items f = record f { stack = value.Flag false ∷ f.stack; control = tucked items f.control }

-- so many items under the head go
abbrev pub untucked : ℕ → List Item → List Item
untucked k is = take 1 is ++ drop k (drop 1 is)

abbrev pub restored : ℕ → Frame → Frame
restored k f = record f { stack = drop 1 f.stack; control = untucked k f.control }

-- what a receive leaves of a frame with room, whose items under the head are so many
abbrev pub finished : Taking → ℕ → ℕ → Value → Bool → Frame → Frame
finished taking.Nothing n k v ok f = record f { stack = drop n (drop 1 f.stack); control = drop 1 f.control }
finished taking.One n k v ok f = record f { stack = v ∷ drop n (drop 1 f.stack); control = drop 1 f.control }
finished taking.Both n k v ok f = record f { stack = value.Flag ok ∷ v ∷ drop (suc n) f.stack; control = drop 1 f.control }
finished (taking.Loop t) n k v true f = record f { slots = set_slot t v f.slots; stack = drop 1 f.stack; control = drop 1 f.control }
finished (taking.Loop t) n k v false f = record f { stack = drop n (drop 1 f.stack); control = drop k (drop 1 f.control) }

-- the value that is sent
abbrev pub sent : ℕ → Frame → Value
sent n f = slice_index_or f.stack n (value.Flag false)

-- ---- channels

-- a channel takes a value
abbrev pub pushed_at : List Channel → ℕ → Value → Option Channel → List Channel
pushed_at cs k v None = cs
pushed_at cs k v (Some ch) = slice_set cs k (record ch { values = ch.values ++ v ∷ [] })

-- a channel gives its oldest value
abbrev pub PopsAt : List Channel → ℕ → Option Channel → Value → List Channel → Type 0
PopsAt cs k None v ds = ⊥
PopsAt cs k (Some ch) v ds = (vs : List Value) × (ch.values ≡ v ∷ vs) × (ds ≡ slice_set cs k (record ch { values = vs }))

abbrev pub Holds : List Value → Type 0
Holds [] = ⊥
Holds (v ∷ vs) = Unit {0}

abbrev pub HoldsAt : Option Channel → Type 0
HoldsAt None = ⊥
HoldsAt (Some ch) = Holds ch.values

-- a frame takes a channel's oldest value
abbrev pub TakesAt : Want → List Channel → ℕ → Frame → List Channel → Frame → Type 0
TakesAt w cs k f ds g = (v : Value) × (PopsAt cs k (slice_get cs k) v ds) × (g ≡ took w.taking w.pops w.items f v true)

-- ---- by itself

-- A part leaves other channels and another frame, or has no step. An `Err` changes nothing.
abbrev pub GoesBy : Part → List Channel → Frame → Result Bool AllocError → List Channel → Frame → Type 0
GoesBy p cs f (Ok true) ds g =
    (c : Config) (fs : List Frame) → by_itself (record c { channels = cs }) (part_side p f fs) ≡ Some (moved (record c { channels = ds }) (running (g ∷ fs)))
GoesBy p cs f (Ok false) ds g =
    ((c : Config) (fs : List Frame) → by_itself (record c { channels = cs }) (part_side p f fs) ≡ None) × (ds ≡ cs) × (g ≡ f)
GoesBy p cs f (Err e) ds g = (ds ≡ cs) × (g ≡ f)

abbrev pub FramesGo : Part → List Channel → List Frame → Result Bool AllocError → List Channel → List Frame → Type 0
FramesGo p cs fs (Ok true) ds gs =
    (c : Config) → by_itself (record c { channels = cs }) (frames_side p fs) ≡ Some (moved (record c { channels = ds }) (running gs))
FramesGo p cs fs (Ok false) ds gs =
    ((c : Config) → by_itself (record c { channels = cs }) (frames_side p fs) ≡ None) × (ds ≡ cs) × (gs ≡ fs)
FramesGo p cs fs (Err e) ds gs = (ds ≡ cs) × (gs ≡ fs)

-- the step of the goroutine with this index by its part
abbrev pub lone_at : Config → ℕ → Part → Option Config
lone_at c i p = option_map (arrive c i) (by_itself c (goroutine_side p (slice_get c.goroutines i)))

-- ---- the goroutine after

abbrev pub gone_in : ℕ → List Item → List Frame → List Frame
gone_in n items [] = []
gone_in n items (f ∷ fs) = gone n items f ∷ fs

abbrev pub took_in : Want → Value → List Frame → List Frame
took_in w v [] = []
took_in w v (f ∷ fs) = took w.taking w.pops w.items f v true ∷ fs

abbrev pub sent_in : ℕ → List Frame → Value
sent_in n [] = value.Flag false
sent_in n (f ∷ fs) = sent n f

abbrev pub gone_by : ℕ → List Item → Option Goroutine → Goroutine
gone_by n items None = running []
gone_by n items (Some go) = running (gone_in n items go.frames)

abbrev pub took_by : Want → Value → Option Goroutine → Goroutine
took_by w v None = running []
took_by w v (Some go) = running (took_in w v go.frames)

abbrev pub sent_by : ℕ → Option Goroutine → Value
sent_by n None = value.Flag false
sent_by n (Some go) = sent_in n go.frames

-- the step of the goroutine with this index alone, and its clause
abbrev pub alone_by : Parts → Config → ℕ → ℕ → Option Config
alone_by P c i k = option_map (arrive c i) (alone P c i k (slice_get c.goroutines i))

-- the exchange of two parts
abbrev pub exchange_by : Config → ℕ → ℕ → Part → Part → Option Config
exchange_by c i j p q = option_map (arrive_both c i j) (exchange c (goroutine_side p (slice_get c.goroutines i)) (goroutine_side q (slice_get c.goroutines j)))

-- the exchange of two goroutines and their clauses
abbrev pub both_at : Parts → Config → ℕ → ℕ → ℕ → ℕ → Option Config
both_at P c i k j q = option_map (arrive_both c i j) (together P c k q (slice_get c.goroutines i) (slice_get c.goroutines j))

-- the parts that are no default clause
abbrev pub IsNoDefault : Part → Type 0
IsNoDefault (part.Offers a) = Unit {0}
IsNoDefault (part.Wants w) = Unit {0}
IsNoDefault (part.Default e) = ⊥

-- the goroutine with this index after its default clause is taken
abbrev pub entered : Config → ℕ → Entry → Config
entered c i e = record c { goroutines = slice_set c.goroutines i (gone_by e.pops e.items (slice_get c.goroutines i)) }
