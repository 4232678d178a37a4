-- A step of one goroutine that needs no channel.
use Rattle.std.specs.Prelude.{ℕ, Bool, true, false, List, [], ◌∷◌, slice_get, Option, Some, None, option_map}
use Rattle.go_meaning.specs.declared.item.Item.{Item}
use Rattle.go_meaning.specs.declared.item.Item.TheVariants as item
use Rattle.go_meaning.specs.declared.act.Act.{Act}
use Rattle.go_meaning.specs.declared.config.Call.{Call}
use Rattle.go_meaning.specs.declared.config.Frame.{Frame}
use Rattle.go_meaning.specs.declared.config.Goroutine.{Goroutine}
use Rattle.go_meaning.specs.declared.config.Config.{Config}
use Rattle.go_meaning.specs.Programs.{Parts}
use Rattle.go_meaning.specs.Acts.{act_of}
use Rattle.go_meaning.specs.Steps.{arrive, alone}

-- the items that wait for no channel
abbrev pub NeedsNoChannel : Item → Type 0
NeedsNoChannel item.Send = ⊥
NeedsNoChannel item.Recv = ⊥
NeedsNoChannel item.RecvOk = ⊥
NeedsNoChannel (item.Pull n i) = ⊥
NeedsNoChannel (item.Pick n i) = ⊥
NeedsNoChannel it = Unit {0}

-- what is true of the item at the head of a goroutine that has begun
abbrev pub OfControl : (Item → Type 0) → List Item → Type 0
OfControl p [] = Unit {0}
OfControl p (it ∷ rest) = p it

abbrev pub OfFrames : (Item → Type 0) → Option Call → List Frame → Type 0
OfFrames p (Some call) fs = Unit {0}
OfFrames p None [] = Unit {0}
OfFrames p None (f ∷ fs) = OfControl p f.control

abbrev pub OfHead : (Item → Type 0) → Option Goroutine → Type 0
OfHead p None = Unit {0}
OfHead p (Some go) = OfFrames p go.begin go.frames

abbrev pub GoesAlone : Option Goroutine → Type 0
GoesAlone o = OfHead NeedsNoChannel o

-- what that item does
abbrev pub act_of_control : Parts → Config → Frame → List Item → Option Act
act_of_control P c f [] = None
act_of_control P c f (it ∷ rest) = Some (act_of P c it f.slots f.stack)

abbrev pub act_of_frames : Parts → Config → Option Call → List Frame → Option Act
act_of_frames P c (Some call) fs = None
act_of_frames P c None [] = None
act_of_frames P c None (f ∷ fs) = act_of_control P c f f.control

abbrev pub act_of_head : Parts → Config → Option Goroutine → Option Act
act_of_head P c None = None
act_of_head P c (Some go) = act_of_frames P c go.begin go.frames

abbrev pub has_begin_by : Option Call → Bool
has_begin_by None = false
has_begin_by (Some call) = true

abbrev pub has_begin : Option Goroutine → Bool
has_begin None = false
has_begin (Some go) = has_begin_by go.begin

-- the step of the goroutine with this index alone
abbrev pub alone_at : Parts → Config → ℕ → Option Config
alone_at P c i = option_map (arrive c i) (alone P c i 0 (slice_get c.goroutines i))
