-- The part of a frame in a send, a receive or a `select`, as a step carries it out: how many values go off its stack, what
-- comes onto it, and the items that take the place of the head of its control.
use Rattle.std.specs.Prelude.{◌≡◌, ℕ, zero, suc, ◌-◌, ◌<◌, ◌≤◌, Bool, true, false, List, [], ◌∷◌, ◌++◌, length, drop, nat_le, slice_get, slice_index_or, Option, Some, None, option_and_then, if◌then◌else◌}
use Rattle.go_meaning.specs.declared.value.Value.{Value}
use Rattle.go_meaning.specs.declared.value.Value.TheVariants as value
use Rattle.go_meaning.specs.declared.expr.Target.{Target}
use Rattle.go_meaning.specs.declared.node.CommClause.{CommClause}
use Rattle.go_meaning.specs.declared.node.Comm.{Comm}
use Rattle.go_meaning.specs.declared.node.Comm.TheVariants as comm
use Rattle.go_meaning.specs.declared.node.NodeForm.{NodeForm}
use Rattle.go_meaning.specs.declared.node.NodeForm.TheVariants as node
use Rattle.go_meaning.specs.declared.item.Item.{Item}
use Rattle.go_meaning.specs.declared.item.Item.TheVariants.{Run, Pull, Pick, Leave, Send, Recv, RecvOk}
use Rattle.go_meaning.specs.declared.config.Call.{Call}
use Rattle.go_meaning.specs.declared.config.Frame.{Frame}
use Rattle.go_meaning.specs.declared.config.Goroutine.{Goroutine}
use Rattle.go_meaning.specs.Programs.{Parts, form_at}
use Rattle.go_meaning.specs.Moves.{running, assign_rest, set_slot, panicked}
use Rattle.go_meaning.specs.Channels.{Side, Neither, Offers, Wants, Defaults, Sides, send_closed, pick_operands, side_at, sides_of}
use Rattle.go_step.specs.Heads.{default_of_head}
use Rattle.go_step.specs.declared.parts.Taking.{Taking}
use Rattle.go_step.specs.declared.parts.Taking.TheVariants as taking
use Rattle.go_step.specs.declared.parts.Offer.{Offer}
use Rattle.go_step.specs.declared.parts.Want.{Want}
use Rattle.go_step.specs.declared.parts.Entry.{Entry}
use Rattle.go_step.specs.declared.parts.Part.{Part}
use Rattle.go_step.specs.declared.parts.Part.TheVariants as part

-- ---- what a part leaves of its frame

-- so many values go, and items take the place of the head
abbrev pub gone : ℕ → List Item → Frame → Frame
gone n items f = record f { stack = drop n f.stack; control = items ++ drop 1 f.control }

-- What is received comes in their place. A loop keeps its channel while it goes on, and its variable takes the value.
abbrev pub took : Taking → ℕ → List Item → Frame → Value → Bool → Frame
took taking.Nothing n items f v ok = gone n items f
took taking.One n items f v ok = record f { stack = v ∷ drop n f.stack; control = items ++ drop 1 f.control }
took taking.Both n items f v ok = record f { stack = value.Flag ok ∷ v ∷ drop n f.stack; control = items ++ drop 1 f.control }
took (taking.Loop t) n items f v true = record f { slots = set_slot t v f.slots; control = items ++ drop 1 f.control }
took (taking.Loop t) n items f v false = gone n [] f

-- ---- the side that a part is

abbrev pub offer_side : Offer → Frame → List Frame → Side
offer_side a f fs = Offers a.channel (slice_index_or f.stack a.below (value.Flag false)) (running (gone a.pops a.items f ∷ fs)) (panicked f fs send_closed)

abbrev pub want_side : Want → Frame → List Frame → Side
want_side w f fs = Wants w.channel (λ v ok. running (took w.taking w.pops w.items f v ok ∷ fs))

abbrev pub part_side : Part → Frame → List Frame → Side
part_side (part.Offers a) f fs = offer_side a f fs
part_side (part.Wants w) f fs = want_side w f fs
part_side (part.Default e) f fs = Defaults (running (gone e.pops e.items f ∷ fs))

abbrev pub side_by : Option Part → Frame → List Frame → Side
side_by None f fs = Neither
side_by (Some p) f fs = part_side p f fs

-- the frame has the values that a part takes
abbrev pub OfferFits : Offer → Frame → Type 0
OfferFits a f = (a.below < a.pops) × (a.pops ≤ length f.stack) × (0 < length f.control)

abbrev pub WantFits : Want → Frame → Type 0
WantFits w f = (0 < w.pops) × (w.pops ≤ length f.stack) × (0 < length f.control)

abbrev pub EntryFits : Entry → Frame → Type 0
EntryFits e f = 0 < length f.control

abbrev pub PartFits : Part → Frame → Type 0
PartFits (part.Offers a) f = OfferFits a f
PartFits (part.Wants w) f = WantFits w f
PartFits (part.Default e) f = EntryFits e f

-- ---- plain operations, by the stack

abbrev pub offer_part : List Value → Option Part
offer_part (v ∷ value.Channel o ∷ st) = Some (part.Offers (record { channel = o; below = 0; pops = 2; items = [] }))
offer_part st = None

abbrev pub want_part : Taking → List Item → List Value → Option Part
want_part t items (value.Channel o ∷ st) = Some (part.Wants (record { channel = o; taking = t; pops = 1; items = items }))
want_part t items st = None

abbrev pub pull_part : ℕ → ℕ → Option NodeForm → List Value → Option Part
pull_part n i (Some (node.RangeChannel t e l)) st = want_part (taking.Loop t) (Run l 0 ∷ Pull n i ∷ []) st
pull_part n i form st = None

abbrev pub plain_part : Parts → Item → List Value → Option Part
plain_part P Send st = offer_part st
plain_part P Recv st = want_part taking.One [] st
plain_part P RecvOk st = want_part taking.Both [] st
plain_part P (Pull n i) st = pull_part n i (form_at P n i) st
plain_part P item st = None

-- ---- clauses of a `select`

abbrev pub clause_items : List Target → ℕ → List Item
clause_items ts l = assign_rest ts ++ Run l 0 ∷ Leave ∷ []

abbrev pub taking_of : List Target → Taking
taking_of [] = taking.Nothing
taking_of (t ∷ []) = taking.One
taking_of (t ∷ u ∷ ts) = taking.Both

abbrev pub send_clause : ℕ → ℕ → ℕ → Option Value → Option Part
send_clause l n m (Some (value.Channel o)) = Some (part.Offers (record { channel = o; below = m - 2; pops = n; items = clause_items [] l }))
send_clause l n m o = None

abbrev pub receive_clause : List Target → ℕ → ℕ → Option Value → Option Part
receive_clause ts l n (Some (value.Channel o)) = Some (part.Wants (record { channel = o; taking = taking_of ts; pops = n; items = clause_items ts l }))
receive_clause ts l n o = None

-- by its list, the number of operands of all clauses, and that of its own and later clauses, the first of which lies deepest
abbrev pub comm_part : Comm → ℕ → ℕ → ℕ → List Value → Option Part
comm_part comm.Default l n m st = Some (part.Default (record { pops = n; items = clause_items [] l }))
comm_part (comm.Send a b) l n m st = send_clause l n m (slice_get st (m - 1))
comm_part (comm.Receive e ts) l n m st = receive_clause ts l n (slice_get st (m - 1))

abbrev pub clause_part : List CommClause → ℕ → Option CommClause → List Value → Option Part
clause_part cs k None st = None
clause_part cs k (Some c) st = comm_part c.comm c.list (pick_operands cs) (pick_operands (drop k cs)) st

abbrev pub pick_part : List CommClause → ℕ → List Value → Option Part
pick_part cs k st = if nat_le (pick_operands cs) (length st) then clause_part cs k (slice_get cs k) st else None

abbrev pub form_part : Option NodeForm → ℕ → List Value → Option Part
form_part (Some (node.Select cs)) k st = pick_part cs k st
form_part form k st = None

abbrev pub clause_part_of : Parts → Item → ℕ → List Value → Option Part
clause_part_of P (Pick n i) k st = form_part (form_at P n i) k st
clause_part_of P item k st = None

-- the part of an item and its clause, or 0
abbrev pub part_of : Parts → Item → ℕ → List Value → Option Part
part_of P item zero st = plain_part P item st
part_of P item (suc k) st = clause_part_of P item k st

abbrev pub PartsFit : Option Part → Frame → Type 0
PartsFit None f = Unit {0}
PartsFit (Some p) f = PartFits p f

-- the frame with this stack, at an item
abbrev pub at_item : Frame → List Value → Item → List Item → Frame
at_item f st item rest = record f { stack = st; control = item ∷ rest }

-- ---- the part of a goroutine

abbrev pub control_part : Parts → ℕ → List Value → List Item → Option Part
control_part P k st [] = None
control_part P k st (item ∷ rest) = part_of P item k st

abbrev pub frames_part : Parts → ℕ → Option Call → List Frame → Option Part
frames_part P k (Some call) fs = None
frames_part P k None [] = None
frames_part P k None (f ∷ fs) = control_part P k f.stack f.control

abbrev pub goroutine_part : Parts → ℕ → Option Goroutine → Option Part
goroutine_part P k None = None
goroutine_part P k (Some go) = frames_part P k go.begin go.frames

-- a `select` with a default clause is no partner
abbrev pub partner_part : Parts → ℕ → Option Goroutine → Option Part
partner_part P k o = if default_of_head P o then None else goroutine_part P k o

-- what it fits
abbrev pub FramesFit : Part → List Frame → Type 0
FramesFit p [] = ⊥
FramesFit p (f ∷ fs) = PartFits p f

abbrev pub BeginFits : Part → Option Call → List Frame → Type 0
BeginFits p (Some call) fs = ⊥
BeginFits p None fs = FramesFit p fs

abbrev pub GoroutineFits : Part → Option Goroutine → Type 0
GoroutineFits p None = ⊥
GoroutineFits p (Some go) = BeginFits p go.begin go.frames

-- its side
abbrev pub frames_side : Part → List Frame → Side
frames_side p [] = Neither
frames_side p (f ∷ fs) = part_side p f fs

abbrev pub goroutine_side : Part → Option Goroutine → Side
goroutine_side p None = Neither
goroutine_side p (Some go) = frames_side p go.frames

-- the items that wait for a channel
abbrev pub waits_item : Item → Bool
waits_item Send = true
waits_item Recv = true
waits_item RecvOk = true
waits_item (Pull n i) = true
waits_item (Pick n i) = true
waits_item item = false

abbrev pub waits_control : List Item → Bool
waits_control [] = false
waits_control (item ∷ rest) = waits_item item

abbrev pub waits_frames : Option Call → List Frame → Bool
waits_frames (Some call) fs = false
waits_frames None [] = false
waits_frames None (f ∷ fs) = waits_control f.control

-- whether the head of a goroutine that has begun is such an item
abbrev pub waits : Option Goroutine → Bool
waits None = false
waits (Some go) = waits_frames go.begin go.frames
