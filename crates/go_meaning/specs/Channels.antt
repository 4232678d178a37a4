-- What sends and receives do. Go specification, "Send statements", "Receive operator", "Select statements", "For statements
-- with range clause".
use Rattle.std.specs.Prelude.{ℕ, zero, suc, Bool, true, false, not, ◌==◌, ◌&&◌, ◌||◌, List, [], ◌∷◌, ◌++◌, length, take, drop, sum_by, slice_set, slice_index_or, nat_lt, Option, Some, None, is_some, codes, if◌then◌else◌}
use Rattle.std.specs.List.{list_any}
use Rattle.go_meaning.specs.declared.value.Value.{Value}
use Rattle.go_meaning.specs.declared.value.Value.TheVariants as value
use Rattle.go_meaning.specs.declared.value.Channel.{Channel}
use Rattle.go_meaning.specs.declared.expr.Target.{Target}
use Rattle.go_meaning.specs.declared.node.CommClause.{CommClause}
use Rattle.go_meaning.specs.declared.node.Comm.{Comm}
use Rattle.go_meaning.specs.declared.node.Comm.TheVariants as comm
use Rattle.go_meaning.specs.declared.node.NodeForm.{NodeForm}
use Rattle.go_meaning.specs.declared.node.NodeForm.TheVariants as node
use Rattle.go_meaning.specs.declared.item.Item.{Item}
use Rattle.go_meaning.specs.declared.item.Item.TheVariants.{Run, Pull, Pick, Leave, Send, Recv, RecvOk}
use Rattle.go_meaning.specs.declared.config.Call.{Call}
use Rattle.go_meaning.specs.declared.config.Frame.{Frame}
use Rattle.go_meaning.specs.declared.config.Goroutine.{Goroutine}
use Rattle.go_meaning.specs.declared.config.Config.{Config}
use Rattle.go_meaning.specs.Programs.{Parts, form_at}
use Rattle.go_meaning.specs.Operations.{channel_at}
use Rattle.go_meaning.specs.Moves.{Move, moved, running, assign_rest, set_slot, panicked, taken, Taken}

-- what a goroutine is about to do with a channel, and the goroutine after it
pub data Side : Type 0 where
  Neither : Side
  -- it sends, or panics where the channel is closed
  Offers : (channel : Option ℕ) (v : Value) (after panicking : Goroutine) → Side
  -- it takes a value, and learns whether that was sent
  Wants : (channel : Option ℕ) (after : Value → Bool → Goroutine) → Side
  -- the default clause
  Defaults : (after : Goroutine) → Side

-- one side, or one for each clause of a `select`
pub data Sides : Type 0 where
  Plain : (side : Side) → Sides
  Choice : (sides : List Side) → Sides

-- the frame goes on with this stack and control
abbrev pub on : Frame → List Frame → List Value → List Item → Goroutine
on f fs stack control = running (record f { stack = stack; control = control } ∷ fs)

-- ---- the plain operations

abbrev pub send_closed : List ℕ
send_closed = codes "send on closed channel"

abbrev pub send_side : Frame → List Frame → List Item → List Value → Side
send_side f fs rest (v ∷ value.Channel o ∷ st) = Offers o v (on f fs st rest) (panicked f fs send_closed)
send_side f fs rest st = Neither

abbrev pub receive_side : Frame → List Frame → List Item → List Value → Side
receive_side f fs rest (value.Channel o ∷ st) = Wants o (λ v ok. on f fs (v ∷ st) rest)
receive_side f fs rest st = Neither

abbrev pub receive_ok_side : Frame → List Frame → List Item → List Value → Side
receive_ok_side f fs rest (value.Channel o ∷ st) = Wants o (λ v ok. on f fs (value.Flag ok ∷ v ∷ st) rest)
receive_ok_side f fs rest st = Neither

-- with a value the loop's variable takes it and the body follows; else the loop is over, and its channel goes
abbrev pub pulled : ℕ → ℕ → Target → ℕ → Frame → List Frame → List Item → List Value → Value → Bool → Goroutine
pulled n i t l f fs rest st v true = on (record f { slots = set_slot t v f.slots }) fs f.stack (Run l 0 ∷ Pull n i ∷ rest)
pulled n i t l f fs rest st v false = on f fs st rest

abbrev pub pull_side : ℕ → ℕ → Option NodeForm → Frame → List Frame → List Item → List Value → Side
pull_side n i (Some (node.RangeChannel t e l)) f fs rest (value.Channel o ∷ st) = Wants o (pulled n i t l f fs rest st)
pull_side n i form f fs rest st = Neither

-- ---- `select`

abbrev pub operands_of : Comm → ℕ
operands_of comm.Default = 0
operands_of (comm.Send a b) = 2
operands_of (comm.Receive e ts) = 1

-- the received values that targets take, the last on top
abbrev pub received : List Target → Value → Bool → List Value
received [] v ok = []
received (t ∷ []) v ok = v ∷ []
received (t ∷ u ∷ ts) v ok = value.Flag ok ∷ v ∷ []

-- the targets are assigned, and the clause is entered
abbrev pub pick_items : List Target → ℕ → List Item → List Item
pick_items ts l rest = assign_rest ts ++ Run l 0 ∷ Leave ∷ rest

-- the side of a clause, by its operands
abbrev pub clause_side : Frame → List Frame → List Item → List Value → Comm → ℕ → List Value → Side
clause_side f fs rest st comm.Default l vs = Defaults (on f fs st (pick_items [] l rest))
clause_side f fs rest st (comm.Send a b) l (value.Channel o ∷ v ∷ vs) = Offers o v (on f fs st (pick_items [] l rest)) (panicked f fs send_closed)
clause_side f fs rest st (comm.Receive e ts) l (value.Channel o ∷ vs) =
    Wants o (λ v ok. on f fs (received ts v ok ++ st) (pick_items ts l rest))
clause_side f fs rest st comm l vs = Neither

-- the sides of clauses, whose operands stand in source order, over the stack without them
abbrev pub clause_sides : Frame → List Frame → List Item → List Value → List CommClause → List Value → List Side
clause_sides f fs rest st [] vs = []
clause_sides f fs rest st (c ∷ cs) vs =
    clause_side f fs rest st c.comm c.list vs ∷ clause_sides f fs rest st cs (drop (operands_of c.comm) vs)

abbrev pub pick_operands : List CommClause → ℕ
pick_operands cs = sum_by (λ (c : CommClause). operands_of c.comm) cs

abbrev pub pick_taken : Frame → List Frame → List Item → List CommClause → Option Taken → Sides
pick_taken f fs rest cs None = Plain Neither
pick_taken f fs rest cs (Some t) = Choice (clause_sides f fs rest t.stack cs t.values)

abbrev pub pick_sides : Option NodeForm → Frame → List Frame → List Item → Sides
pick_sides (Some (node.Select cs)) f fs rest = pick_taken f fs rest cs (taken (pick_operands cs) f.stack)
pick_sides form f fs rest = Plain Neither

-- ---- the sides of a goroutine, by its head item

abbrev pub item_sides : Parts → Item → Frame → List Frame → List Item → Sides
item_sides P Send f fs rest = Plain (send_side f fs rest f.stack)
item_sides P Recv f fs rest = Plain (receive_side f fs rest f.stack)
item_sides P RecvOk f fs rest = Plain (receive_ok_side f fs rest f.stack)
item_sides P (Pull n i) f fs rest = Plain (pull_side n i (form_at P n i) f fs rest f.stack)
item_sides P (Pick n i) f fs rest = pick_sides (form_at P n i) f fs rest
item_sides P item f fs rest = Plain Neither

abbrev pub control_sides : Parts → Frame → List Frame → List Item → Sides
control_sides P f fs [] = Plain Neither
control_sides P f fs (item ∷ rest) = item_sides P item f fs rest

abbrev pub frame_sides : Parts → Option Call → List Frame → Sides
frame_sides P (Some call) fs = Plain Neither
frame_sides P None [] = Plain Neither
frame_sides P None (f ∷ fs) = control_sides P f fs f.control

abbrev pub sides_of : Parts → Option Goroutine → Sides
sides_of P None = Plain Neither
sides_of P (Some go) = frame_sides P go.begin go.frames

-- the side by its number: 0 of a plain operation, the number of the clause of a `select`
abbrev pub side_at : Sides → ℕ → Side
side_at (Plain s) zero = s
side_at (Plain s) (suc k) = Neither
side_at (Choice ss) zero = Neither
side_at (Choice ss) (suc k) = slice_index_or ss k Neither

-- ---- partners

abbrev pub is_default : Side → Bool
is_default (Defaults after) = true
is_default s = false

-- the sides with which it can be a partner: a `select` with a default clause never is
abbrev pub partner_sides : Sides → Sides
partner_sides (Plain s) = Plain s
partner_sides (Choice ss) = if list_any is_default ss then Plain Neither else Choice ss

abbrev pub listed : Sides → List Side
listed (Plain s) = s ∷ []
listed (Choice ss) = ss

abbrev pub is_direct_channel : Option Channel → Bool
is_direct_channel None = false
is_direct_channel (Some ch) = ch.capacity == 0 && not ch.closed

abbrev pub same_number : Option ℕ → Option ℕ → Bool
same_number (Some k) (Some l) = k == l
same_number o p = false

-- the two are one open channel without capacity
abbrev pub is_direct : Config → Option ℕ → Option ℕ → Bool
is_direct c o p = same_number o p && is_direct_channel (channel_at c o)

-- both sides go on in one step, the first side's goroutine before the second's
abbrev pub exchange : Config → Side → Side → Option (Goroutine × Goroutine)
exchange c (Offers o v after panicking) (Wants p take) = if is_direct c o p then Some (after, take v true) else None
exchange c (Wants p take) (Offers o v after panicking) = if is_direct c o p then Some (take v true, after) else None
exchange c s t = None

-- ---- a side by itself

-- the values of the channel with this number
abbrev pub with_values : Config → Option ℕ → Channel → List Value → Config
with_values c None ch vs = c
with_values c (Some k) ch vs = record c { channels = slice_set c.channels k (record ch { values = vs }) }

-- into a buffer with room, or with a panic where the channel is closed
abbrev pub send : Config → Option ℕ → Value → Goroutine → Goroutine → Option Channel → Option Move
send c o v after panicking None = None
send c o v after panicking (Some ch) =
    if ch.closed then Some (moved c panicking) else if nat_lt (length ch.values) ch.capacity then Some (moved (with_values c o ch (ch.values ++ v ∷ [])) after) else None

-- the oldest value in the buffer, or the zero value where the channel is closed and empty
abbrev pub receive_from : Config → Option ℕ → (Value → Bool → Goroutine) → Channel → List Value → Option Move
receive_from c o take ch (v ∷ vs) = Some (moved (with_values c o ch vs) (take v true))
receive_from c o take ch [] = if ch.closed then Some (moved c (take ch.zero false)) else None

abbrev pub receive : Config → Option ℕ → (Value → Bool → Goroutine) → Option Channel → Option Move
receive c o take None = None
receive c o take (Some ch) = receive_from c o take ch ch.values

abbrev pub by_itself : Config → Side → Option Move
by_itself c (Offers o v after panicking) = send c o v after panicking (channel_at c o)
by_itself c (Wants o take) = receive c o take (channel_at c o)
by_itself c s = None

-- ---- the default clause

-- among goroutines with indices from j on, one other than i is a partner
abbrev pub has_partner : Parts → Config → ℕ → Side → ℕ → List Goroutine → Bool
has_partner P c i s j [] = false
has_partner P c i s j (go ∷ gos) =
    (not (i == j) && list_any (λ t. is_some (exchange c s t)) (listed (partner_sides (sides_of P (Some go))))) || has_partner P c i s (suc j) gos

abbrev pub is_ready : Parts → Config → ℕ → Side → Bool
is_ready P c i s = is_some (by_itself c s) || has_partner P c i s 0 c.goroutines

-- A side of the goroutine with index i without a partner. The default clause is taken only where no clause is ready.
unfoldable pub lone : Parts → Config → ℕ → Sides → Side → Option Move
lone P c i ss (Defaults after) = if list_any (is_ready P c i) (listed ss) then None else Some (moved c after)
lone P c i ss s = by_itself c s
