-- What the head of a goroutine's control waits for, without what follows it.
use Rattle.std.specs.Prelude.{ℕ, zero, suc, Bool, true, false, ◌||◌, nat_lt, List, [], ◌∷◌, length, drop, reverse, take, Option, Some, None}
use Rattle.go_meaning.specs.declared.value.Value.{Value}
use Rattle.go_meaning.specs.declared.value.Value.TheVariants as value
use Rattle.go_meaning.specs.declared.value.Channel.{Channel}
use Rattle.go_meaning.specs.declared.node.Comm.{Comm}
use Rattle.go_meaning.specs.declared.node.Comm.TheVariants as comm
use Rattle.go_meaning.specs.declared.node.CommClause.{CommClause}
use Rattle.go_meaning.specs.declared.node.NodeForm.{NodeForm}
use Rattle.go_meaning.specs.declared.node.NodeForm.TheVariants as node
use Rattle.go_meaning.specs.declared.item.Item.{Item}
use Rattle.go_meaning.specs.declared.item.Item.TheVariants.{Pull, Send, Recv, RecvOk}
use Rattle.go_meaning.specs.declared.config.Config.{Config}
use Rattle.go_meaning.specs.Programs.{Parts, form_at}
use Rattle.go_meaning.specs.Operations.{channel_at}
use Rattle.go_meaning.specs.Channels.{Side, Neither, Offers, Wants, Defaults, is_direct, operands_of, pick_operands}
use Rattle.go_step.specs.declared.ways.Way.{Way}
use Rattle.go_step.specs.declared.ways.Way.TheVariants as way

abbrev pub way_of : Side → Way
way_of Neither = way.Neither
way_of (Offers o v a p) = way.Offers o
way_of (Wants o t) = way.Wants o
way_of (Defaults a) = way.Default

-- ---- by itself

abbrev pub can_send : Option Channel → Bool
can_send None = false
can_send (Some ch) = ch.closed || nat_lt (length ch.values) ch.capacity

abbrev pub has_value : List Value → Bool
has_value [] = false
has_value (v ∷ vs) = true

abbrev pub can_receive : Option Channel → Bool
can_receive None = false
can_receive (Some ch) = has_value ch.values || ch.closed

abbrev pub goes_alone : Config → Way → Bool
goes_alone c way.Neither = false
goes_alone c (way.Offers o) = can_send (channel_at c o)
goes_alone c (way.Wants o) = can_receive (channel_at c o)
goes_alone c way.Default = false

-- ---- with a partner

abbrev pub meets : Config → Way → Way → Bool
meets c (way.Offers o) (way.Wants p) = is_direct c o p
meets c (way.Wants p) (way.Offers o) = is_direct c o p
meets c w x = false

-- ---- of items

abbrev pub offer : List Value → Way
offer (v ∷ value.Channel o ∷ st) = way.Offers o
offer st = way.Neither

abbrev pub want : List Value → Way
want (value.Channel o ∷ st) = way.Wants o
want st = way.Neither

abbrev pub pull : Option NodeForm → List Value → Way
pull (Some (node.RangeChannel t e l)) st = want st
pull form st = way.Neither

abbrev pub plain_way : Parts → Item → List Value → Way
plain_way P Send st = offer st
plain_way P Recv st = want st
plain_way P RecvOk st = want st
plain_way P (Pull n i) st = pull (form_at P n i) st
plain_way P item st = way.Neither

-- ---- of clauses, whose operands stand in source order

abbrev pub comm_way : Comm → List Value → Way
comm_way comm.Default vs = way.Default
comm_way (comm.Send a b) (value.Channel o ∷ v ∷ vs) = way.Offers o
comm_way (comm.Receive e ts) (value.Channel o ∷ vs) = way.Wants o
comm_way c vs = way.Neither

unfoldable pub clause_way : List CommClause → List Value → ℕ → Way
clause_way [] vs k = way.Neither
clause_way (c ∷ cs) vs zero = comm_way c.comm vs
clause_way (c ∷ cs) vs (suc k) = clause_way cs (drop (operands_of c.comm) vs) k

-- the operands of clauses on a stack
abbrev pub operands_on : List CommClause → List Value → List Value
operands_on cs st = reverse (take (pick_operands cs) st)
