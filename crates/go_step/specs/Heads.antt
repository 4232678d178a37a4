-- What the item at a goroutine's head does with channels, and whether it goes on by itself.
use Rattle.std.specs.Prelude.{ℕ, zero, suc, ◌+◌, Bool, true, false, ◌||◌, nat_le, List, [], ◌∷◌, length, Option, Some, None, if◌then◌else◌}
use Rattle.std.specs.List.{list_any}
use Rattle.go_meaning.specs.declared.value.Value.{Value}
use Rattle.go_meaning.specs.declared.value.Value.TheVariants as value
use Rattle.go_meaning.specs.declared.node.Comm.{Comm}
use Rattle.go_meaning.specs.declared.node.Comm.TheVariants as comm
use Rattle.go_meaning.specs.declared.node.CommClause.{CommClause}
use Rattle.go_meaning.specs.declared.node.NodeForm.{NodeForm}
use Rattle.go_meaning.specs.declared.node.NodeForm.TheVariants as node
use Rattle.go_meaning.specs.declared.item.Item.{Item}
use Rattle.go_meaning.specs.declared.item.Item.TheVariants.{Pick}
use Rattle.go_meaning.specs.declared.config.Call.{Call}
use Rattle.go_meaning.specs.declared.config.Frame.{Frame}
use Rattle.go_meaning.specs.declared.config.Goroutine.{Goroutine}
use Rattle.go_meaning.specs.declared.config.Config.{Config}
use Rattle.go_meaning.specs.Programs.{Parts, form_at}
use Rattle.go_meaning.specs.Channels.{pick_operands}
use Rattle.go_step.specs.declared.ways.Way.{Way}
use Rattle.go_step.specs.declared.ways.Way.TheVariants as way
use Rattle.go_step.specs.Ways.{plain_way, clause_way, operands_on}
use Rattle.go_step.specs.Needs.{can_act}

-- ---- by the value of the channel

abbrev pub offered : Option Value → Way
offered (Some (value.Channel o)) = way.Offers o
offered o = way.Neither

abbrev pub wanted : Option Value → Way
wanted (Some (value.Channel o)) = way.Wants o
wanted o = way.Neither

-- ---- of a `select`, whose clauses are numbered from 1

abbrev pub select_way : List CommClause → List Value → ℕ → Way
select_way cs st zero = way.Neither
select_way cs st (suc k) = if nat_le (pick_operands cs) (length st) then clause_way cs (operands_on cs st) k else way.Neither

abbrev pub pick_way : Option NodeForm → List Value → ℕ → Way
pick_way (Some (node.Select cs)) st k = select_way cs st k
pick_way form st k = way.Neither

abbrev pub pick_count : Option NodeForm → ℕ
pick_count (Some (node.Select cs)) = length cs + 1
pick_count form = 1

abbrev pub is_default : Comm → Bool
is_default comm.Default = true
is_default c = false

abbrev pub has_default : List CommClause → Bool
has_default cs = list_any (λ (c : CommClause). is_default c.comm) cs

abbrev pub pick_default : Option NodeForm → Bool
pick_default (Some (node.Select cs)) = has_default cs
pick_default form = false

-- ---- of an item

-- where no clause can be named
abbrev pub way_at_zero : ℕ → Way → Way
way_at_zero zero w = w
way_at_zero (suc k) w = way.Neither

abbrev pub flag_at_zero : ℕ → Bool → Bool
flag_at_zero zero b = b
flag_at_zero (suc k) b = false

abbrev pub item_way : Parts → Item → List Value → ℕ → Way
item_way P (Pick n i) st k = pick_way (form_at P n i) st k
item_way P item st k = way_at_zero k (plain_way P item st)

-- from this number on there is no way
abbrev pub item_count : Parts → Item → ℕ
item_count P (Pick n i) = pick_count (form_at P n i)
item_count P item = 1

abbrev pub item_default : Parts → Item → Bool
item_default P (Pick n i) = pick_default (form_at P n i)
item_default P item = false

-- ---- the head item of a goroutine that has begun, and its frame

abbrev pub control_head : Frame → List Item → Option (Item × Frame)
control_head f [] = None
control_head f (item ∷ rest) = Some (item, f)

abbrev pub frames_head : Option Call → List Frame → Option (Item × Frame)
frames_head (Some call) fs = None
frames_head None [] = None
frames_head None (f ∷ fs) = control_head f f.control

abbrev pub head : Option Goroutine → Option (Item × Frame)
head None = None
head (Some go) = frames_head go.begin go.frames

abbrev pub way_at_head : Parts → ℕ → Option (Item × Frame) → Way
way_at_head P k None = way.Neither
way_at_head P k (Some h) = item_way P h.0 h.1.stack k

abbrev pub count_at_head : Parts → Option (Item × Frame) → ℕ
count_at_head P None = 1
count_at_head P (Some h) = item_count P h.0

abbrev pub default_at_head : Parts → Option (Item × Frame) → Bool
default_at_head P None = false
default_at_head P (Some h) = item_default P h.0

abbrev pub can_act_at_head : Parts → Config → Option (Item × Frame) → Bool
can_act_at_head P c None = false
can_act_at_head P c (Some h) = can_act P c h.0 h.1.slots h.1.stack

-- ---- of a goroutine

unfoldable pub way_of_head : Parts → Option Goroutine → ℕ → Way
way_of_head P o k = way_at_head P k (head o)

unfoldable pub count_of_head : Parts → Option Goroutine → ℕ
count_of_head P o = count_at_head P (head o)

unfoldable pub default_of_head : Parts → Option Goroutine → Bool
default_of_head P o = default_at_head P (head o)

-- as a partner; a `select` with a default clause never is one
unfoldable pub partner_way : Parts → Option Goroutine → ℕ → Way
partner_way P o q = if default_of_head P o then way.Neither else way_of_head P o q

abbrev pub begins_by : Option Call → Bool
begins_by None = false
begins_by (Some call) = true

abbrev pub begins : Option Goroutine → Bool
begins None = false
begins (Some go) = begins_by go.begin

-- it begins, or its head item goes on by itself
unfoldable pub acts : Parts → Config → Option Goroutine → Bool
acts P c o = begins o || can_act_at_head P c (head o)
