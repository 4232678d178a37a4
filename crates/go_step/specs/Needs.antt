-- What an item needs to go on by itself: operands of its kinds, and what it would wait for.
use Rattle.std.specs.Prelude.{ℕ, zero, suc, Bool, true, false, ◌&&◌, nat_le, is_some, List, [], ◌∷◌, length, slice_get, Option, Some, None}
use Rattle.std.specs.Option.{option_flatten}
use Rattle.go_meaning.specs.declared.value.Value.{Value}
use Rattle.go_meaning.specs.declared.value.Value.TheVariants as value
use Rattle.go_meaning.specs.declared.expr.Variable.{Variable}
use Rattle.go_meaning.specs.declared.expr.Variable.TheVariants.{Slot, Global}
use Rattle.go_meaning.specs.declared.expr.Relation.{Relation}
use Rattle.go_meaning.specs.declared.expr.Target.{Target}
use Rattle.go_meaning.specs.declared.expr.Op.{Op}
use Rattle.go_meaning.specs.declared.expr.Op.TheVariants as op
use Rattle.go_meaning.specs.declared.expr.Expr.{Expr, out-Expr}
use Rattle.go_meaning.specs.declared.expr.Expr.TheOpen.{Expr-F}
use Rattle.go_meaning.specs.declared.node.NodeForm.{NodeForm}
use Rattle.go_meaning.specs.declared.node.NodeForm.TheVariants as node
use Rattle.go_meaning.specs.declared.item.Item.{Item}
use Rattle.go_meaning.specs.declared.item.Item.TheVariants.{Run, Eval, Drop, Assign, Do, And, Or, Branch, Loop, Test, Next, Each, Pull, Match, Compare, Pick, Leave, Send, Recv, RecvOk, Spawn, Defer, Call, Return, Unwind}
use Rattle.go_meaning.specs.declared.act.Act.{Act}
use Rattle.go_meaning.specs.declared.act.Act.TheVariants as act
use Rattle.go_meaning.specs.declared.config.Config.{Config}
use Rattle.go_meaning.specs.Programs.{Parts, function_at, form_at}
use Rattle.go_meaning.specs.Values.{compare}
use Rattle.go_meaning.specs.Operations.{top}
use Rattle.go_meaning.specs.Acts.{Slots, cases}
use Rattle.go_meaning.specs.Moves.{operands_of}

-- ---- operands

abbrev pub is_flag : Option Value → Bool
is_flag (Some (value.Flag b)) = true
is_flag o = false

abbrev pub is_number : Option Value → Bool
is_number (Some (value.Number i)) = true
is_number o = false

abbrev pub is_text : Option Value → Bool
is_text (Some (value.Text s)) = true
is_text o = false

abbrev pub is_channel : Option Value → Bool
is_channel (Some (value.Channel o)) = true
is_channel o = false

-- a value that `len` takes
abbrev pub is_measured : Option Value → Bool
is_measured (Some (value.Text s)) = true
is_measured (Some (value.Channel o)) = true
is_measured o = false

abbrev pub can_compare : Relation → Option Value → Option Value → Bool
can_compare r (Some b) (Some a) = is_some (compare r a b)
can_compare r o p = false

-- `close` of `nil` panics
abbrev pub can_close : Config → Option Value → Bool
can_close c (Some (value.Channel None)) = true
can_close c (Some (value.Channel (Some k))) = is_some (slice_get c.channels k)
can_close c o = false

-- ---- operations

abbrev pub is_unlocked : Option Bool → Bool
is_unlocked (Some false) = true
is_unlocked o = false

abbrev pub is_zero : Option ℕ → Bool
is_zero (Some zero) = true
is_zero (Some (suc n)) = false
is_zero None = false

abbrev pub can_cut : Bool → Bool → List Value → Bool
can_cut true true st = is_number (top 0 st) && (is_number (top 1 st) && is_text (top 2 st))
can_cut true false st = is_number (top 0 st) && is_text (top 1 st)
can_cut false true st = is_number (top 0 st) && is_text (top 1 st)
can_cut false false st = is_text (top 0 st)

unfoldable pub can_apply : Config → Op → List Value → Bool
can_apply c (op.Arithmetic o) st = is_number (top 0 st) && is_number (top 1 st)
can_apply c op.Join st = is_text (top 0 st) && is_text (top 1 st)
can_apply c (op.Compare r) st = can_compare r (top 0 st) (top 1 st)
can_apply c op.Not st = is_flag (top 0 st)
can_apply c op.Plus st = is_number (top 0 st)
can_apply c op.Minus st = is_number (top 0 st)
can_apply c op.Flip st = is_number (top 0 st)
can_apply c (op.Convert kind) st = is_number (top 0 st)
can_apply c op.Spell st = is_number (top 0 st)
can_apply c op.Keep st = is_some (top 0 st)
can_apply c op.Index st = is_number (top 0 st) && is_text (top 1 st)
can_apply c (op.Cut low high) st = can_cut low high st
can_apply c op.Len st = is_measured (top 0 st)
can_apply c op.Cap st = is_channel (top 0 st)
can_apply c (op.Make v true) st = is_number (top 0 st)
can_apply c (op.Make v false) st = true
can_apply c op.Close st = can_close c (top 0 st)
can_apply c (op.Println n) st = nat_le n (length st)
can_apply c op.Panic st = is_some (top 0 st)
can_apply c op.Exit st = is_number (top 0 st)
can_apply c op.Itoa st = is_number (top 0 st)
can_apply c (op.Lock m) st = is_unlocked (slice_get c.mutexes m)
can_apply c (op.Unlock m) st = is_some (slice_get c.mutexes m)
can_apply c (op.Add g) st = is_number (top 0 st) && is_some (slice_get c.groups g)
can_apply c (op.Done g) st = is_some (slice_get c.groups g)
can_apply c (op.Wait g) st = is_zero (slice_get c.groups g)

-- ---- statements

-- a counter has no step of the program
abbrev pub can_run : Option NodeForm → Bool
can_run (Some (node.Count u)) = false
can_run o = true

abbrev pub is_for : Option NodeForm → Bool
is_for (Some (node.For first e last l)) = true
is_for o = false

abbrev pub is_range : Option NodeForm → Bool
is_range (Some (node.RangeText o r e l)) = true
is_range o = false

abbrev pub is_switch : Option NodeForm → Bool
is_switch (Some (node.Switch first e cs)) = true
is_switch o = false

abbrev pub has_case : Option NodeForm → ℕ → Bool
has_case (Some (node.Switch first e cs)) k = is_some (slice_get (cases cs) k)
has_case o k = false

-- ---- items

abbrev pub can_read : Config → Slots → Variable → Bool
can_read c slots (Slot s) = is_some (option_flatten (slice_get slots s))
can_read c slots (Global g) = is_some (slice_get c.globals g)

abbrev pub can_eval : Config → Slots → Expr-F Expr → Bool
can_eval c slots (Expr-F.Variable x) = can_read c slots x
can_eval c slots e = true

abbrev pub can_assign : List Target → List Value → Bool
can_assign [] st = true
can_assign (t ∷ ts) st = is_some (top (length ts) st)

unfoldable pub can_act : Parts → Config → Item → Slots → List Value → Bool
can_act P c (Run n i) slots st = can_run (form_at P n i)
can_act P c (Eval e) slots st = can_eval c slots (out-Expr e)
can_act P c (Drop n) slots st = nat_le n (length st)
can_act P c (Assign ts) slots st = can_assign ts st
can_act P c (Do o) slots st = can_apply c o st
can_act P c (And e) slots st = is_flag (top 0 st)
can_act P c (Or e) slots st = is_flag (top 0 st)
can_act P c (Branch a o) slots st = is_flag (top 0 st)
can_act P c (Loop n i) slots st = is_for (form_at P n i)
can_act P c (Test n i) slots st = is_flag (top 0 st) && is_for (form_at P n i)
can_act P c (Next n i) slots st = is_for (form_at P n i)
can_act P c (Each n i) slots st = is_number (top 0 st) && (is_text (top 1 st) && is_range (form_at P n i))
can_act P c (Match n i k) slots st = is_some (top 0 st) && is_switch (form_at P n i)
can_act P c (Compare n i k) slots st = is_some (top 0 st) && (is_some (top 1 st) && has_case (form_at P n i) k)
can_act P c Leave slots st = true
can_act P c (Spawn f) slots st = nat_le (function_at P f).params (length st)
can_act P c (Defer d) slots st = nat_le (operands_of P d) (length st)
can_act P c (Call f) slots st = nat_le (function_at P f).params (length st)
can_act P c (Return n) slots st = nat_le n (length st)
can_act P c (Unwind m) slots st = true
can_act P c (Pull n i) slots st = false
can_act P c (Pick n i) slots st = false
can_act P c Send slots st = false
can_act P c Recv slots st = false
can_act P c RecvOk slots st = false

-- ---- acts

-- whether an act has a move
abbrev pub has_move : Parts → Act → List Value → Bool
has_move P act.Stuck st = false
has_move P act.Waits st = false
has_move P (act.Assigns t ts) st = is_some (slice_get st (length ts))
has_move P (act.Calls f) st = nat_le (function_at P f).params (length st)
has_move P (act.Spawns f) st = nat_le (function_at P f).params (length st)
has_move P (act.Defers d) st = nat_le (operands_of P d) (length st)
has_move P a st = true
