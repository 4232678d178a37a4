-- What the item at the head of a control list does: the table of items, a clause each. What sends and receives do is in
-- `Channels`. Go specification, "Statements", "Expressions".
use Rattle.std.specs.Prelude.{ℕ, suc, ◌+◌, Bool, true, false, pos, List, [], ◌∷◌, ◌++◌, map, flat_map, length, drop, nat_le, nat_lt, slice_get, Option, Some, None, if◌then◌else◌}
use Rattle.std.specs.Option.{option_flatten}
use Rattle.go_value.specs.declared.int.Int.{Int}
use Rattle.go_value.specs.declared.kind.Kind.TheVariants.{I32, I64}
use Rattle.go_value.specs.Integers.{wrap}
use Rattle.go_meaning.specs.declared.value.Value.{Value}
use Rattle.go_meaning.specs.declared.value.Value.TheVariants as value
use Rattle.go_meaning.specs.declared.expr.Variable.{Variable}
use Rattle.go_meaning.specs.declared.expr.Variable.TheVariants.{Slot, Global}
use Rattle.go_meaning.specs.declared.expr.Target.{Target}
use Rattle.go_meaning.specs.declared.expr.Target.TheVariants as target
use Rattle.go_meaning.specs.declared.expr.Expr.{Expr, out-Expr}
use Rattle.go_meaning.specs.declared.expr.Expr.TheOpen.{Expr-F}
use Rattle.go_meaning.specs.declared.expr.Expr.TheVariants as expr
use Rattle.go_meaning.specs.declared.node.Assignment.{Assignment}
use Rattle.go_meaning.specs.declared.node.Simple.{Simple}
use Rattle.go_meaning.specs.declared.node.Simple.TheVariants as simple
use Rattle.go_meaning.specs.declared.node.CaseClause.{CaseClause}
use Rattle.go_meaning.specs.declared.node.CommClause.{CommClause}
use Rattle.go_meaning.specs.declared.node.Comm.{Comm}
use Rattle.go_meaning.specs.declared.node.Comm.TheVariants as comm
use Rattle.go_meaning.specs.declared.node.NodeForm.{NodeForm}
use Rattle.go_meaning.specs.declared.node.NodeForm.TheVariants as node
use Rattle.go_meaning.specs.declared.item.Item.{Item}
use Rattle.go_meaning.specs.declared.item.Item.TheVariants.{Run, Eval, Drop, Assign, Do, And, Or, Branch, Loop, Test, Next, Each, Pull, Match, Compare, Pick, Leave, Send, Recv, RecvOk, Spawn, Defer, Call, Return, Unwind}
use Rattle.go_meaning.specs.declared.event.End.TheVariants as ends
use Rattle.go_meaning.specs.declared.act.Act.{Act}
use Rattle.go_meaning.specs.declared.act.Act.TheVariants as act
use Rattle.go_meaning.specs.declared.config.Config.{Config}
use Rattle.go_meaning.specs.Programs.{Parts, form_at}
use Rattle.go_meaning.specs.Values.{Rune, first_rune, is_equal}
use Rattle.go_meaning.specs.Operations.{top, on_value, on_flag, on_number, on_text, number, apply}

abbrev pub Slots : Type 0
Slots = List (Option Value)

-- ---- the items of a statement

-- each right side is evaluated, and then the targets are assigned
abbrev pub assignment : Assignment → List Item
assignment a = map Eval a.values ++ Assign a.targets ∷ []

abbrev pub simple_items : Simple → List Item
simple_items (simple.Eval e n b) = Eval e ∷ Drop n ∷ []
simple_items (simple.Send a b) = Eval a ∷ Eval b ∷ Send ∷ []
simple_items (simple.Update x o e) = Eval (expr.Variable x) ∷ Eval e ∷ Do o ∷ Assign (target.Variable x ∷ []) ∷ []
simple_items (simple.Assign a) = assignment a

-- the items of a part that may be left out
abbrev pub part : Option Simple → List Item
part None = []
part (Some s) = simple_items s

-- the channel and the value of each clause
abbrev pub comm_items : Comm → List Item
comm_items comm.Default = []
comm_items (comm.Send a b) = Eval a ∷ Eval b ∷ []
comm_items (comm.Receive e ts) = Eval e ∷ []

-- items of the statement at a place, and then what follows it
abbrev pub go_on : ℕ → ℕ → List Item → Act
go_on n i items = act.Replaces 0 (items ++ Run n (suc i) ∷ [])

abbrev pub statement : ℕ → ℕ → NodeForm → Act
statement n i node.Const = go_on n i []
statement n i (node.Var as') = go_on n i (flat_map assignment as')
statement n i (node.Simple s) = go_on n i (simple_items s)
statement n i (node.Block l b) = go_on n i (Run l 0 ∷ [])
statement n i (node.If first e a o) = go_on n i (part first ++ Eval e ∷ Branch a o ∷ [])
statement n i (node.For first e last l) = go_on n i (part first ++ Loop n i ∷ [])
statement n i (node.RangeText o r e l) = go_on n i (Eval e ∷ Eval (expr.Value (number (pos 0))) ∷ Each n i ∷ [])
statement n i (node.RangeChannel v e l) = go_on n i (Eval e ∷ Pull n i ∷ [])
statement n i (node.Switch first e cs) = go_on n i (part first ++ Eval e ∷ Match n i 0 ∷ [])
statement n i (node.Select cs) = go_on n i (flat_map (λ (c : CommClause). comm_items c.comm) cs ++ Pick n i ∷ [])
statement n i (node.Return es r) = go_on n i (map Eval es ++ Return r ∷ [])
statement n i (node.Go f es) = go_on n i (map Eval es ++ Spawn f ∷ [])
statement n i (node.Defer d es) = go_on n i (map Eval es ++ Defer d ∷ [])
statement n i (node.Break k) = act.Breaks k
statement n i (node.Continue k) = act.Continues k
statement n i (node.Fallthrough l) = act.Falls l
-- a counter has no step of the program
statement n i (node.Count u) = act.Waits

-- past the end of the list there is nothing
abbrev pub run : ℕ → ℕ → Option NodeForm → Act
run n i None = act.Replaces 0 []
run n i (Some form) = statement n i form

-- ---- expressions

abbrev pub string_limit : ℕ
string_limit = 1048576

unfoldable pub constant : Value → Act
constant (value.Text s) = if nat_le (length s) string_limit then act.Pushes 0 (value.Text s) else act.Stops ends.StringLimit
constant v = act.Pushes 0 v

unfoldable pub pushed : Option Value → Act
pushed None = act.Stuck
pushed (Some v) = act.Pushes 0 v

abbrev pub variable : Config → Slots → Variable → Act
variable c slots (Slot s) = pushed (option_flatten (slice_get slots s))
variable c slots (Global g) = pushed (slice_get c.globals g)

abbrev pub eval : Config → Slots → Expr-F Expr → Act
eval c slots (Expr-F.Value v) = constant v
eval c slots (Expr-F.Variable x) = variable c slots x
eval c slots (Expr-F.And a b) = act.Replaces 0 (Eval a ∷ And b ∷ [])
eval c slots (Expr-F.Or a b) = act.Replaces 0 (Eval a ∷ Or b ∷ [])
eval c slots (Expr-F.Apply o es) = act.Replaces 0 (map Eval es ++ Do o ∷ [])
eval c slots (Expr-F.Receive a) = act.Replaces 0 (Eval a ∷ Recv ∷ [])
eval c slots (Expr-F.ReceiveOk a) = act.Replaces 0 (Eval a ∷ RecvOk ∷ [])
eval c slots (Expr-F.Call f es) = act.Replaces 0 (map Eval es ++ Call f ∷ [])

-- ---- loops

abbrev pub loop : ℕ → ℕ → Option NodeForm → Act
loop n i (Some (node.For first (Some e) last l)) = act.Replaces 0 (Eval e ∷ Test n i ∷ [])
loop n i (Some (node.For first None last l)) = act.Replaces 0 (Run l 0 ∷ Next n i ∷ [])
loop n i o = act.Stuck

unfoldable pub decided : ℕ → ℕ → Option NodeForm → Bool → Act
decided n i (Some (node.For first e last l)) true = act.Replaces 1 (Run l 0 ∷ Next n i ∷ [])
decided n i (Some (node.For first e last l)) false = act.Replaces 1 []
decided n i o b = act.Stuck

abbrev pub next : ℕ → ℕ → Option NodeForm → Act
next n i (Some (node.For first e last l)) = act.Replaces 0 (part last ++ Loop n i ∷ [])
next n i o = act.Stuck

-- the targets take the offset and the rune there, and the offset goes on
abbrev pub advance : ℕ → ℕ → Target → Target → ℕ → Int → Rune → Act
advance n i o r l at rune =
    act.Advances o at r (wrap I32 (pos rune.code)) (wrap I64 (pos (at.bits + rune.width))) (Run l 0 ∷ Each n i ∷ [])

unfoldable pub each : ℕ → ℕ → Option NodeForm → Int → List ℕ → Act
each n i (Some (node.RangeText o r e l)) at s = if nat_lt at.bits (length s) then advance n i o r l at (first_rune (drop at.bits s)) else act.Replaces 2 []
each n i o at s = act.Stuck

-- ---- choices

unfoldable pub branch : ℕ → Option ℕ → Bool → Act
branch a o true = act.Replaces 1 (Run a 0 ∷ [])
branch a None false = act.Replaces 1 []
branch a (Some b) false = act.Replaces 1 (Run b 0 ∷ [])

-- a clause is entered, if there is one
abbrev pub enter : Option ℕ → List Item
enter None = []
enter (Some l) = Run l 0 ∷ Leave ∷ []

abbrev pub values_of : Option (List Expr) → List Expr
values_of None = []
values_of (Some es) = es

-- the case expressions in source order, each with the list of its clause
abbrev pub cases : List CaseClause → List (Expr × ℕ)
cases cs = flat_map (λ (c : CaseClause). map (λ e. (e, c.list)) (values_of c.values)) cs

-- the list of the default clause
abbrev pub default_of : List CaseClause → Option ℕ
default_of [] = None
default_of (c ∷ cs) = elim c.values as (λ _. Option ℕ) [ None ↦ Some c.list | Some es ↦ default_of cs ]

abbrev pub match_case : ℕ → ℕ → ℕ → List CaseClause → Option (Expr × ℕ) → Act
match_case n i k cs None = act.Replaces 1 (enter (default_of cs))
match_case n i k cs (Some p) = act.Replaces 0 (Eval p.0 ∷ Compare n i k ∷ [])

unfoldable pub matched : ℕ → ℕ → ℕ → Option NodeForm → Act
matched n i k (Some (node.Switch first e cs)) = match_case n i k cs (slice_get (cases cs) k)
matched n i k o = act.Stuck

abbrev pub compare_case : ℕ → ℕ → ℕ → Bool → Option (Expr × ℕ) → Act
compare_case n i k true (Some p) = act.Replaces 2 (enter (Some p.1))
compare_case n i k false (Some p) = act.Replaces 1 (Match n i (suc k) ∷ [])
compare_case n i k b None = act.Stuck

unfoldable pub compare : ℕ → ℕ → ℕ → Option NodeForm → Bool → Act
compare n i k (Some (node.Switch first e cs)) b = compare_case n i k b (slice_get (cases cs) k)
compare n i k o b = act.Stuck

-- ---- values that are taken

unfoldable pub has : ℕ → List Value → Act → Act
has n st a = if nat_le n (length st) then a else act.Stuck

unfoldable pub assign : List Target → List Value → Act
assign [] st = act.Replaces 0 []
assign (t ∷ ts) st = on_value (top (length ts) st) (λ v. act.Assigns t ts)

-- ---- each item

unfoldable pub act_of : Parts → Config → Item → Slots → List Value → Act
act_of P c (Run n i) slots st = run n i (form_at P n i)
act_of P c (Eval e) slots st = eval c slots (out-Expr e)
act_of P c (Drop n) slots st = has n st (act.Replaces n [])
act_of P c (Assign ts) slots st = assign ts st
act_of P c (Do o) slots st = apply c o st
act_of P c (And e) slots st = on_flag (top 0 st) (λ b. if b then act.Replaces 1 (Eval e ∷ []) else act.Pushes 1 (value.Flag false))
act_of P c (Or e) slots st = on_flag (top 0 st) (λ b. if b then act.Pushes 1 (value.Flag true) else act.Replaces 1 (Eval e ∷ []))
act_of P c (Branch a o) slots st = on_flag (top 0 st) (branch a o)
act_of P c (Loop n i) slots st = loop n i (form_at P n i)
act_of P c (Test n i) slots st = on_flag (top 0 st) (decided n i (form_at P n i))
act_of P c (Next n i) slots st = next n i (form_at P n i)
act_of P c (Each n i) slots st = on_number (top 0 st) (λ at. on_text (top 1 st) (each n i (form_at P n i) at))
act_of P c (Match n i k) slots st = on_value (top 0 st) (λ tag. matched n i k (form_at P n i))
act_of P c (Compare n i k) slots st = on_value (top 0 st) (λ v. on_value (top 1 st) (λ tag. compare n i k (form_at P n i) (is_equal v tag)))
act_of P c Leave slots st = act.Replaces 0 []
act_of P c (Spawn f) slots st = act.Spawns f
act_of P c (Defer d) slots st = act.Defers d
act_of P c (Call f) slots st = act.Calls f
act_of P c (Return n) slots st = has n st (act.Returns n)
act_of P c (Unwind m) slots st = act.Unwinds m
-- these wait for a channel
act_of P c (Pull n i) slots st = act.Waits
act_of P c (Pick n i) slots st = act.Waits
act_of P c Send slots st = act.Waits
act_of P c Recv slots st = act.Waits
act_of P c RecvOk slots st = act.Waits
