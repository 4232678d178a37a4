-- Which lists of statements terminate, and what is found at the end of a body. Go specification, "Terminating statements",
-- "Label scopes", and, for unused variables, "Variable declarations" under "Implementation restriction".
use Rattle.std.specs.Prelude.{ℕ, zero, suc, ◌+◌, ◌-◌, ◌==◌, nat_lt, Bool, true, false, not, ◌&&◌, ◌||◌, List, [], ◌∷◌, length, slice_get, unwrap_or, Option, Some, None, Ok, is_none, if◌then◌else◌}
use Rattle.std.specs.List.{list_any, list_all}
use Rattle.std.specs.Option.{option_map_or}
use Rattle.go_ast.specs.declared.kind.SourceKind.TheVariants as source
use Rattle.go_meaning.specs.declared.expr.Expr.{Expr, out-Expr}
use Rattle.go_meaning.specs.declared.expr.Expr.TheOpen.{Expr-F}
use Rattle.go_meaning.specs.declared.expr.Op.{Op}
use Rattle.go_meaning.specs.declared.expr.Op.TheVariants as op
use Rattle.go_meaning.specs.declared.node.Simple.{Simple}
use Rattle.go_meaning.specs.declared.node.Simple.TheVariants as simple
use Rattle.go_meaning.specs.declared.node.CaseClause.{CaseClause}
use Rattle.go_meaning.specs.declared.node.CommClause.{CommClause}
use Rattle.go_meaning.specs.declared.node.Node.{Node}
use Rattle.go_meaning.specs.declared.node.NodeForm.{NodeForm}
use Rattle.go_meaning.specs.declared.node.NodeForm.TheVariants as node
use Rattle.go_types.specs.declared.walk.Label.{Label}
use Rattle.go_types.specs.declared.walk.Walk.{Walk}
use Rattle.go_types.specs.Checking.{Checked, and_then, fault}

-- the lists of a program by their numbers
abbrev pub Lists : Type 0
Lists = List (List Node)

abbrev pub list_at : Lists → ℕ → List Node
list_at ls n = unwrap_or (slice_get ls n) []

-- ---- a `break` that names a statement around a list: the one within which so many others stand

abbrev pub cases_break : (ℕ → ℕ → Bool) → ℕ → List CaseClause → Bool
cases_break w k cs = list_any (λ (c : CaseClause). w k c.list) cs

abbrev pub comms_break : (ℕ → ℕ → Bool) → ℕ → List CommClause → Bool
comms_break w k cs = list_any (λ (c : CommClause). w k c.list) cs

abbrev pub breaks_form : (ℕ → ℕ → Bool) → ℕ → NodeForm → Bool
breaks_form w k (node.Break j) = j == k
breaks_form w k (node.Block l b) = w k l
breaks_form w k (node.If f e a o) = w k a || option_map_or (w k) o false
breaks_form w k (node.For f e g l) = w (k + 1) l
breaks_form w k (node.RangeText o r e l) = w (k + 1) l
breaks_form w k (node.RangeChannel v e l) = w (k + 1) l
breaks_form w k (node.Switch f e cs) = cases_break w (k + 1) cs
breaks_form w k (node.Select cs) = comms_break w (k + 1) cs
breaks_form w k form = false

abbrev pub statements_break : (ℕ → ℕ → Bool) → ℕ → List Node → Bool
statements_break w k ss = list_any (λ (s : Node). breaks_form w k s.form) ss

-- in a list, down to a depth
abbrev pub breaks : Lists → ℕ → ℕ → ℕ → Bool
breaks ls zero k n = false
breaks ls (suc depth) k n = statements_break (breaks ls depth) k (list_at ls n)

-- ---- statements that terminate

abbrev pub is_panic_op : Op → Bool
is_panic_op op.Panic = true
is_panic_op o = false

abbrev pub is_panic : Expr-F Expr → Bool
is_panic (Expr-F.Apply o es) = is_panic_op o
is_panic e = false

-- a call of the predeclared `panic`
abbrev pub is_panic_call : Simple → Bool
is_panic_call (simple.Eval e n b) = is_panic (out-Expr e)
is_panic_call s = false

abbrev pub is_fall : NodeForm → Bool
is_fall (node.Fallthrough l) = true
is_fall form = false

abbrev pub is_default : CaseClause → Bool
is_default c = is_none c.values

-- what holds of the last statement of a list
abbrev pub last_is : (NodeForm → Bool) → List Node → Bool
last_is p ss = option_map_or (λ (s : Node). p s.form) (slice_get ss (length ss - 1)) false

abbrev pub falls : Lists → ℕ → Bool
falls ls n = last_is is_fall (list_at ls n)

abbrev pub cases_end : Lists → (ℕ → Bool) → (ℕ → Bool) → List CaseClause → Bool
cases_end ls w b cs = list_all (λ (c : CaseClause). not (b c.list) && (w c.list || falls ls c.list)) cs

abbrev pub comms_end : (ℕ → Bool) → (ℕ → Bool) → List CommClause → Bool
comms_end w b cs = list_all (λ (c : CommClause). not (b c.list) && w c.list) cs

abbrev pub has_default : List CaseClause → Bool
has_default cs = list_any is_default cs

-- a statement, where it is told which lists terminate and in which a `break` names the statement around them
abbrev pub ends_form : Lists → (ℕ → Bool) → (ℕ → Bool) → NodeForm → Bool
ends_form ls w b (node.Return es n) = true
ends_form ls w b (node.Simple s) = is_panic_call s
ends_form ls w b (node.Block l c) = w l
ends_form ls w b (node.If f e a (Some o)) = w a && w o
ends_form ls w b (node.For f None g l) = not (b l)
ends_form ls w b (node.Switch f e cs) = has_default cs && cases_end ls w b cs
ends_form ls w b (node.Select cs) = comms_end w b cs
ends_form ls w b form = false

-- a list terminates if its last statement does
abbrev pub ends : Lists → ℕ → ℕ → Bool
ends ls zero n = false
ends ls (suc depth) n = last_is (ends_form ls (ends ls depth) (breaks ls depth 0)) (list_at ls n)

-- no list is nested deeper than there are lists
unfoldable pub terminates : Lists → ℕ → Bool
terminates ls n = ends ls (length ls) n

-- ---- the end of a body

-- a variable that is never read; slots are numbered by the offsets of their variables
abbrev pub unread : List Bool → List ℕ → Option ℕ
unread [] ats = None
unread (r ∷ rs) [] = None
unread (r ∷ rs) (at ∷ ats) = if r then unread rs ats else Some at

-- a label that is never named
abbrev pub unnamed : List Bool → List Label → Option ℕ
unnamed [] ls = None
unnamed (b ∷ bs) [] = None
unnamed (b ∷ bs) (l ∷ ls) = if b then unnamed bs ls else Some l.at

-- the first of an unused variable and an unused label
abbrev pub unused : Option ℕ → Option ℕ → Checked (Unit {0})
unused None None = Ok tt
unused (Some x) None = fault x source.UnusedVariable
unused None (Some l) = fault l source.UnusedLabel
unused (Some x) (Some l) = if nat_lt l x then fault l source.UnusedLabel else fault x source.UnusedVariable

abbrev pub is_missing : Walk → ℕ → Bool
is_missing s n = nat_lt 0 (length s.results) && not (terminates s.lists n)

-- At the end of a body: that it terminates where there are results, else at its closing brace, and then what is unused.
abbrev pub ended : ℕ → ℕ → Walk → Checked (Unit {0})
ended right n s =
    if is_missing s n then fault right source.MissingReturn else unused (unread s.marks.read s.declared) (unnamed s.named s.labels)
