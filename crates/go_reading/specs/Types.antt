-- Names and types, read from left to right. The number d is how many levels there may be.
use Rattle.std.specs.Prelude.{ℕ, zero, suc, ◌+◌, if◌then◌else◌, List, [], Option, Some, None}
use Rattle.go_ast.specs.declared.name.Name.{Name}
use Rattle.go_ast.specs.declared.expr.TypeExpr.{TypeExpr}
use Rattle.go_ast.specs.declared.expr.TypeForm.{TypeForm}
use Rattle.go_ast.specs.declared.expr.TypeForm.TheVariants as type_form
use Rattle.go_ast.specs.declared.expr.Expr.{Expr}
use Rattle.go_ast.specs.declared.expr.ExprForm.{ExprForm}
use Rattle.go_ast.specs.declared.expr.ExprForm.TheVariants as form
use Rattle.go_ast.specs.declared.block.Target.{Target}
use Rattle.go_ast.specs.declared.block.Target.TheVariants as target
use Rattle.go_grammar.specs.Terminals as t
use Rattle.go_grammar.specs.Trees.{type_node, type_end, expr_node}
use Rattle.go_reading.specs.declared.fault.Fault.TheVariants.{Exhausted}
use Rattle.go_reading.specs.declared.qualified.Qualified.{Qualified}
use Rattle.go_reading.specs.Kinds.{begins_type}
use Rattle.go_reading.specs.Lists.{row_from}
use Rattle.go_reading.specs.Input.{Reader, Tall, ◌>>=◌, ◌>>◌, pure, fail, peek, take_span, expect_name, if_kind, limited}

-- ---- names

abbrev pub name_item : Reader (Tall Name)
name_item = do
  x ← expect_name
  pure (x.0, 0)

unfoldable pub names : ℕ → Reader (List Name)
names n = do
  xs ← row_from t.comma name_item n [] 0
  pure xs.0

-- a name, or two with a `.` between, if there is a level left for what two need
unfoldable pub qualified : ℕ → Reader Qualified
qualified c = do
  x ← expect_name
  peek >>= if_kind t.point (limited c 1 (do
    take_span
    y ← expect_name
    pure (record { name = x.0; member = Some y.0; end = y.1 }))) (pure (record { name = x.0; member = None; end = x.1 }))

abbrev pub type_form_by : Name → Option Name → TypeForm
type_form_by name None = type_form.Plain name
type_form_by name (Some member) = type_form.Member name member

abbrev pub type_of : Qualified → TypeExpr
type_of q = type_node q.name.at q.end (type_form_by q.name q.member)

abbrev pub expr_form_by : Name → Option Name → ExprForm
expr_form_by name None = form.Plain name
expr_form_by name (Some member) = form.Member name member

abbrev pub expr_of : Qualified → Expr
expr_of q = expr_node q.name.at q.end (expr_form_by q.name q.member)

abbrev pub target_by : Name → Option Name → Target
target_by name None = target.Plain name
target_by name (Some member) = target.Member name member

abbrev pub target_of : Qualified → Target
target_of q = target_by q.name q.member

-- ---- types

-- a type whose first token is `chan` or another; of reads the type behind `chan`
unfoldable pub type_in : ℕ → Reader (Tall TypeExpr) → Reader (Tall TypeExpr)
type_in d of = peek >>= if_kind t.chan_word (limited d 1 (do
  start ← take_span
  x ← of
  pure (type_node start.start (type_end x.0) (type_form.Chan x.0), x.1 + 1))) (do
    q ← qualified 1
    pure (type_of q, 1))

unfoldable pub type_ : ℕ → Reader (Tall TypeExpr)
type_ zero = fail Exhausted
type_ (suc d) = type_in d (type_ d)

-- a type, or none
unfoldable pub maybe_type : ℕ → Reader (Tall (Option TypeExpr))
maybe_type d = peek >>= λ kind. if begins_type kind then (do
  x ← type_ d
  pure (Some x.0, x.1)) else pure (None, 0)
