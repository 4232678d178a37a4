-- Constants and variables, read from left to right.
use Rattle.std.specs.Prelude.{ℕ, max, List, [], Option, Some, None}
use Rattle.go_ast.specs.declared.token.TokenKind.TheVariants as kind
use Rattle.go_ast.specs.declared.name.Name.{Name}
use Rattle.go_ast.specs.declared.expr.TypeExpr.{TypeExpr}
use Rattle.go_ast.specs.declared.expr.Expr.{Expr}
use Rattle.go_ast.specs.declared.block.ConstSpec.{ConstSpec}
use Rattle.go_ast.specs.declared.block.VarSpec.{VarSpec}
use Rattle.go_grammar.specs.Terminals as t
use Rattle.go_grammar.specs.Trees.{const_end, var_end}
use Rattle.go_reading.specs.Lists.{group_of}
use Rattle.go_reading.specs.Types.{names, maybe_type}
use Rattle.go_reading.specs.Exprs.{expr, exprs}
use Rattle.go_reading.specs.Input.{Reader, Tall, ◌>>=◌, ◌>>◌, pure, peek, expect, expect_name, if_kind}

module _ (n d : ℕ) where
  unfoldable pub const_spec : Reader (Tall ConstSpec)
  const_spec = do
    name ← expect_name
    of ← maybe_type d
    expect t.assign
    x ← expr n d 1
    pure (record { name = name.0; kind = of.0; value = x.0 }, max of.1 x.1)

  unfoldable pub consts : Reader (Tall (List ConstSpec × ℕ))
  consts = group_of kind.Name d const_spec const_end n

  abbrev pub var_of : List Name → Option TypeExpr → List Expr → VarSpec
  var_of ns of es = record { names = ns; kind = of; values = es }

  unfoldable pub values_of : List Name → Tall (Option TypeExpr) → Reader (Tall VarSpec)
  values_of ns of = do
    expect t.assign
    xs ← exprs n d
    pure (var_of ns of.0 xs.0, max of.1 xs.1)

  -- behind the names and the type, if there is one
  abbrev pub values_by : List Name → Option TypeExpr → ℕ → Reader (Tall VarSpec)
  values_by ns None h = values_of ns (None, h)
  values_by ns (Some of) h = peek >>= if_kind t.assign (values_of ns (Some of, h)) (pure (var_of ns (Some of) [], h))

  unfoldable pub var_spec : Reader (Tall VarSpec)
  var_spec = do
    ns ← names n
    of ← maybe_type d
    values_by ns of.0 of.1

  unfoldable pub vars : Reader (Tall (List VarSpec × ℕ))
  vars = group_of kind.Name d var_spec var_end n
