-- Declarations, read from left to right.
use Rattle.std.specs.Prelude.{ℕ, zero, suc, max, if◌then◌else◌, List, [], ◌∷◌, ◌++◌}
use Rattle.go_ast.specs.declared.expr.TypeExpr.{TypeExpr}
use Rattle.go_ast.specs.declared.decl.Param.{Param}
use Rattle.go_ast.specs.declared.decl.Decl.{Decl}
use Rattle.go_ast.specs.declared.decl.Decl.TheVariants as decl
use Rattle.go_grammar.specs.declared.form.Form.{Form}
use Rattle.go_grammar.specs.Terminals as t
use Rattle.go_grammar.specs.Decls.{params_of}
use Rattle.go_reading.specs.declared.fault.Fault.TheVariants.{Exhausted}
use Rattle.go_reading.specs.Kinds.{begins_type}
use Rattle.go_reading.specs.Lists.{list_from}
use Rattle.go_reading.specs.Types.{names, type_}
use Rattle.go_reading.specs.Specs.{consts, vars}
use Rattle.go_reading.specs.Stmts.{block}
use Rattle.go_reading.specs.Input.{Reader, Tall, ◌>>=◌, ◌>>◌, pure, fail, refuse, peek, take_span, expect, expect_name, if_kind}

module _ (n d : ℕ) where
  unfoldable pub params_from : ℕ → List Param → ℕ → Reader (Tall (List Param))
  params_from zero found h = fail Exhausted
  params_from (suc turns) found h = do
    ns ← names n
    x ← type_ d
    peek >>= if_kind t.comma (take_span >> (peek >>= if_kind t.right_parenthesis (pure (found ++ params_of ns x.0, max h x.1)) (params_from turns (found ++ params_of ns x.0) (max h x.1)))) (pure (found ++ params_of ns x.0, max h x.1))

  unfoldable pub params : Reader (Tall (List Param))
  params = do
    expect t.left_parenthesis
    xs ← (peek >>= if_kind t.right_parenthesis (pure ([], 0)) (params_from n [] 0))
    expect t.right_parenthesis
    pure xs

  unfoldable pub results : Reader (Tall (List TypeExpr))
  results = peek >>= if_kind t.left_parenthesis (do
    take_span
    xs ← list_from t.comma t.right_parenthesis (type_ d) n [] 0
    expect t.right_parenthesis
    pure xs) (peek >>= λ kind. if begins_type kind then (type_ d >>= λ x. pure (x.0 ∷ [], x.1)) else pure ([], 0))

module _ (form : Form) (n m d : ℕ) where
  unfoldable pub func : Reader (Tall Decl)
  func = do
    start ← take_span
    name ← expect_name
    ps ← params n d
    rs ← results n d
    b ← block form n m d
    pure (decl.Func (record { name = name.0; params = ps.0; results = rs.0; body = b.0.block; span = record { start = start.start; end = b.0.end } }), max (max ps.1 rs.1) b.1)

  unfoldable pub declaration : Reader (Tall Decl)
  declaration = peek >>= if_kind t.const_word (do
    take_span
    xs ← consts n d
    pure (decl.Const xs.0.0, xs.1)) (peek >>= if_kind t.var_word (do
      take_span
      xs ← vars n d
      pure (decl.Var xs.0.0, xs.1)) (peek >>= if_kind t.func_word func refuse))
