-- Expressions, read from left to right. The number n bounds the turns of each repetition; d is how many levels there may be.
-- A nested reader `expr least` reads an expression whose operators outside parentheses bind at least so tightly.
use Rattle.std.specs.Prelude.{◌||◌, ℕ, zero, suc, ◌+◌, max, if◌then◌else◌, nat_lt, List, [], Option, Some, None}
use Rattle.go_ast.specs.declared.token.TokenKind.TheVariants as kind
use Rattle.go_ast.specs.declared.expr.Expr.{Expr}
use Rattle.go_ast.specs.declared.expr.BinaryOp.{BinaryOp}
use Rattle.go_ast.specs.declared.expr.UnaryOp.{UnaryOp}
use Rattle.go_ast.specs.declared.expr.ExprForm.TheVariants as form
use Rattle.go_grammar.specs.Terminals as t
use Rattle.go_grammar.specs.Trees.{type_end, expr_node, expr_start, expr_end, int_expr, rune_expr, text_expr, binary_expr, level}
use Rattle.go_reading.specs.declared.fault.Fault.TheVariants.{Exhausted}
use Rattle.go_reading.specs.Kinds.{binary_op, unary_op}
use Rattle.go_reading.specs.Lists.{row_from, list_of}
use Rattle.go_reading.specs.Types.{qualified, expr_of, type_}
use Rattle.go_reading.specs.Input.{Reader, Tall, ◌>>=◌, ◌>>◌, pure, fail, peek, take_as, take_span, expect, if_kind, limited}

unfoldable pub chan_operand : ℕ → Reader (Tall Expr)
chan_operand d = do
  start ← take_span
  x ← type_ d
  pure (expr_node start.start (type_end x.0) (form.Chan x.0), x.1 + 1)

module _ (n d : ℕ) (expr : ℕ → Reader (Tall Expr)) where
  unfoldable pub args : Reader (Tall (List Expr))
  args = list_of t.comma t.right_parenthesis (expr 1) n

  unfoldable pub bound : Reader (Tall (Option Expr))
  bound = peek >>= if_kind t.right_bracket (pure (None, 0)) (do
    x ← expr 1
    pure (Some x.0, x.1))

  -- the rest of a cut, from its `:` on
  unfoldable pub cut_from : Expr → ℕ → Option Expr → ℕ → Reader (Tall Expr)
  cut_from of h low i = do
    expect t.colon
    x ← bound
    finish ← expect t.right_bracket
    pure (expr_node (expr_start of) finish.end (form.Cut of low x.0), max h (max i x.1) + 1)

  -- an index or a cut, from its `[` on
  unfoldable pub bracket : Expr → ℕ → Reader (Tall Expr)
  bracket of h = do
    take_span
    peek >>= if_kind t.colon (cut_from of h None 0) (do
      x ← expr 1
      peek >>= if_kind t.right_bracket (do
        finish ← take_span
        pure (expr_node (expr_start of) finish.end (form.Index of x.0), max h x.1 + 1)) (cut_from of h (Some x.0) x.1))

  -- a call, from its `(` on
  unfoldable pub call : Expr → ℕ → Reader (Tall Expr)
  call of h = do
    take_span
    xs ← args
    finish ← expect t.right_parenthesis
    pure (expr_node (expr_start of) finish.end (form.Call of xs.0), max h xs.1 + 1)

  unfoldable pub suffixes_from : ℕ → Expr → ℕ → Reader (Tall Expr)
  suffixes_from zero of h = fail Exhausted
  suffixes_from (suc turns) of h = peek >>= if_kind t.left_parenthesis (limited d h (do
    x ← call of h
    suffixes_from turns x.0 x.1)) (peek >>= if_kind t.left_bracket (limited d h (do
      x ← bracket of h
      suffixes_from turns x.0 x.1)) (pure (of, h)))

  unfoldable pub paren : Reader (Tall Expr)
  paren = do
    start ← take_span
    x ← expr 1
    finish ← expect t.right_parenthesis
    pure (expr_node start.start finish.end (form.Paren x.0), x.1 + 1)

  unfoldable pub operand : Reader (Tall Expr)
  operand =
      peek >>= if_kind kind.Int (take_as int_expr >>= λ x. pure (x, 1))
      (peek >>= if_kind kind.Rune (take_as rune_expr >>= λ x. pure (x, 1))
      (peek >>= if_kind kind.Text (take_as text_expr >>= λ x. pure (x, 1))
      (peek >>= if_kind t.chan_word (limited d 1 (chan_operand d))
      (peek >>= if_kind t.left_parenthesis (limited d 1 paren)
      (qualified 1 >>= λ q. pure (expr_of q, 1))))))

  unfoldable pub primary : Reader (Tall Expr)
  primary = do
    x ← operand
    suffixes_from n x.0 x.1

  abbrev pub by_sign : Option UnaryOp → Reader (Tall Expr)
  by_sign None = primary
  by_sign (Some op) = limited d 1 (do
    start ← take_span
    x ← expr 6
    pure (expr_node start.start (expr_end x.0) (form.Unary op x.0), x.1 + 1))

  unfoldable pub unary : Reader (Tall Expr)
  unary = peek >>= λ kind. by_sign (unary_op kind)

  -- after a left side, where an operator between these levels may stand
  abbrev pub by_operator : ℕ → ℕ → Expr → ℕ → (ℕ → Expr → ℕ → Reader (Tall Expr)) → Option BinaryOp → Reader (Tall Expr)
  by_operator least most left h again None = pure (left, h)
  by_operator least most left h again (Some op) = if nat_lt (level op) least || nat_lt most (level op) then pure (left, h) else limited d h (do
    take_span
    x ← expr (level op + 1)
    again (level op) (binary_expr op left x.0) (max h x.1 + 1))

  unfoldable pub climb : ℕ → ℕ → ℕ → Expr → ℕ → Reader (Tall Expr)
  climb least zero most left h = fail Exhausted
  climb least (suc turns) most left h = peek >>= λ kind. by_operator least most left h (climb least turns) (binary_op kind)

  unfoldable pub deeper : ℕ → Reader (Tall Expr)
  deeper least = do
    x ← unary
    climb least n 6 x.0 x.1

unfoldable pub expr : ℕ → ℕ → ℕ → Reader (Tall Expr)
expr n zero least = fail Exhausted
expr n (suc d) least = deeper n d (expr n d) least

-- expressions with commas between
unfoldable pub exprs : ℕ → ℕ → Reader (Tall (List Expr))
exprs n d = row_from t.comma (expr n d 1) n [] 0
