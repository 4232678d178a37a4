-- Simple statements, read from left to right.
use Rattle.std.specs.Prelude.{◌||◌, ◌&&◌, ℕ, zero, suc, ◌+◌, max, Bool, true, false, if◌then◌else◌, List, [], ◌∷◌, ◌++◌, Option, Some, None}
use Rattle.go_ast.specs.declared.token.TokenKind.{TokenKind}
use Rattle.go_ast.specs.declared.token.TokenKind.TheVariants as kind
use Rattle.go_ast.specs.declared.name.Name.{Name}
use Rattle.go_ast.specs.declared.expr.Expr.{Expr}
use Rattle.go_ast.specs.declared.expr.ExprForm.{ExprForm, out-ExprForm}
use Rattle.go_ast.specs.declared.expr.ExprForm.TheOpen.{ExprForm-F}
use Rattle.go_ast.specs.declared.expr.BinaryOp.{BinaryOp}
use Rattle.go_ast.specs.declared.block.Target.{Target}
use Rattle.go_ast.specs.declared.block.Target.TheVariants as target
use Rattle.go_ast.specs.declared.block.Stmt.{Stmt}
use Rattle.go_ast.specs.declared.block.StmtForm.TheVariants as statement
use Rattle.go_grammar.specs.Terminals as t
use Rattle.go_grammar.specs.Trees.{expr_start, expr_end, exprs_end, stmt_node, target_start, targets_start, names_start}
use Rattle.go_reading.specs.declared.fault.Fault.TheVariants.{Exhausted}
use Rattle.go_reading.specs.declared.qualified.Qualified.{Qualified}
use Rattle.go_reading.specs.declared.sign.Sign.{Sign}
use Rattle.go_reading.specs.declared.sign.Sign.TheVariants as s
use Rattle.go_reading.specs.declared.lead.Lead.{Lead}
use Rattle.go_reading.specs.declared.lead.Lead.TheVariants as l
use Rattle.go_reading.specs.Kinds.{is, begins, binary_op, sign_of}
use Rattle.go_reading.specs.Types.{qualified, expr_of, target_of as target_of_qualified}
use Rattle.go_reading.specs.Exprs.{expr, exprs}
use Rattle.go_reading.specs.Input.{Reader, Tall, ◌>>=◌, ◌>>◌, pure, fail, refuse, too_deep, peek, take_span, if_kind, limited}

-- ---- expressions that may be assigned to

abbrev pub target_by : ExprForm-F ExprForm Expr → Option Target
target_by (ExprForm-F.Plain name) = Some (target.Plain name)
target_by (ExprForm-F.Member package_name name) = Some (target.Member package_name name)
target_by _ = None

abbrev pub target_of : Expr → Option Target
target_of e = target_by (out-ExprForm e.form)

-- the name of a target that is one
abbrev pub plain_of : Target → Option Name
plain_of (target.Plain name) = Some name
plain_of (target.Member package_name name) = None

abbrev pub with_name : Name → Option (List Name) → Option (List Name)
with_name name None = None
with_name name (Some names) = Some (name ∷ names)

abbrev pub plains_by : Option Name → Option (List Name) → Option (List Name)
plains_by None rest = None
plains_by (Some name) rest = with_name name rest

-- the names of targets that are all names
abbrev pub plains_of : List Target → Option (List Name)
plains_of [] = Some []
plains_of (g ∷ gs) = plains_by (plain_of g) (plains_of gs)

abbrev pub is_name_target : Option Target → Bool
is_name_target (Some (target.Plain name)) = true
is_name_target _ = false

-- a further target; one with a `.` can only be assigned to
unfoldable pub next_target : ℕ → Reader Target
next_target c = do
  q ← qualified c
  pure (target_of_qualified q)

-- ---- behind targets. The number c is how many levels an expression may have; ranges says whether `range` may come behind `:=`.

abbrev pub eval_stmt : Expr → Stmt
eval_stmt e = stmt_node (expr_start e) (expr_end e) (statement.Eval e)

module _ (n c : ℕ) where
  unfoldable pub assigned : List Target → Reader (Tall Lead)
  assigned targets = limited c 1 (do
    take_span
    xs ← exprs n c
    pure (l.Stmt (stmt_node (targets_start targets) (exprs_end 0 xs.0) (statement.Assign targets xs.0)), xs.1 + 1))

  unfoldable pub defined_by : List Name → Reader (Tall Lead)
  defined_by names = do
    xs ← exprs n c
    pure (l.Stmt (stmt_node (names_start names) (exprs_end 0 xs.0) (statement.Define names xs.0)), xs.1 + 1)

  unfoldable pub updated : Target → BinaryOp → Reader (Tall Lead)
  updated g op = limited c 1 (do
    take_span
    x ← expr n c 1
    pure (l.Stmt (stmt_node (target_start g) (expr_end x.0) (statement.Update g op x.0)), x.1 + 1))

  unfoldable pub sent : Tall Expr → Reader (Tall Lead)
  sent x = limited c x.1 (do
    take_span
    y ← expr n c 1
    pure (l.Stmt (stmt_node (expr_start x.0) (expr_end y.0) (statement.Send x.0 y.0)), max x.1 y.1 + 1))

module _ (n c : ℕ) (ranges : Bool) where
  -- where a range may come, any value that is too deep is refused behind the `:=`
  unfoldable pub defined : List Name → Reader (Tall Lead)
  defined names = if ranges then (take_span >> (peek >>= if_kind t.range_word (pure (l.Range names, 0)) (peek >>= λ kind. if begins kind then limited c 1 (defined_by n c names) else refuse))) else limited c 1 (take_span >> defined_by n c names)

  abbrev pub defined_if : Reader (Tall Lead) → Option (List Name) → Reader (Tall Lead)
  defined_if other None = other
  defined_if other (Some names) = defined names

  -- from the sign behind the last of some targets on
  unfoldable pub given : List Target → Reader (Tall Lead)
  given found = peek >>= if_kind t.assign (assigned n c found) (peek >>= if_kind t.define (defined_if refuse (plains_of found)) refuse)

  -- behind a comma, further targets and what is assigned
  unfoldable pub targets_from : ℕ → List Target → Reader (Tall Lead)
  targets_from zero found = fail Exhausted
  targets_from (suc turns) found = do
    g ← next_target c
    peek >>= if_kind t.comma (take_span >> targets_from turns (found ++ g ∷ [])) (given (found ++ g ∷ []))

  abbrev pub comma_by : Target → Option Name → Reader (Tall Lead)
  comma_by g None = limited c 1 (take_span >> targets_from n (g ∷ []))
  comma_by g (Some name) = if ranges then (take_span >> targets_from n (g ∷ [])) else limited c 1 (take_span >> targets_from n (g ∷ []))

  abbrev pub by_target : Tall Expr → Target → Sign → Reader (Tall Lead)
  by_target x g s.Up = do
    finish ← take_span
    pure (l.Stmt (stmt_node (target_start g) finish.end (statement.Up g)), 1)
  by_target x g s.Down = do
    finish ← take_span
    pure (l.Stmt (stmt_node (target_start g) finish.end (statement.Down g)), 1)
  by_target x g (s.Update op) = updated n c g op
  by_target x g s.Assign = assigned n c (g ∷ [])
  by_target x g s.Define = defined_if (pure (l.Expr x.0, x.1)) (plains_of (g ∷ []))
  by_target x g s.Comma = comma_by g (plain_of g)
  by_target x g _ = pure (l.Expr x.0, x.1)

  abbrev pub target_by_sign : Tall Expr → Sign → Option Target → Reader (Tall Lead)
  target_by_sign x sign None = pure (l.Expr x.0, x.1)
  target_by_sign x sign (Some g) = by_target x g sign

  abbrev pub by_sign : Tall Expr → Sign → Reader (Tall Lead)
  by_sign x s.Arrow = sent n c x
  by_sign x s.Other = pure (l.Expr x.0, x.1)
  by_sign x sign = target_by_sign x sign (target_of x.0)

  -- what an expression at the front of a statement is part of: a statement, the names of a range, or no more than itself
  unfoldable pub lead : Tall Expr → Reader (Tall Lead)
  lead x = peek >>= λ kind. by_sign x (sign_of kind)

-- ---- where no expression may stand: only `++` and `--` are no higher than one level

-- whether an expression goes on with the token
abbrev pub is_some : Option BinaryOp → Bool
is_some None = false
is_some (Some op) = true

unfoldable pub goes_on : Option TokenKind → Bool
goes_on kind = is kind t.left_parenthesis || is kind t.left_bracket || is_some (binary_op kind)

abbrev pub is_plain : Option Name → Bool
is_plain None = true
is_plain (Some member) = false

-- a name that is a statement is one level too high, which what follows it is asked
abbrev pub bare_eval : Qualified → Reader (Tall Stmt)
bare_eval q = pure (eval_stmt (expr_of q), 2)

abbrev pub by_bare : Bool → Qualified → Option TokenKind → Sign → Reader (Tall Stmt)
by_bare labels q kind s.Up = do
  finish ← take_span
  pure (stmt_node q.name.at finish.end (statement.Up (target_of_qualified q)), 1)
by_bare labels q kind s.Down = do
  finish ← take_span
  pure (stmt_node q.name.at finish.end (statement.Down (target_of_qualified q)), 1)
by_bare labels q kind s.Define = if is_plain q.member then too_deep else bare_eval q
by_bare labels q kind s.Other = if goes_on kind then too_deep else (if labels && is_plain q.member && is kind t.colon then too_deep else bare_eval q)
by_bare labels q kind _ = too_deep

unfoldable pub bare : Bool → Reader (Tall Stmt)
bare labels = peek >>= if_kind kind.Name (do
  q ← qualified 1
  peek >>= λ kind. by_bare labels q kind (sign_of kind)) (peek >>= λ kind. if begins kind then too_deep else refuse)

abbrev pub stmt_by : Tall Lead → Reader (Tall Stmt)
stmt_by (l.Expr e, h) = pure (eval_stmt e, h + 1)
stmt_by (l.Stmt x, h) = pure (x, h)
stmt_by (l.Range names, h) = refuse

-- a simple statement whose expressions may have c levels
unfoldable pub simple : ℕ → ℕ → Reader (Tall Stmt)
simple n zero = bare false
simple n (suc c) = do
  x ← expr n (suc c) 1
  y ← lead n (suc c) false x
  stmt_by y
