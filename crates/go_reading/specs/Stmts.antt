-- Statements, read from left to right. The number n bounds the turns of each repetition, m the clauses of a select; d is how
-- many levels there may be below the statement.
use Rattle.std.specs.Prelude.{◌||◌, ◌&&◌, ℕ, zero, suc, ◌+◌, ◌-◌, max, Bool, true, false, if◌then◌else◌, nat_le, nat_lt, List, [], ◌∷◌, ◌++◌, length, Option, Some, None}
use Rattle.go_ast.specs.declared.token.TokenKind.{TokenKind}
use Rattle.go_ast.specs.declared.token.TokenKind.TheVariants as kind
use Rattle.go_ast.specs.declared.span.Span.{Span}
use Rattle.go_ast.specs.declared.name.Name.{Name}
use Rattle.go_ast.specs.declared.expr.Expr.{Expr}
use Rattle.go_ast.specs.declared.expr.ExprForm.TheVariants as form
use Rattle.go_ast.specs.declared.expr.UnaryOp.TheVariants as sign
use Rattle.go_ast.specs.declared.block.Target.{Target}
use Rattle.go_ast.specs.declared.block.Target.TheVariants as target
use Rattle.go_ast.specs.declared.block.Stmt.{Stmt}
use Rattle.go_ast.specs.declared.block.StmtForm.{StmtForm}
use Rattle.go_ast.specs.declared.block.StmtForm.TheVariants as statement
use Rattle.go_ast.specs.declared.block.Block.{Block}
use Rattle.go_ast.specs.declared.block.CaseClause.{CaseClause}
use Rattle.go_ast.specs.declared.block.CommClause.{CommClause}
use Rattle.go_ast.specs.declared.block.Comm.{Comm}
use Rattle.go_ast.specs.declared.block.Comm.TheVariants as comm
use Rattle.go_grammar.specs.declared.form.Form.{Form}
use Rattle.go_grammar.specs.declared.form.Form.TheVariants as text_form
use Rattle.go_grammar.specs.Terminals as t
use Rattle.go_grammar.specs.Trees.{stmt_node, stmt_end, expr_node, expr_end, exprs_end, block_node, block_left, hidden_block, other_node, case_node, comm_node}
use Rattle.go_reading.specs.declared.fault.Fault.TheVariants.{TooMany, Exhausted}
use Rattle.go_reading.specs.declared.lead.Lead.{Lead}
use Rattle.go_reading.specs.declared.lead.Lead.TheVariants as l
use Rattle.go_reading.specs.declared.header.Braced.{Braced}
use Rattle.go_reading.specs.declared.header.Header.{Header}
use Rattle.go_reading.specs.declared.header.Else.{Else}
use Rattle.go_reading.specs.declared.header.ForHead.{ForHead}
use Rattle.go_reading.specs.declared.header.ForHead.TheVariants as f
use Rattle.go_reading.specs.Kinds.{is, begins, begins_stmt, binary_op, ends_list}
use Rattle.go_reading.specs.Exprs.{expr, exprs, climb}
use Rattle.go_reading.specs.Specs.{consts, vars}
use Rattle.go_reading.specs.Simple.{target_of, plains_of, next_target, eval_stmt, lead, stmt_by, bare, simple, is_some}
use Rattle.go_reading.specs.Counters.{fits, first_fit, counter_stmt, alone_of, far_of, counted_or}
use Rattle.go_grammar.specs.Words.{Word}
use Rattle.go_reading.specs.Input.{Reader, Tall, ◌>>=◌, ◌>>◌, pure, fail, refuse, too_deep, peek, take_span, take_name, expect, if_kind, limited}

-- ---- headers

module _ (n d : ℕ) where
  -- an expression, unless the token comes
  unfoldable pub maybe_before : TokenKind → Reader (Tall (Option Expr))
  maybe_before close = peek >>= if_kind close (pure (None, 0)) (do
    x ← expr n d 1
    pure (Some x.0, x.1))

  abbrev pub header_of : Option Stmt → Tall (Option Expr) → ℕ → Tall Header
  header_of first x h = (record { first = first; test = x.0 }, max h x.1)

  -- behind a first statement: its `;`, and what may stand before the `{`, which has to if it is a test
  unfoldable pub after_first : Bool → Stmt → ℕ → Reader (Tall Header)
  after_first tests first h = do
    expect t.semicolon
    x ← (if tests then (expr n d 1 >>= λ x. pure (Some x.0, x.1)) else maybe_before t.left_brace)
    pure (header_of (Some first) x h)

  abbrev pub header_by : Bool → Tall Lead → Reader (Tall Header)
  header_by tests (l.Expr e, h) = peek >>= if_kind t.semicolon (limited d (h + 1) (after_first tests (eval_stmt e) (h + 1))) (pure (header_of None (Some e, h) 0))
  header_by tests (l.Stmt x, h) = after_first tests x h
  header_by tests (l.Range names, h) = refuse

  -- what stands between `if` or `switch` and its `{`
  unfoldable pub header : Bool → Reader (Tall Header)
  header tests = do
    x ← expr n d 1
    y ← lead n (d - 1) false x
    header_by tests y

  -- the same of a `switch`, where it may be nothing
  unfoldable pub maybe_header : Reader (Tall Header)
  maybe_header = peek >>= if_kind t.left_brace (pure (record { first = None; test = None }, 0)) (peek >>= λ kind. if begins kind then limited d 1 (header false) else refuse)

-- ---- comm clauses

module _ (n d : ℕ) where
  unfoldable pub take_channel : Reader (Tall Expr)
  take_channel = do
    expect t.arrow
    expr n d 6

  unfoldable pub send_comm : Tall Expr → Reader (Tall Comm)
  send_comm x = do
    expect t.arrow
    y ← expr n d 1
    pure (comm.Send x.0 y.0, max x.1 y.1)

  abbrev pub new_comm : Option (List Name) → Reader (Tall Comm)
  new_comm None = refuse
  new_comm (Some names) = do
    take_span
    x ← take_channel
    pure (comm.TakeNew names x.0, x.1)

  -- from the sign behind the last of some targets on
  unfoldable pub comm_taken : List Target → Reader (Tall Comm)
  comm_taken found = peek >>= if_kind t.assign (do
    take_span
    x ← take_channel
    pure (comm.Take found x.0, x.1)) (peek >>= if_kind t.define (new_comm (plains_of found)) refuse)

  -- behind a target
  unfoldable pub comm_targets : ℕ → List Target → Reader (Tall Comm)
  comm_targets zero found = fail Exhausted
  comm_targets (suc turns) found = peek >>= if_kind t.comma (do
    take_span
    g ← next_target 1
    comm_targets turns (found ++ g ∷ [])) (comm_taken found)

  abbrev pub comm_by : Option Target → Reader (Tall Comm)
  comm_by None = refuse
  comm_by (Some g) = comm_targets n (g ∷ [])

  -- behind `<-` and an operand: a receive, or the front of the channel of a send
  unfoldable pub received : Span → Tall Expr → Reader (Tall Comm)
  received start x = peek >>= if_kind t.colon (pure (comm.Take [] x.0, x.1)) (peek >>= λ kind. if is kind t.arrow || is_some (binary_op kind) then limited d (x.1 + 1) (do
    y ← climb n (d - 1) (expr n (d - 1)) 1 n 6 (expr_node start.start (expr_end x.0) (form.Unary sign.Receive x.0)) (x.1 + 1)
    send_comm y) else refuse)

  unfoldable pub comm_in : Reader (Tall Comm)
  comm_in = peek >>= if_kind t.arrow (do
    start ← take_span
    x ← expr n d 6
    received start x) (do
      x ← expr n d 1
      peek >>= if_kind t.arrow (send_comm x) (comm_by (target_of x.0)))

-- ---- clauses, up to their colons

abbrev pub begins_clause : Option TokenKind → Bool
begins_clause kind = is kind t.case_word || is kind t.default_word

module _ (n d : ℕ) where
  -- the values of a clause, and the offset of its colon
  unfoldable pub case_head : Reader (Tall (Option (List Expr) × ℕ))
  case_head = peek >>= if_kind t.case_word (limited d 1 (do
    take_span
    es ← exprs n d
    colon ← expect t.colon
    pure ((Some es.0, colon.start), es.1))) (do
      take_span
      colon ← expect t.colon
      pure ((None, colon.start), 0))

  unfoldable pub comm_head : Reader (Tall (Comm × ℕ))
  comm_head = peek >>= if_kind t.case_word (limited d 1 (do
    take_span
    c ← comm_in n d
    colon ← expect t.colon
    pure ((c.0, colon.start), c.1))) (do
      take_span
      colon ← expect t.colon
      pure ((comm.Default, colon.start), 0))

-- ---- lists of statements

-- the levels that each statement of a text of the form needs: a counter needs none
abbrev pub least : Form → ℕ
least text_form.Source = 1
least (text_form.Covered var mode count) = if nat_lt 0 count then 0 else 1

module _ (n d : ℕ) (stmt : Reader (Tall Stmt)) where
  -- behind a statement: the list goes on, or ends
  unfoldable pub next_from : Bool → List Stmt → ℕ → Reader (Tall (List Stmt)) → Reader (Tall (List Stmt))
  next_from clause found h again = peek >>= if_kind t.semicolon (take_span >> (peek >>= λ kind. if ends_list clause kind then pure (found, h) else again)) (pure (found, h))

  -- a statement that is one level too high is so at what follows it; where that begins a clause and no more may come, the number counts
  unfoldable pub stmts_from : Bool → Bool → ℕ → List Stmt → ℕ → Reader (Tall (List Stmt))
  stmts_from clause full zero found h = fail Exhausted
  stmts_from clause full (suc turns) found h = do
    x ← stmt
    peek >>= λ kind. if is kind t.semicolon || ends_list clause kind then (peek >>= λ kind. if full && begins_clause kind then fail TooMany else limited d x.1 (next_from clause (found ++ x.0 ∷ []) (max h x.1) (stmts_from clause full turns (found ++ x.0 ∷ []) (max h x.1)))) else refuse

module _ (form : Form) (n d : ℕ) (stmt : Reader (Tall Stmt)) where
  -- in a block or in a clause, which may be the last that may come
  unfoldable pub list : Bool → Bool → Reader (Tall (List Stmt))
  list clause full = peek >>= λ kind. if ends_list clause kind then pure ([], 0) else (peek >>= λ kind. if begins_stmt kind then limited d (least form) (stmts_from n d stmt clause full n [] 0) else refuse)

  unfoldable pub block_in : Reader (Tall Braced)
  block_in = do
    left ← expect t.left_brace
    xs ← list false false
    right ← expect t.right_brace
    pure (record { block = block_node left.start right.start xs.0; end = right.end }, xs.1 + 1)

  unfoldable pub cases_from : ℕ → List CaseClause → ℕ → Reader (Tall (List CaseClause))
  cases_from zero found h = fail Exhausted
  cases_from (suc turns) found h = peek >>= λ kind. if begins_clause kind then (do
    x ← case_head n d
    xs ← list true false
    cases_from turns (found ++ case_node x.0.0 x.0.1 xs.0 ∷ []) (max h (max x.1 xs.1))) else pure (found, h)

  unfoldable pub comms_from : ℕ → ℕ → List CommClause → ℕ → Reader (Tall (List CommClause))
  comms_from m zero found h = fail Exhausted
  comms_from m (suc turns) found h = peek >>= λ kind. if begins_clause kind then (if nat_le m (length found) then fail TooMany else (do
    x ← comm_head n d
    xs ← list true (nat_le m (length found + 1))
    comms_from m turns (found ++ comm_node x.0.0 x.0.1 xs.0 ∷ []) (max h (max x.1 xs.1)))) else pure (found, h)

-- ---- if

module _ (n d : ℕ) (block : Reader (Tall Braced)) where
  -- what follows the block of an `if`; hidden reads an `if` two levels further down
  unfoldable pub else_from : Reader (Tall Stmt) → ℕ → Reader (Tall Else)
  else_from hidden end = peek >>= if_kind t.else_word (do
    after ← take_span
    peek >>= if_kind t.if_word (limited d 3 (do
      x ← hidden
      pure (record { other = Some (other_node after.end (hidden_block after.end x.0)); end = stmt_end x.0 }, x.1 + 1))) (do
        b ← block
        pure (record { other = Some (other_node after.end b.0.block); end = b.0.end }, b.1))) (pure (record { other = None; end = end }, 0))

  abbrev pub if_by : Span → Header → ℕ → Reader (Tall Stmt) → Option Expr → Reader (Tall Stmt)
  if_by start x h hidden None = refuse
  if_by start x h hidden (Some test) = do
    b ← block
    o ← else_from hidden b.0.end
    pure (stmt_node start.start o.0.end (statement.If x.first test b.0.block o.0.other), max h (max b.1 o.1) + 1)

  unfoldable pub if_in : Reader (Tall Stmt) → Reader (Tall Stmt)
  if_in hidden = limited d 1 (do
    start ← take_span
    x ← header n d true
    if_by start x.0 x.1 hidden x.0.test)

-- ---- for, up to its block

module _ (n d : ℕ) where
  unfoldable pub range_head : List Name → Reader (Tall ForHead)
  range_head names = do
    expect t.range_word
    x ← expr n d 1
    pure (f.Range names x.0, x.1)

  -- a last statement that is too high is so where the body begins
  unfoldable pub last_part : Reader (Tall (Option Stmt))
  last_part = peek >>= if_kind t.left_brace (pure (None, 0)) (do
    x ← simple n (d - 1)
    peek >>= if_kind t.left_brace (limited d x.1 (pure (Some x.0, x.1))) refuse)

  -- from the first `;` on
  unfoldable pub parts_head : Option Stmt → ℕ → Reader (Tall ForHead)
  parts_head first h = do
    expect t.semicolon
    x ← maybe_before n d t.semicolon
    expect t.semicolon
    y ← last_part
    pure (f.Parts first x.0 y.0, max (max h x.1) y.1)

  abbrev pub for_by : Tall Lead → Reader (Tall ForHead)
  for_by (l.Expr e, h) = peek >>= if_kind t.semicolon (limited d (h + 1) (parts_head (Some (eval_stmt e)) (h + 1))) (pure (f.Test (Some e), h))
  for_by (l.Stmt x, h) = parts_head (Some x) h
  for_by (l.Range names, h) = range_head names

  unfoldable pub for_head : Reader (Tall ForHead)
  for_head = peek >>= if_kind t.left_brace (pure (f.Test None, 0)) (peek >>= if_kind t.range_word (range_head []) (peek >>= if_kind t.semicolon (parts_head None 0) (do
    x ← expr n d 1
    y ← lead n (d - 1) true x
    for_by y)))

abbrev pub for_form : ForHead → Block → StmtForm
for_form (f.Test test) body = statement.For None test None body
for_form (f.Parts first test last) body = statement.For first test last body
for_form (f.Range names over) body = statement.Range names over body

-- ---- for, switch, select

module _ (form : Form) (n m d : ℕ) (stmt : Reader (Tall Stmt)) where
  unfoldable pub switch_in : Reader (Tall Stmt)
  switch_in = do
    start ← take_span
    x ← maybe_header n d
    left ← expect t.left_brace
    cs ← cases_from form n d stmt n [] 0
    right ← expect t.right_brace
    pure (stmt_node start.start right.end (statement.Switch x.0.first x.0.test left.start cs.0), max x.1 cs.1 + 1)

  unfoldable pub select_in : Reader (Tall Stmt)
  select_in = do
    start ← take_span
    left ← expect t.left_brace
    cs ← comms_from form n d stmt m n [] 0
    right ← expect t.right_brace
    pure (stmt_node start.start right.end (statement.Select left.start cs.0), cs.1 + 1)

  unfoldable pub for_in : Reader (Tall Braced) → Reader (Tall Stmt)
  for_in block = limited d 1 (do
    start ← take_span
    x ← for_head n d
    b ← block
    pure (stmt_node start.start b.0.end (for_form x.0 b.0.block), max x.1 b.1 + 1))

  unfoldable pub breakable_in : Reader (Tall Braced) → Reader (Tall Stmt)
  breakable_in block = peek >>= if_kind t.for_word (for_in block) (peek >>= if_kind t.switch_word switch_in (peek >>= if_kind t.select_word select_in refuse))

-- ---- statements

unfoldable pub break_stmt : Reader (Tall Stmt)
break_stmt = do
  start ← take_span
  peek >>= if_kind kind.Name (do
    x ← take_name
    pure (stmt_node start.start x.1 (statement.Break (Some x.0)), 1)) (pure (stmt_node start.start start.end (statement.Break None), 1))

unfoldable pub continue_stmt : Reader (Tall Stmt)
continue_stmt = do
  start ← take_span
  peek >>= if_kind kind.Name (do
    x ← take_name
    pure (stmt_node start.start x.1 (statement.Continue (Some x.0)), 1)) (pure (stmt_node start.start start.end (statement.Continue None), 1))

unfoldable pub fallthrough_stmt : Reader (Tall Stmt)
fallthrough_stmt = do
  start ← take_span
  pure (stmt_node start.start start.end statement.Fallthrough, 1)

module _ (n d : ℕ) where
  unfoldable pub const_stmt : Reader (Tall Stmt)
  const_stmt = do
    start ← take_span
    xs ← consts n d
    pure (stmt_node start.start xs.0.1 (statement.Const xs.0.0), xs.1 + 1)

  unfoldable pub var_stmt : Reader (Tall Stmt)
  var_stmt = do
    start ← take_span
    xs ← vars n d
    pure (stmt_node start.start xs.0.1 (statement.Var xs.0.0), xs.1 + 1)

  unfoldable pub return_stmt : Reader (Tall Stmt)
  return_stmt = do
    start ← take_span
    peek >>= λ kind. if begins kind then limited d 1 (do
      xs ← exprs n d
      pure (stmt_node start.start (exprs_end 0 xs.0) (statement.Return xs.0), xs.1 + 1)) else pure (stmt_node start.start start.end (statement.Return []), 1)

  unfoldable pub go_stmt : Reader (Tall Stmt)
  go_stmt = limited d 1 (do
    start ← take_span
    x ← expr n d 1
    pure (stmt_node start.start (expr_end x.0) (statement.Go x.0), x.1 + 1))

  unfoldable pub defer_stmt : Reader (Tall Stmt)
  defer_stmt = limited d 1 (do
    start ← take_span
    x ← expr n d 1
    pure (stmt_node start.start (expr_end x.0) (statement.Defer x.0), x.1 + 1))

  abbrev pub label_by : Reader (Tall Stmt) → Tall Expr → Option Target → Reader (Tall Stmt)
  label_by breakable x (Some (target.Plain name)) = do
    take_span
    y ← breakable
    pure (stmt_node name.at (stmt_end y.0) (statement.Label name y.0), y.1 + 1)
  label_by breakable x _ = pure (eval_stmt x.0, x.1 + 1)

-- a simple statement or a label; breakable reads a statement that may have one, a level further down
unfoldable pub plain_stmt : ℕ → ℕ → Reader (Tall Stmt) → Reader (Tall Stmt)
plain_stmt n zero breakable = bare true
plain_stmt n (suc c) breakable = do
  x ← expr n (suc c) 1
  peek >>= if_kind t.colon (label_by n (suc c) breakable x (target_of x.0)) (do
    y ← lead n (suc c) false x
    stmt_by y)

-- ---- statements that counters begin as

abbrev pub begins_breakable : Option TokenKind → Bool
begins_breakable kind = is kind t.for_word || (is kind t.switch_word || is kind t.select_word)

-- what may have a label, where there is no level for it
unfoldable pub no_breakable : Reader (Tall Stmt)
no_breakable = peek >>= λ kind. if begins_breakable kind then too_deep else refuse

-- simple statements and labels, with levels and turns enough for the tokens of a counter
unfoldable pub high : Reader (Tall Stmt)
high = plain_stmt 16 2 no_breakable

unfoldable pub alone : List Word → Option (Tall Stmt)
alone ts = alone_of (high ts).0 (high ts).1

unfoldable pub far : Reader (Tall Stmt)
far = λ ts. far_of (high ts).0 (high ts).1

-- a counter of the form, or a statement that the reader reads
unfoldable pub or_counter : Form → Reader (Tall Stmt) → Reader (Tall Stmt)
or_counter text_form.Source other = other
or_counter (text_form.Covered var mode count) other = λ ts. if nat_lt 0 count && fits (first_fit var mode) ts then counted_or (counter_stmt var mode count) alone far other ts else other ts

-- a statement where there is no level for it
unfoldable pub no_level : Reader (Tall Stmt)
no_level = peek >>= λ kind. if begins_stmt kind then too_deep else refuse

module _ (n d : ℕ) (block : Reader (Tall Braced)) where
  unfoldable pub nested_stmt : Reader (Tall Stmt)
  nested_stmt = limited d 1 (do
    b ← block
    pure (stmt_node (block_left b.0.block) b.0.end (statement.Block b.0.block), b.1 + 1))

  -- branch and breakable read statements of this level, labelled one of the next
  unfoldable pub stmt_in : Reader (Tall Stmt) → Reader (Tall Stmt) → Reader (Tall Stmt) → Reader (Tall Stmt)
  stmt_in branch breakable labelled =
      peek >>= if_kind t.left_brace nested_stmt
      (peek >>= if_kind t.if_word branch
      (peek >>= if_kind t.for_word breakable
      (peek >>= if_kind t.switch_word breakable
      (peek >>= if_kind t.select_word breakable
      (peek >>= if_kind t.const_word (const_stmt n d)
      (peek >>= if_kind t.var_word (var_stmt n d)
      (peek >>= if_kind t.return_word (return_stmt n d)
      (peek >>= if_kind t.break_word break_stmt
      (peek >>= if_kind t.continue_word continue_stmt
      (peek >>= if_kind t.fallthrough_word fallthrough_stmt
      (peek >>= if_kind t.go_word (go_stmt n d)
      (peek >>= if_kind t.defer_word (defer_stmt n d)
      (plain_stmt n d labelled)))))))))))))

unfoldable mutual
  pub stmt : Form → ℕ → ℕ → ℕ → Reader (Tall Stmt)
  stmt form n m zero = or_counter form no_level
  stmt form n m (suc d) = or_counter form (stmt_in n d (block form n m d) (if_in n d (block form n m d) (hidden form n m d)) (breakable_in form n m d (stmt form n m d) (block form n m d)) (breakable form n m d))

  pub block : Form → ℕ → ℕ → ℕ → Reader (Tall Braced)
  block form n m zero = fail Exhausted
  block form n m (suc d) = block_in form n d (stmt form n m d)

  pub breakable : Form → ℕ → ℕ → ℕ → Reader (Tall Stmt)
  breakable form n m zero = fail Exhausted
  breakable form n m (suc d) = breakable_in form n m d (stmt form n m d) (block form n m d)

  pub if_ : Form → ℕ → ℕ → ℕ → Reader (Tall Stmt)
  if_ form n m zero = fail Exhausted
  if_ form n m (suc d) = if_in n d (block form n m d) (hidden form n m d)

  -- an `if` in a hidden block of this depth
  pub hidden : Form → ℕ → ℕ → ℕ → Reader (Tall Stmt)
  hidden form n m zero = fail Exhausted
  hidden form n m (suc d) = if_ form n m d
