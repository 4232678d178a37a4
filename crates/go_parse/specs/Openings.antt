-- What stands before the block or the clauses of a `for`, `switch` or `select`, and what follows it.
use Rattle.std.specs.Prelude.{ℕ, ◌+◌, max, List, []}
use Rattle.go_ast.specs.declared.block.Stmt.{Stmt}
use Rattle.go_ast.specs.declared.block.StmtForm.TheVariants as statement
use Rattle.go_ast.specs.declared.block.CaseClause.{CaseClause}
use Rattle.go_ast.specs.declared.block.CommClause.{CommClause}
use Rattle.go_grammar.specs.Terminals as t
use Rattle.go_grammar.specs.Trees.{stmt_node}
use Rattle.go_reading.specs.declared.header.Header.{Header}
use Rattle.go_reading.specs.Input.{Reader, Tall, ◌>>=◌, peek, pure, refuse, take_span, expect, if_kind, limited}
use Rattle.go_reading.specs.Stmts.{for_head, maybe_header, for_form, cases_from, comms_from, stmt, block}
use Rattle.go_parse.specs.declared.opening.Opening.{Opening}
use Rattle.go_parse.specs.declared.opening.Opening.TheVariants as o
use Rattle.go_grammar.specs.Blocks.{source}

unfoldable pub for_opening : ℕ → ℕ → Reader (Tall Opening)
for_opening n d = limited d 1 (do
  start ← take_span
  x ← for_head n d
  pure (o.For start.start x.0, x.1))

unfoldable pub switch_opening : ℕ → ℕ → Reader (Tall Opening)
switch_opening n d = do
  start ← take_span
  x ← maybe_header n d
  left ← expect t.left_brace
  pure (o.Switch start.start x.0 left.start, x.1)

unfoldable pub select_opening : Reader (Tall Opening)
select_opening = do
  start ← take_span
  left ← expect t.left_brace
  pure (o.Select start.start left.start, 0)

unfoldable pub opening : ℕ → ℕ → Reader (Tall Opening)
opening n d = peek >>= if_kind t.for_word (for_opening n d) (peek >>= if_kind t.switch_word (switch_opening n d) (peek >>= if_kind t.select_word select_opening refuse))

-- behind the clauses of a `switch`
unfoldable pub switch_end : ℕ → Header → ℕ → List CaseClause → ℕ → Reader (Tall Stmt)
switch_end start x left cs h = do
  right ← expect t.right_brace
  pure (stmt_node start right.end (statement.Switch x.first x.test left cs), h + 1)

-- behind the clauses of a `select`
unfoldable pub select_end : ℕ → ℕ → List CommClause → ℕ → Reader (Tall Stmt)
select_end start left cs h = do
  right ← expect t.right_brace
  pure (stmt_node start right.end (statement.Select left cs), h + 1)

-- what follows
abbrev pub opened_by : ℕ → ℕ → ℕ → Tall Opening → Reader (Tall Stmt)
opened_by n m d (o.For start x, h) = do
  b ← (block source) n m d
  pure (stmt_node start b.0.end (for_form x b.0.block), max h b.1 + 1)
opened_by n m d (o.Switch start x left, h) = do
  cs ← (cases_from source) n d (stmt source n m d) n [] 0
  switch_end start x left cs.0 (max h cs.1)
opened_by n m d (o.Select start left, h) = do
  cs ← (comms_from source) n d (stmt source n m d) m n [] 0
  select_end start left cs.0 cs.1
