-- Parts of readers that a function of its own reads, and readers of statements a level further down.
use Rattle.std.specs.Prelude.{◌||◌, ℕ, ◌-◌, Bool, true, if◌then◌else◌, List, [], ◌∷◌, Option, Some, None}
use Rattle.go_ast.specs.declared.token.TokenKind.{TokenKind}
use Rattle.go_ast.specs.declared.block.Stmt.{Stmt}
use Rattle.go_ast.specs.declared.expr.Expr.{Expr}
use Rattle.go_grammar.specs.Terminals as t
use Rattle.go_reading.specs.Input.{Reader, Tall, ◌>>=◌, peek, pure, if_kind}
use Rattle.go_reading.specs.Kinds.{is}
use Rattle.go_reading.specs.Exprs.{expr}
use Rattle.go_reading.specs.Simple.{lead}
use Rattle.go_reading.specs.declared.header.ForHead.{ForHead}
use Rattle.go_reading.specs.Stmts.{maybe_before, for_by, const_stmt, var_stmt, return_stmt, break_stmt, continue_stmt, fallthrough_stmt, go_stmt, defer_stmt, stmt_in, if_in, breakable_in, stmt, block, breakable, hidden}
use Rattle.go_grammar.specs.Blocks.{source}

-- what stands between the `;` behind a first statement and the `{`: a test, or maybe a tag
abbrev pub test_part : ℕ → ℕ → Bool → Reader (Tall (Option Expr))
test_part n d tests = if tests then (expr n d 1 >>= λ x. pure (Some x.0, x.1)) else maybe_before n d t.left_brace

-- what stands between `for` and its `{`, where an expression begins it
abbrev pub for_front : ℕ → ℕ → Reader (Tall ForHead)
for_front n d = do
  x ← expr n d 1
  y ← lead n (d - 1) true x
  for_by n d y

-- ---- statements that begin with a word of their own and hold no statement

abbrev pub Worded : Type 0
Worded = List (TokenKind × Reader (Tall Stmt))

unfoldable pub leaves : ℕ → ℕ → Worded
leaves n d =
    (t.const_word, const_stmt n d) ∷ (t.var_word, var_stmt n d) ∷ (t.return_word, return_stmt n d) ∷ (t.break_word, break_stmt)
    ∷ (t.continue_word, continue_stmt) ∷ (t.fallthrough_word, fallthrough_stmt) ∷ (t.go_word, go_stmt n d) ∷ (t.defer_word, defer_stmt n d) ∷ []

-- by the next token a statement of the list, or nothing
abbrev pub worded : Worded → Reader (Option (Tall Stmt))
worded [] = pure None
worded (e ∷ es) = peek >>= if_kind e.0 (e.1 >>= λ x. pure (Some x)) (worded es)

-- a statement, or else what is read where there is none
abbrev pub or_else : Reader (Tall Stmt) → Option (Tall Stmt) → Reader (Tall Stmt)
or_else p None = p
or_else p (Some x) = pure x

-- ---- statements with so many levels below them

unfoldable pub if_at : ℕ → ℕ → ℕ → Reader (Tall Stmt)
if_at n m d = if_in n d (block source n m d) (hidden source n m d)

unfoldable pub breakable_at : ℕ → ℕ → ℕ → Reader (Tall Stmt)
breakable_at n m d = breakable_in source n m d (stmt source n m d) (block source n m d)

unfoldable pub stmt_at : ℕ → ℕ → ℕ → Reader (Tall Stmt)
stmt_at n m d = stmt_in n d (block source n m d) (if_at n m d) (breakable_at n m d) (breakable source n m d)

abbrev pub begins_breakable : Option TokenKind → Bool
begins_breakable kind = is kind t.for_word || is kind t.switch_word || is kind t.select_word
