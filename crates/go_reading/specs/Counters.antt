-- The tokens of a covered text that a source doesn't have, read from left to right.
use Rattle.std.specs.Prelude.{◌&&◌, ◌||◌, ℕ, ◌-◌, ◌≤◌, ◌^◌, nat_lt, nat_le, Bool, true, false, if◌then◌else◌, List, [], ◌∷◌, ◌++◌, length, take, Option, Some, None, Result, Ok, Err, codes, decimal}
use Rattle.std.specs.Str.{bytes_eq}
use Rattle.std.specs.Str.Parse.{digits_value}
use Rattle.go_ast.specs.declared.token.TokenKind.{TokenKind}
use Rattle.go_ast.specs.declared.token.TokenKind.TheVariants as kind
use Rattle.go_ast.specs.declared.block.Stmt.{Stmt}
use Rattle.go_ast.specs.declared.block.StmtForm.TheVariants as statement
use Rattle.go_grammar.specs.declared.form.CounterForm.{CounterForm}
use Rattle.go_grammar.specs.declared.form.CounterForm.TheVariants as counter_form
use Rattle.go_grammar.specs.declared.form.Form.{Form}
use Rattle.go_grammar.specs.declared.form.Form.TheVariants as text_form
use Rattle.go_grammar.specs.Words.{Word}
use Rattle.go_grammar.specs.Patterns.{Pattern, any}
use Rattle.go_grammar.specs.Covering.{name, number}
use Rattle.go_grammar.specs.Terminals as t
use Rattle.go_grammar.specs.Trees.{stmt_node}
use Rattle.go_reading.specs.declared.fault.Fault.{Fault}
use Rattle.go_reading.specs.declared.fault.Fault.TheVariants.{Unexpected, TooDeep, Exhausted}
use Rattle.go_reading.specs.Kinds.{is, ends_list}
use Rattle.go_reading.specs.Input.{Outcome, Reader, Tall, ◌>>=◌, ◌>>◌, pure, refuse, head, next, kind_of}

-- the numbers of units are 32 bits wide
abbrev pub Small : Form → Type 0
Small text_form.Source = Unit {0}
Small (text_form.Covered var mode count) = count ≤ 2 ^ 32

-- ---- tokens that are known one by one

abbrev pub is_spelled : Option (List ℕ) → List ℕ → Bool
is_spelled None bytes = true
is_spelled (Some wanted) bytes = bytes_eq bytes wanted

-- whether the next token fits
abbrev pub fits : Pattern → List Word → Bool
fits p ts = is (kind_of ts) p.kind && is_spelled p.bytes (head ts).bytes

unfoldable pub expect_fit : Pattern → Reader Word
expect_fit p = λ ts. if fits p ts then (Ok (head ts), next ts) else (Err Unexpected, ts)

-- tokens that fit, one each, and the offset where they end
unfoldable pub expect_all : List Pattern → ℕ → Reader ℕ
expect_all [] end = pure end
expect_all (p ∷ ps) end = expect_fit p >>= λ w. expect_all ps w.span.end

-- ---- counters

-- the number below count that is spelled so
unfoldable pub index_of : ℕ → List ℕ → Option ℕ
index_of count bytes = if nat_lt (digits_value 10 bytes) count && bytes_eq bytes (decimal (digits_value 10 bytes)) then Some (digits_value 10 bytes) else None

abbrev pub index_by : Option ℕ → Reader ℕ
index_by None = refuse
index_by (Some i) = λ ts. (Ok i, next ts)

unfoldable pub expect_index : ℕ → Reader ℕ
expect_index count = λ ts. if is (kind_of ts) kind.Int then index_by (index_of count (head ts).bytes) ts else refuse ts

-- the tokens of a counter: its first, those up to its number, and those behind
abbrev pub first_fit : List ℕ → CounterForm → Pattern
first_fit var counter_form.AtomicForm = name (codes "_cover_atomic_")
first_fit var _ = name var

abbrev pub before_index : List ℕ → CounterForm → List Pattern
before_index var counter_form.AtomicForm =
    any t.point ∷ name (codes "AddUint32") ∷ any t.left_parenthesis ∷ any t.ampersand ∷ name var ∷ any t.point ∷ name (codes "Count") ∷ any t.left_bracket ∷ []
before_index var _ = any t.point ∷ name (codes "Count") ∷ any t.left_bracket ∷ []

abbrev pub behind_index : CounterForm → List Pattern
behind_index counter_form.SetForm = any t.right_bracket ∷ any t.assign ∷ number 1 ∷ []
behind_index counter_form.CountForm = any t.right_bracket ∷ any t.increment ∷ []
behind_index counter_form.AtomicForm = any t.right_bracket ∷ any t.comma ∷ number 1 ∷ any t.right_parenthesis ∷ []

unfoldable pub counter_stmt : List ℕ → CounterForm → ℕ → Reader Stmt
counter_stmt var mode count = do
  a ← expect_fit (first_fit var mode)
  expect_all (before_index var mode) 0
  i ← expect_index count
  end ← expect_all (behind_index mode) 0
  pure (stmt_node a.span.start end (statement.Count i))

-- ---- a counter, or a statement that begins as one

-- whether a statement may end before the token
abbrev pub is_stop : Option TokenKind → Bool
is_stop kind = is kind t.semicolon || ends_list true kind

abbrev pub is_empty : List Word → Bool
is_empty [] = true
is_empty (w ∷ ws) = false

-- the tokens before the rest
abbrev pub front_of : List Word → List Word → List Word
front_of ts rest = take (length ts - length rest) ts

-- the statement that all tokens but the last spell, if a reader gave it
abbrev pub alone_of : Result (Tall Stmt) Fault → List Word → Option (Tall Stmt)
alone_of (Ok x) (a ∷ []) = Some x
alone_of _ _ = None

-- a token that only passes the limit of depth goes on
abbrev pub far_of : Result (Tall Stmt) Fault → List Word → Outcome (Tall Stmt)
far_of (Err TooDeep) (a ∷ []) = (Err TooDeep, [])
far_of v rest = (v, rest)

-- Other reads statements that are no counters. Where a counter breaks off, the tokens up to there and the next one are read with
-- levels enough: alone gives the statement that those up to there spell, and far is at the end if another statement goes on with
-- the next. If so, and other stopped before, it did since it has too few levels.
module _ (counter : Reader Stmt) (alone : List Word → Option (Tall Stmt)) (far other : Reader (Tall Stmt)) where
  abbrev pub short : List Word → Result (Tall Stmt) Fault → List Word → Outcome (Tall Stmt)
  short rest (Err Exhausted) before = (Err Exhausted, before)
  short rest _ before = (Err TooDeep, rest)

  abbrev pub by_other : List Word → Result (Tall Stmt) Fault → List Word → Outcome (Tall Stmt)
  by_other rest v behind = if nat_le (length behind) (length rest) then (v, behind) else short rest v behind

  abbrev pub by_alone : List Word → List Word → Word → List Word → Option (Tall Stmt) → Outcome (Tall Stmt)
  by_alone ts front a rest (Some x) = (Ok x, a ∷ rest)
  by_alone ts front a rest None = if is_empty (far (front ++ a ∷ [])).1 then by_other (a ∷ rest) (other ts).0 (other ts).1 else (Err Unexpected, a ∷ rest)

  abbrev pub broken_off : List Word → List Word → Outcome (Tall Stmt)
  broken_off ts [] = (Err Unexpected, [])
  broken_off ts (a ∷ rest) = by_alone ts (front_of ts (a ∷ rest)) a rest (if is_stop (Some a.kind) then alone (front_of ts (a ∷ rest) ++ a ∷ []) else None)

  abbrev pub by_counter : List Word → Result Stmt Fault → List Word → Outcome (Tall Stmt)
  by_counter ts (Ok x) rest = (Ok (x, 0), rest)
  by_counter ts (Err e) rest = broken_off ts rest

  unfoldable pub counted_or : Reader (Tall Stmt)
  counted_or = λ ts. by_counter ts (counter ts).0 (counter ts).1
