-- Statements that counters begin as, and what is left of the counter.
use Rattle.std.proofs.Common.{◌≡◌, ℕ, List, [], ◌∷◌, ◌++◌, Option, Some, None, codes}
use Rattle.go_ast.specs.declared.expr.Expr.{Expr}
use Rattle.go_ast.specs.declared.expr.ExprForm.{ExprForm, out-ExprForm}
use Rattle.go_ast.specs.declared.expr.ExprForm.TheOpen.{ExprForm-F}
use Rattle.go_ast.specs.declared.block.Target.{Target}
use Rattle.go_ast.specs.declared.block.Stmt.{Stmt, out-Stmt}
use Rattle.go_ast.specs.declared.block.StmtForm.{out-StmtForm}
use Rattle.go_ast.specs.declared.block.StmtForm.TheOpen.{StmtForm-F}
use Rattle.go_ast.specs.declared.block.StmtForm.TheVariants as statement
use Rattle.go_grammar.specs.declared.form.CounterForm.{CounterForm}
use Rattle.go_grammar.specs.declared.form.CounterForm.TheVariants as counter_form
use Rattle.go_grammar.specs.declared.form.Form.{Form as TextForm}
use Rattle.go_grammar.specs.declared.form.Form.TheVariants as text_form
use Rattle.go_grammar.specs.Words.{Word}
use Rattle.go_grammar.specs.Terminals as t
use Rattle.go_grammar.specs.Patterns.{Pattern, any, AllFit}
use Rattle.go_grammar.specs.Covering.{name, number}
use Rattle.go_grammar.specs.Trees.{stmt_node}
use Rattle.go_grammar.specs.Simple.{IsTarget}
use Rattle.go_grammar.specs.Blocks.{IsStmt}
use Rattle.go_reading.specs.Counters.{before_index, behind_index, index_of}
use Rattle.go_reading.proofs.FitGood.{end_of}
use Rattle.go_reading.proofs.StmtForms.{target_in}

-- ---- what is left of a counter

-- behind its first two names
abbrev pub behind_member : List ℕ → CounterForm → List Pattern
behind_member var counter_form.AtomicForm = any t.left_parenthesis ∷ any t.ampersand ∷ name var ∷ any t.point ∷ name (codes "Count") ∷ any t.left_bracket ∷ []
behind_member var _ = any t.left_bracket ∷ []

-- behind the bracket
abbrev pub behind_bracket : CounterForm → List Pattern
behind_bracket counter_form.SetForm = any t.assign ∷ number 1 ∷ []
behind_bracket counter_form.CountForm = any t.increment ∷ []
behind_bracket counter_form.AtomicForm = any t.comma ∷ number 1 ∷ any t.right_parenthesis ∷ []

abbrev pub number_in : ℕ → ExprForm-F ExprForm Expr → Option ℕ
number_in count (ExprForm-F.Int bytes) = index_of count bytes
number_in count _ = None

abbrev pub ended_at : CounterForm → Option ℕ → Option (List Pattern × ℕ)
ended_at mode None = None
ended_at mode (Some i) = Some (behind_bracket mode, i)

abbrev pub part_by : List ℕ → CounterForm → ℕ → ExprForm-F ExprForm Expr → Option (List Pattern × ℕ)
part_by var mode count (ExprForm-F.Plain name) = Some (before_index var mode ++ number 0 ∷ behind_index mode, 0)
part_by var mode count (ExprForm-F.Member package_name name) = Some (behind_member var mode ++ number 0 ∷ behind_index mode, 0)
part_by var mode count (ExprForm-F.Index of at) = ended_at mode (number_in count (out-ExprForm at.form))
part_by var mode count _ = None

abbrev pub part_of : {A B C D E F : Type 0} → List ℕ → CounterForm → ℕ → StmtForm-F A B C D E F → Option (List Pattern × ℕ)
part_of var mode count (StmtForm-F.Eval e) = part_by var mode count (out-ExprForm e.form)
part_of var mode count _ = None

-- the tokens that make a counter of the tokens of a statement, and its unit
unfoldable pub part_in : TextForm → Stmt → Option (List Pattern × ℕ)
part_in text_form.Source x = None
part_in (text_form.Covered var mode count) x = part_of var mode count (out-StmtForm (out-Stmt x).form)

abbrev pub stmt_start : Stmt → ℕ
stmt_start x = (out-Stmt x).span.start

-- a counter begins as the statement
pub record Opens (form : TextForm) (x : Stmt) (w : List Word) : Type 0 where
  pub rest : List Pattern
  pub unit : ℕ
  pub part : part_in form x ≡ Some (rest, unit)
  pub counts : (v : List Word) → AllFit rest v → (m : ℕ) → IsStmt form m 0 (stmt_node (stmt_start x) (end_of 0 v) (statement.Count unit)) (w ++ v)
  pub target : (g : Target) → target_in x ≡ Some g → IsTarget 0 g w
