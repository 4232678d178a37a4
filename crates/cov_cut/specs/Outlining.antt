-- The outline of a tree: which statements are breakers, where their boundaries are, and which lists stand in them.
use Rattle.std.specs.Prelude.{ℕ, ◌==◌, Bool, true, false, ◌&&◌, List, [], ◌∷◌, length, Option, Some, None, unwrap_or, codes}
use Rattle.std.specs.Str.{bytes_eq}
use Rattle.go_ast.specs.declared.expr.Expr.{Expr}
use Rattle.go_ast.specs.declared.expr.ExprForm.{ExprForm, out-ExprForm}
use Rattle.go_ast.specs.declared.expr.ExprForm.TheOpen.{ExprForm-F}
use Rattle.go_ast.specs.declared.block.Block.{Block, fold-Block}
use Rattle.go_ast.specs.declared.block.Stmt.{Stmt, fold-Stmt}
use Rattle.go_ast.specs.declared.block.StmtForm.{StmtForm, fold-StmtForm}
use Rattle.go_ast.specs.declared.block.StmtForm.TheOpen.{StmtForm-F, Stmt-F, Block-F, Other-F, CaseClause-F, CommClause-F}
use Rattle.cov_cut.specs.Outline.{Kind, braces, else_braces, else_if, clause, Node, node, Nodes, Lists, no_list, next_list, nodes}

-- ---- what a part of a tree gives

-- a statement without its span: its boundary, or none where that is its end; whether it is a breaker; the lists in it
pub record Shape : Type 0 where
  pub boundary : Option ℕ
  pub breaks : Bool
  pub together : Bool
  pub inside : Lists

-- a block
pub record Braced : Type 0 where
  pub left : ℕ
  pub right : ℕ
  pub hidden : Bool
  pub list : Nodes

-- a clause
pub record Clause : Type 0 where
  pub colon : ℕ
  pub list : Nodes

abbrev pub plain : Shape
plain = record { boundary = None; breaks = false; together = false; inside = no_list }

abbrev pub breaker : Shape
breaker = record { boundary = None; breaks = true; together = false; inside = no_list }

-- a breaker with a body, which ends at the body's left brace
abbrev pub bodied : ℕ → Lists → Shape
bodied left inside = record { boundary = Some left; breaks = true; together = false; inside = inside }

-- all clauses are cut before the statements of one are walked
abbrev pub switched : ℕ → Lists → Shape
switched left inside = record { boundary = Some left; breaks = true; together = true; inside = inside }

-- a labelled statement has the boundary and the lists of the statement behind the label
abbrev pub labelled : Node → Shape
labelled (node m together inside) = record { boundary = Some m.boundary; breaks = true; together = together; inside = inside }

-- ---- a call of the identifier `panic` with one argument

abbrev pub is_name_panic : ExprForm-F ExprForm Expr → Bool
is_name_panic (ExprForm-F.Plain name) = bytes_eq name.text (codes "panic")
is_name_panic _ = false

abbrev pub is_panic : ExprForm-F ExprForm Expr → Bool
is_panic (ExprForm-F.Call f arguments) = is_name_panic (out-ExprForm f.form) && (length arguments == 1)
is_panic _ = false

-- an expression statement
abbrev pub evaluated : Bool → Shape
evaluated true = breaker
evaluated false = plain

-- ---- the lists in a statement

abbrev pub body : Braced → Lists → Lists
body b more = next_list (braces b.left b.right) b.list more

-- what follows an `else` that ends at an offset
abbrev pub other_kind : ℕ → Braced → Bool → Kind
other_kind after b true = else_if after b.right
other_kind after b false = else_braces after b.left b.right

abbrev pub other_lists : Option Lists → Lists
other_lists None = no_list
other_lists (Some lists) = lists

abbrev pub clause_lists : List Clause → Lists
clause_lists [] = no_list
clause_lists (c ∷ cs) = next_list (clause c.colon) c.list (clause_lists cs)

-- ---- the outline, a layer of the tree at a time, with what its parts gave in their places

abbrev pub form_step : StmtForm-F Shape Braced Clause Clause Lists Node → Shape
form_step (StmtForm-F.Eval e) = evaluated (is_panic (out-ExprForm e.form))
form_step (StmtForm-F.Block b) = bodied b.left (body b no_list)
form_step (StmtForm-F.If first test b other) = bodied b.left (body b (other_lists other))
form_step (StmtForm-F.For first test last b) = bodied b.left (body b no_list)
form_step (StmtForm-F.Range names over b) = bodied b.left (body b no_list)
form_step (StmtForm-F.Switch first tag left clauses) = switched left (clause_lists clauses)
form_step (StmtForm-F.Select left clauses) = switched left (clause_lists clauses)
form_step (StmtForm-F.Label name inner) = labelled inner
form_step (StmtForm-F.Break name) = breaker
form_step (StmtForm-F.Continue name) = breaker
form_step StmtForm-F.Fallthrough = breaker
form_step _ = plain

abbrev pub block_step : Block-F Shape Braced Clause Clause Lists Node → Braced
block_step b = record { left = b.left; right = b.right; hidden = b.hidden; list = nodes b.list }

abbrev pub case_step : CaseClause-F Shape Braced Clause Clause Lists Node → Clause
case_step c = record { colon = c.colon; list = nodes c.list }

abbrev pub comm_step : CommClause-F Shape Braced Clause Clause Lists Node → Clause
comm_step c = record { colon = c.colon; list = nodes c.list }

abbrev pub other_step : Other-F Shape Braced Clause Clause Lists Node → Lists
other_step o = next_list (other_kind o.after o.block o.block.hidden) o.block.list no_list

abbrev pub node_of : ℕ → ℕ → Shape → Node
node_of start stop s =
    node (record { start = start; boundary = unwrap_or s.boundary stop; stop = stop; breaks = s.breaks }) s.together s.inside

abbrev pub stmt_step : Stmt-F Shape Braced Clause Clause Lists Node → Node
stmt_step s = node_of s.span.start s.span.end s.form

unfoldable pub outline : Stmt → Node
outline = fold-Stmt Shape Braced Clause Clause Lists Node form_step block_step case_step comm_step other_step stmt_step

unfoldable pub block_outline : Block → Braced
block_outline = fold-Block Shape Braced Clause Clause Lists Node form_step block_step case_step comm_step other_step stmt_step

-- the outline of a statement without its span
unfoldable pub form_outline : StmtForm → Shape
form_outline = fold-StmtForm Shape Braced Clause Clause Lists Node form_step block_step case_step comm_step other_step stmt_step
