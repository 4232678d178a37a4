-- The outline of a tree by one layer: in terms of the outlines of its parts.
use Rattle.std.specs.Prelude.{ℕ, suc, if◌then◌else◌, List, [], ◌∷◌, map, Option, Some, None}
use Rattle.go_ast.specs.declared.expr.ExprForm.{out-ExprForm}
use Rattle.go_ast.specs.declared.block.Block.{Block, out-Block}
use Rattle.go_ast.specs.declared.block.Stmt.{Stmt}
use Rattle.go_ast.specs.declared.block.StmtForm.{StmtForm}
use Rattle.go_ast.specs.declared.block.StmtForm.TheOpen.{StmtForm-F}
use Rattle.go_ast.specs.declared.block.Other.{Other, out-Other}
use Rattle.go_ast.specs.declared.block.CaseClause.{CaseClause, out-CaseClause}
use Rattle.go_ast.specs.declared.block.CommClause.{CommClause, out-CommClause}
use Rattle.cov_cut.specs.Outline.{Mark, Kind, mark_of, Nodes, Lists, no_list, next_list, nodes, Listing, lists_in}
use Rattle.cov_cut.specs.Outlining.{Shape, Braced, Clause, plain, breaker, bodied, switched, labelled, evaluated, is_panic, body, other_kind, clause_lists, node_of, outline}

abbrev pub outlines : List Stmt → Nodes
outlines list = nodes (map outline list)

abbrev pub block_layer : Block → Braced
block_layer b = record { left = (out-Block b).left; right = (out-Block b).right; hidden = (out-Block b).hidden; list = outlines (out-Block b).list }

abbrev pub case_layer : CaseClause → Clause
case_layer c = record { colon = (out-CaseClause c).colon; list = outlines (out-CaseClause c).list }

abbrev pub comm_layer : CommClause → Clause
comm_layer c = record { colon = (out-CommClause c).colon; list = outlines (out-CommClause c).list }

abbrev pub kind_after : Other → Kind
kind_after o = other_kind (out-Other o).after (block_layer (out-Other o).block) (out-Block (out-Other o).block).hidden

abbrev pub other_layer : Other → Lists
other_layer o = next_list (kind_after o) (outlines (out-Block (out-Other o).block).list) no_list

abbrev pub other_option : Option Other → Lists
other_option None = no_list
other_option (Some o) = other_layer o

abbrev pub form_layer : StmtForm-F StmtForm Block CaseClause CommClause Other Stmt → Shape
form_layer (StmtForm-F.Eval e) = evaluated (is_panic (out-ExprForm e.form))
form_layer (StmtForm-F.Block b) = bodied (block_layer b).left (body (block_layer b) no_list)
form_layer (StmtForm-F.If first test b other) = bodied (block_layer b).left (body (block_layer b) (other_option other))
form_layer (StmtForm-F.For first test last b) = bodied (block_layer b).left (body (block_layer b) no_list)
form_layer (StmtForm-F.Range names over b) = bodied (block_layer b).left (body (block_layer b) no_list)
form_layer (StmtForm-F.Switch first tag left clauses) = switched left (clause_lists (map case_layer clauses))
form_layer (StmtForm-F.Select left clauses) = switched left (clause_lists (map comm_layer clauses))
form_layer (StmtForm-F.Label name inner) = labelled (outline inner)
form_layer (StmtForm-F.Break name) = breaker
form_layer (StmtForm-F.Continue name) = breaker
form_layer StmtForm-F.Fallthrough = breaker
form_layer _ = plain

-- ---- one list

abbrev pub mark : Stmt → Mark
mark s = mark_of (outline s)

-- the number of statements in the first segment
abbrev pub first_length : List Mark → ℕ
first_length [] = 0
first_length (m ∷ ms) = if m.breaks then 1 else suc (first_length ms)

-- ---- the lists in a statement

abbrev pub form_lists : StmtForm-F StmtForm Block CaseClause CommClause Other Stmt → List Listing
form_lists x = lists_in (node_of 0 0 (form_layer x))
