-- What the outline sees of the grammar's nodes.
use Rattle.std.proofs.Common.{◌≡◌, ℕ, true, false, List, [], ◌∷◌, Option, sym, ap, ◌∙◌, map}
use Rattle.go_ast.specs.declared.expr.Expr.{Expr}
use Rattle.go_ast.specs.declared.block.Block.{Block, fold-roll-Block}
use Rattle.go_ast.specs.declared.block.Stmt.{Stmt}
use Rattle.go_ast.specs.declared.name.Name.{Name}
use Rattle.go_ast.specs.declared.block.StmtForm.{StmtForm, out-StmtForm, roll-StmtForm, fold-roll-StmtForm}
use Rattle.go_ast.specs.declared.block.StmtForm.TheVariants as stmt
use Rattle.go_ast.specs.declared.block.StmtForm.TheVariants.{rolls-Label, rolls-If, rolls-Switch, rolls-Select}
use Rattle.go_ast.specs.declared.block.StmtForm.TheOpen.{StmtForm-F}
use Rattle.go_ast.specs.declared.block.Other.{Other, fold-roll-Other}
use Rattle.go_ast.specs.declared.block.CaseClause.{CaseClause, fold-roll-CaseClause}
use Rattle.go_ast.specs.declared.block.CommClause.{CommClause, fold-roll-CommClause}
use Rattle.go_ast.specs.declared.block.Comm.{Comm}
use Rattle.go_grammar.specs.Trees.{stmt_end, block_node, hidden_block, other_node, case_node, comm_node}
use Rattle.cov_cut.specs.Outline.{else_if, Node, Lists, no_list, next_list}
use Rattle.cov_cut.specs.Outlining.{Shape, Braced, Clause, form_step, block_step, case_step, comm_step, other_step, stmt_step, other_kind, bodied, switched, labelled, body, clause_lists, outline, block_outline, form_outline}
use Rattle.cov_cut.specs.Layers.{outlines, block_layer, case_layer, comm_layer, other_layer, other_option, form_layer}
use Rattle.cov_cut.proofs.Opened.{block_is, case_is, comm_is, other_is, form_is, layered}

pub block_fields : (left right : ℕ) (ss : List Stmt) → block_layer (block_node left right ss) ≡ record { left = left; right = right; hidden = false; list = outlines ss }
unfolding block_node block_outline outline
block_fields left right ss =
    sym (block_is (block_node left right ss))
    ∙ fold-roll-Block Shape Braced Clause Clause Lists Node form_step block_step case_step comm_step other_step stmt_step (record { left = left; right = right; hidden = false; list = ss })

hidden_fields : (after : ℕ) (x : Stmt) → block_layer (hidden_block after x) ≡ record { left = after; right = stmt_end x; hidden = true; list = outlines (x ∷ []) }
unfolding hidden_block block_outline outline
hidden_fields after x =
    sym (block_is (hidden_block after x))
    ∙ fold-roll-Block Shape Braced Clause Clause Lists Node form_step block_step case_step comm_step other_step stmt_step (record { left = after; right = stmt_end x; hidden = true; list = x ∷ [] })

-- the list behind an `else` that ends at an offset
abbrev pub behind : ℕ → Braced → Lists
behind after d = next_list (other_kind after d d.hidden) d.list no_list

pub other_fields : (after : ℕ) (b : Block) → other_layer (other_node after b) ≡ behind after (block_layer b)
unfolding other_node block_outline outline
other_fields after b =
    sym (other_is (other_node after b))
    ∙ fold-roll-Other Shape Braced Clause Clause Lists Node form_step block_step case_step comm_step other_step stmt_step (record { after = after; block = b })
    ∙ ap (behind after) (block_is b)

pub else_if_fields : (after : ℕ) (x : Stmt) → other_layer (other_node after (hidden_block after x)) ≡ next_list (else_if after (stmt_end x)) (outlines (x ∷ [])) no_list
else_if_fields after x = other_fields after (hidden_block after x) ∙ ap (behind after) (hidden_fields after x)

pub case_fields : (values : Option (List Expr)) (colon : ℕ) (ss : List Stmt) → case_layer (case_node values colon ss) ≡ record { colon = colon; list = outlines ss }
unfolding case_node outline
case_fields values colon ss =
    sym (case_is (case_node values colon ss))
    ∙ fold-roll-CaseClause Shape Braced Clause Clause Lists Node form_step block_step case_step comm_step other_step stmt_step (record { values = values; colon = colon; list = ss })

pub comm_fields : (comm : Comm) (colon : ℕ) (ss : List Stmt) → comm_layer (comm_node comm colon ss) ≡ record { colon = colon; list = outlines ss }
unfolding comm_node outline
comm_fields comm colon ss =
    sym (comm_is (comm_node comm colon ss))
    ∙ fold-roll-CommClause Shape Braced Clause Clause Lists Node form_step block_step case_step comm_step other_step stmt_step (record { comm = comm; colon = colon; list = ss })

-- a form by its layer
form_fields : (x : StmtForm-F StmtForm Block CaseClause CommClause Other Stmt) → form_layer (out-StmtForm (roll-StmtForm x)) ≡ form_layer x
unfolding form_outline block_outline outline
form_fields x =
    sym (form_is (roll-StmtForm x)) ∙ fold-roll-StmtForm Shape Braced Clause Clause Lists Node form_step block_step case_step comm_step other_step stmt_step x ∙ layered x

seen : StmtForm → Shape
seen f = form_layer (out-StmtForm f)

pub label_fields : (name : Name) (x : Stmt) → form_layer (out-StmtForm (stmt.Label name x)) ≡ labelled (outline x)
unfolding seen
label_fields name x = ap seen (sym (rolls-Label name x)) ∙ form_fields (StmtForm-F.Label name x)

pub if_fields : (first : Option Stmt) (test : Expr) (then : Block) (other : Option Other)
    → form_layer (out-StmtForm (stmt.If first test then other)) ≡ bodied (block_layer then).left (body (block_layer then) (other_option other))
unfolding seen
if_fields first test then other = ap seen (sym (rolls-If first test then other)) ∙ form_fields (StmtForm-F.If first test then other)

pub switch_fields : (first : Option Stmt) (tag : Option Expr) (left : ℕ) (cs : List CaseClause)
    → form_layer (out-StmtForm (stmt.Switch first tag left cs)) ≡ switched left (clause_lists (map case_layer cs))
unfolding seen
switch_fields first tag left cs = ap seen (sym (rolls-Switch first tag left cs)) ∙ form_fields (StmtForm-F.Switch first tag left cs)

pub select_fields : (left : ℕ) (cs : List CommClause) → form_layer (out-StmtForm (stmt.Select left cs)) ≡ switched left (clause_lists (map comm_layer cs))
unfolding seen
select_fields left cs = ap seen (sym (rolls-Select left cs)) ∙ form_fields (StmtForm-F.Select left cs)
