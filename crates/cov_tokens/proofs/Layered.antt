-- What the outline sees of the grammar's nodes.
use Rattle.cov_cut.specs.Layers.{block_layer, case_layer, comm_layer, other_layer, form_layer, outlines, other_option}
use Rattle.cov_cut.specs.Outline.{Node, Lists, no_list, next_list, clause, else_if, mark_of}
use Rattle.cov_cut.specs.Outlining.{Shape, Braced, Clause, form_step, block_step, case_step, comm_step, other_step, stmt_step, node_of, outline, block_outline, form_outline, body, bodied, switched, other_kind, clause_lists, labelled}
use Rattle.go_ast.specs.declared.block.Block.{Block, fold-roll-Block, fold_out-Block}
use Rattle.go_ast.specs.declared.block.CaseClause.{CaseClause, fold-CaseClause, fold_out-CaseClause, fold-roll-CaseClause}
use Rattle.go_ast.specs.declared.block.Comm.{Comm}
use Rattle.go_ast.specs.declared.block.CommClause.{CommClause, fold-CommClause, fold_out-CommClause, fold-roll-CommClause}
use Rattle.go_ast.specs.declared.block.Other.{Other, fold-roll-Other, out-Other, fold-Other, fold_out-Other}
use Rattle.go_ast.specs.declared.block.Stmt.{Stmt, fold_out-Stmt}
use Rattle.go_ast.specs.declared.block.StmtForm.TheFolds.{map-StmtForm}
use Rattle.go_ast.specs.declared.block.StmtForm.TheOpen.{StmtForm-F}
use Rattle.go_ast.specs.declared.block.StmtForm.TheVariants.{rolls-Label, rolls-If, rolls-Switch, rolls-Select}
use Rattle.go_ast.specs.declared.block.StmtForm.{StmtForm, out-StmtForm, fold_out-StmtForm, roll-StmtForm, fold-roll-StmtForm}
use Rattle.go_ast.specs.declared.expr.Expr.{Expr}
use Rattle.go_ast.specs.declared.name.Name.{Name}
use Rattle.go_grammar.specs.Trees.{stmt_end, block_node, hidden_block, other_node, case_node, comm_node, stmt_node}
use Rattle.std.proofs.Common.{◌≡◌, List, [], ◌∷◌, refl, ap, ap₂, ◌∙◌, map, Some, None, ℕ, true, false, Option, sym}
use Rattle.go_ast.specs.declared.block.StmtForm.TheVariants as stmt

abbrev pub foldC : CaseClause → Clause
foldC = fold-CaseClause Shape Braced Clause Clause Lists Node form_step block_step case_step comm_step other_step stmt_step

abbrev pub foldM : CommClause → Clause
foldM = fold-CommClause Shape Braced Clause Clause Lists Node form_step block_step case_step comm_step other_step stmt_step

abbrev pub foldO : Other → Lists
foldO = fold-Other Shape Braced Clause Clause Lists Node form_step block_step case_step comm_step other_step stmt_step

pub outline_is : (s : Stmt) → outline s ≡ node_of s.span.start s.span.end (form_outline s.form)
unfolding outline form_outline
outline_is s = fold_out-Stmt Shape Braced Clause Clause Lists Node form_step block_step case_step comm_step other_step stmt_step s

pub block_is : (b : Block) → block_outline b ≡ block_layer b
unfolding outline block_outline
block_is b = fold_out-Block Shape Braced Clause Clause Lists Node form_step block_step case_step comm_step other_step stmt_step b

pub case_is : (c : CaseClause) → foldC c ≡ case_layer c
unfolding outline
case_is c = fold_out-CaseClause Shape Braced Clause Clause Lists Node form_step block_step case_step comm_step other_step stmt_step c

pub comm_is : (c : CommClause) → foldM c ≡ comm_layer c
unfolding outline
comm_is c = fold_out-CommClause Shape Braced Clause Clause Lists Node form_step block_step case_step comm_step other_step stmt_step c

pub other_is : (o : Other) → foldO o ≡ other_layer o
unfolding block_outline
other_is o =
    fold_out-Other Shape Braced Clause Clause Lists Node form_step block_step case_step comm_step other_step stmt_step o
    ∙ ap (λ (d : Braced). next_list (other_kind (out-Other o).after d d.hidden) d.list no_list) (block_is (out-Other o).block)

cases_are : (cs : List CaseClause) → clause_lists (map foldC cs) ≡ clause_lists (map case_layer cs)
cases_are [] = refl
cases_are (c ∷ cs) = ap₂ (λ (d : Clause) (more : Lists). next_list (clause d.colon) d.list more) (case_is c) (cases_are cs)

comms_are : (cs : List CommClause) → clause_lists (map foldM cs) ≡ clause_lists (map comm_layer cs)
comms_are [] = refl
comms_are (c ∷ cs) = ap₂ (λ (d : Clause) (more : Lists). next_list (clause d.colon) d.list more) (comm_is c) (comms_are cs)

body_is : (b : Block) (more : Lists) → bodied (block_outline b).left (body (block_outline b) more) ≡ bodied (block_layer b).left (body (block_layer b) more)
body_is b more = ap (λ (d : Braced). bodied d.left (body d more)) (block_is b)

pub layered : (x : StmtForm-F StmtForm Block CaseClause CommClause Other Stmt) → form_step (map-StmtForm StmtForm Block CaseClause CommClause Other Stmt Shape Braced Clause Clause Lists Node form_outline block_outline foldC foldM foldO outline x) ≡ form_layer x
unfolding form_outline block_outline outline
layered (StmtForm-F.Eval e) = refl
layered (StmtForm-F.Block b) = body_is b no_list
layered (StmtForm-F.If first test b None) = body_is b no_list
layered (StmtForm-F.If first test b (Some o)) = body_is b (foldO o) ∙ ap (λ l. bodied (block_layer b).left (body (block_layer b) l)) (other_is o)
layered (StmtForm-F.For first test last b) = body_is b no_list
layered (StmtForm-F.Range names over b) = body_is b no_list
layered (StmtForm-F.Switch first tag left clauses) = ap (switched left) (cases_are clauses)
layered (StmtForm-F.Select left clauses) = ap (switched left) (comms_are clauses)
layered (StmtForm-F.Label name inner) = refl
layered (StmtForm-F.Break name) = refl
layered (StmtForm-F.Continue name) = refl
layered StmtForm-F.Fallthrough = refl
layered _ = refl

pub form_is : (f : StmtForm) → form_outline f ≡ form_layer (out-StmtForm f)
unfolding form_outline block_outline outline
form_is f = fold_out-StmtForm Shape Braced Clause Clause Lists Node form_step block_step case_step comm_step other_step stmt_step f ∙ layered (out-StmtForm f)

pub block_fields : (left right : ℕ) (ss : List Stmt) → block_layer (block_node left right ss) ≡ record { left = left; right = right; hidden = false; list = outlines ss }
unfolding block_node block_outline outline
block_fields left right ss =
    sym (block_is (block_node left right ss))
    ∙ fold-roll-Block Shape Braced Clause Clause Lists Node form_step block_step case_step comm_step other_step stmt_step (record { left = left; right = right; hidden = false; list = ss })

hidden_fields : (after : ℕ) (x : Stmt) → block_layer (hidden_block after x) ≡ record { left = after; right = stmt_end x; hidden = true; list = outlines (x ∷ []) }
unfolding hidden_block block_outline outline
hidden_fields after x =
    sym (block_is (hidden_block after x))
    ∙ fold-roll-Block Shape Braced Clause Clause Lists Node form_step block_step case_step comm_step other_step stmt_step (record { left = after; right = stmt_end x; hidden = true; list = x ∷ [] })

-- the list behind an `else` that ends at an offset
abbrev pub behind : ℕ → Braced → Lists
behind after d = next_list (other_kind after d d.hidden) d.list no_list

pub other_fields : (after : ℕ) (b : Block) → other_layer (other_node after b) ≡ behind after (block_layer b)
unfolding other_node block_outline outline
other_fields after b =
    sym (other_is (other_node after b))
    ∙ fold-roll-Other Shape Braced Clause Clause Lists Node form_step block_step case_step comm_step other_step stmt_step (record { after = after; block = b })
    ∙ ap (behind after) (block_is b)

pub else_if_fields : (after : ℕ) (x : Stmt) → other_layer (other_node after (hidden_block after x)) ≡ next_list (else_if after (stmt_end x)) (outlines (x ∷ [])) no_list
else_if_fields after x = other_fields after (hidden_block after x) ∙ ap (behind after) (hidden_fields after x)

pub case_fields : (values : Option (List Expr)) (colon : ℕ) (ss : List Stmt) → case_layer (case_node values colon ss) ≡ record { colon = colon; list = outlines ss }
unfolding case_node outline
case_fields values colon ss =
    sym (case_is (case_node values colon ss))
    ∙ fold-roll-CaseClause Shape Braced Clause Clause Lists Node form_step block_step case_step comm_step other_step stmt_step (record { values = values; colon = colon; list = ss })

pub comm_fields : (comm : Comm) (colon : ℕ) (ss : List Stmt) → comm_layer (comm_node comm colon ss) ≡ record { colon = colon; list = outlines ss }
unfolding comm_node outline
comm_fields comm colon ss =
    sym (comm_is (comm_node comm colon ss))
    ∙ fold-roll-CommClause Shape Braced Clause Clause Lists Node form_step block_step case_step comm_step other_step stmt_step (record { comm = comm; colon = colon; list = ss })

-- a form by its layer
form_fields : (x : StmtForm-F StmtForm Block CaseClause CommClause Other Stmt) → form_layer (out-StmtForm (roll-StmtForm x)) ≡ form_layer x
unfolding form_outline block_outline outline
form_fields x =
    sym (form_is (roll-StmtForm x)) ∙ fold-roll-StmtForm Shape Braced Clause Clause Lists Node form_step block_step case_step comm_step other_step stmt_step x ∙ layered x

seen : StmtForm → Shape
seen f = form_layer (out-StmtForm f)

pub label_fields : (name : Name) (x : Stmt) → form_layer (out-StmtForm (stmt.Label name x)) ≡ labelled (outline x)
unfolding seen
label_fields name x = ap seen (sym (rolls-Label name x)) ∙ form_fields (StmtForm-F.Label name x)

pub if_fields : (first : Option Stmt) (test : Expr) (then : Block) (other : Option Other)
    → form_layer (out-StmtForm (stmt.If first test then other)) ≡ bodied (block_layer then).left (body (block_layer then) (other_option other))
unfolding seen
if_fields first test then other = ap seen (sym (rolls-If first test then other)) ∙ form_fields (StmtForm-F.If first test then other)

pub switch_fields : (first : Option Stmt) (tag : Option Expr) (left : ℕ) (cs : List CaseClause)
    → form_layer (out-StmtForm (stmt.Switch first tag left cs)) ≡ switched left (clause_lists (map case_layer cs))
unfolding seen
switch_fields first tag left cs = ap seen (sym (rolls-Switch first tag left cs)) ∙ form_fields (StmtForm-F.Switch first tag left cs)

pub select_fields : (left : ℕ) (cs : List CommClause) → form_layer (out-StmtForm (stmt.Select left cs)) ≡ switched left (clause_lists (map comm_layer cs))
unfolding seen
select_fields left cs = ap seen (sym (rolls-Select left cs)) ∙ form_fields (StmtForm-F.Select left cs)

pub node_outline : (start end : ℕ) (form : StmtForm) → outline (stmt_node start end form) ≡ node_of start end (form_layer (out-StmtForm form))
unfolding stmt_node
node_outline start end form = outline_is (stmt_node start end form) ∙ ap (node_of start end) (form_is form)

pub stops : (x : Stmt) → (mark_of (outline x)).stop ≡ stmt_end x
stops x = ap (λ n. (mark_of n).stop) (outline_is x)
