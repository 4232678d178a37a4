-- The outline of a tree is its layer's.
use Rattle.std.proofs.Common.{◌≡◌, List, [], ◌∷◌, refl, ap, ap₂, ◌∙◌, map, Some, None}
use Rattle.go_ast.specs.declared.block.Block.{Block, fold_out-Block}
use Rattle.go_ast.specs.declared.block.Other.{Other, out-Other, fold-Other, fold_out-Other}
use Rattle.go_ast.specs.declared.block.CaseClause.{CaseClause, fold-CaseClause, fold_out-CaseClause}
use Rattle.go_ast.specs.declared.block.CommClause.{CommClause, fold-CommClause, fold_out-CommClause}
use Rattle.go_ast.specs.declared.block.Stmt.{Stmt, fold_out-Stmt}
use Rattle.go_ast.specs.declared.block.StmtForm.{StmtForm, out-StmtForm, fold_out-StmtForm}
use Rattle.go_ast.specs.declared.block.StmtForm.TheOpen.{StmtForm-F}
use Rattle.go_ast.specs.declared.block.StmtForm.TheFolds.{map-StmtForm}
use Rattle.cov_cut.specs.Outline.{Node, Lists, no_list, next_list, clause}
use Rattle.cov_cut.specs.Outlining.{Shape, Braced, Clause, form_step, block_step, case_step, comm_step, other_step, stmt_step, node_of, outline, block_outline, form_outline, body, bodied, switched, other_kind, clause_lists}
use Rattle.cov_cut.specs.Layers.{block_layer, case_layer, comm_layer, other_layer, form_layer}

abbrev pub foldC : CaseClause → Clause
foldC = fold-CaseClause Shape Braced Clause Clause Lists Node form_step block_step case_step comm_step other_step stmt_step

abbrev pub foldM : CommClause → Clause
foldM = fold-CommClause Shape Braced Clause Clause Lists Node form_step block_step case_step comm_step other_step stmt_step

abbrev pub foldO : Other → Lists
foldO = fold-Other Shape Braced Clause Clause Lists Node form_step block_step case_step comm_step other_step stmt_step

pub outline_is : (s : Stmt) → outline s ≡ node_of s.span.start s.span.end (form_outline s.form)
unfolding outline form_outline
outline_is s = fold_out-Stmt Shape Braced Clause Clause Lists Node form_step block_step case_step comm_step other_step stmt_step s

pub block_is : (b : Block) → block_outline b ≡ block_layer b
unfolding outline block_outline
block_is b = fold_out-Block Shape Braced Clause Clause Lists Node form_step block_step case_step comm_step other_step stmt_step b

pub case_is : (c : CaseClause) → foldC c ≡ case_layer c
unfolding outline
case_is c = fold_out-CaseClause Shape Braced Clause Clause Lists Node form_step block_step case_step comm_step other_step stmt_step c

pub comm_is : (c : CommClause) → foldM c ≡ comm_layer c
unfolding outline
comm_is c = fold_out-CommClause Shape Braced Clause Clause Lists Node form_step block_step case_step comm_step other_step stmt_step c

pub other_is : (o : Other) → foldO o ≡ other_layer o
unfolding block_outline
other_is o =
    fold_out-Other Shape Braced Clause Clause Lists Node form_step block_step case_step comm_step other_step stmt_step o
    ∙ ap (λ (d : Braced). next_list (other_kind (out-Other o).after d d.hidden) d.list no_list) (block_is (out-Other o).block)

cases_are : (cs : List CaseClause) → clause_lists (map foldC cs) ≡ clause_lists (map case_layer cs)
cases_are [] = refl
cases_are (c ∷ cs) = ap₂ (λ (d : Clause) (more : Lists). next_list (clause d.colon) d.list more) (case_is c) (cases_are cs)

comms_are : (cs : List CommClause) → clause_lists (map foldM cs) ≡ clause_lists (map comm_layer cs)
comms_are [] = refl
comms_are (c ∷ cs) = ap₂ (λ (d : Clause) (more : Lists). next_list (clause d.colon) d.list more) (comm_is c) (comms_are cs)

body_is : (b : Block) (more : Lists) → bodied (block_outline b).left (body (block_outline b) more) ≡ bodied (block_layer b).left (body (block_layer b) more)
body_is b more = ap (λ (d : Braced). bodied d.left (body d more)) (block_is b)

pub layered : (x : StmtForm-F StmtForm Block CaseClause CommClause Other Stmt) → form_step (map-StmtForm StmtForm Block CaseClause CommClause Other Stmt Shape Braced Clause Clause Lists Node form_outline block_outline foldC foldM foldO outline x) ≡ form_layer x
unfolding form_outline block_outline outline
layered (StmtForm-F.Eval e) = refl
layered (StmtForm-F.Block b) = body_is b no_list
layered (StmtForm-F.If first test b None) = body_is b no_list
layered (StmtForm-F.If first test b (Some o)) = body_is b (foldO o) ∙ ap (λ l. bodied (block_layer b).left (body (block_layer b) l)) (other_is o)
layered (StmtForm-F.For first test last b) = body_is b no_list
layered (StmtForm-F.Range names over b) = body_is b no_list
layered (StmtForm-F.Switch first tag left clauses) = ap (switched left) (cases_are clauses)
layered (StmtForm-F.Select left clauses) = ap (switched left) (comms_are clauses)
layered (StmtForm-F.Label name inner) = refl
layered (StmtForm-F.Break name) = refl
layered (StmtForm-F.Continue name) = refl
layered StmtForm-F.Fallthrough = refl
layered _ = refl

pub form_is : (f : StmtForm) → form_outline f ≡ form_layer (out-StmtForm f)
unfolding form_outline block_outline outline
form_is f = fold_out-StmtForm Shape Braced Clause Clause Lists Node form_step block_step case_step comm_step other_step stmt_step f ∙ layered (out-StmtForm f)
