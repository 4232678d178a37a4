-- One layer of a statement: what it is checked to be, by what its parts are.
use Rattle.std.proofs.Common.{◌≡◌, ℕ, suc, ◌+◌, List, [], ◌∷◌, length, map, refl, ap, ◌∙◌, Option, Some, None, Ok}
use Rattle.std.proofs.Math.Path.{fun_ext}
use Rattle.go_ast.specs.declared.expr.Expr.{Expr as Written}
use Rattle.go_ast.specs.declared.block.Block.{Block, out-Block, fold-Block, fold_out-Block}
use Rattle.go_ast.specs.declared.block.Other.{Other, out-Other, fold-Other, fold_out-Other}
use Rattle.go_ast.specs.declared.block.CaseClause.{CaseClause, out-CaseClause, fold-CaseClause, fold_out-CaseClause}
use Rattle.go_ast.specs.declared.block.CommClause.{CommClause, out-CommClause, fold-CommClause, fold_out-CommClause}
use Rattle.go_ast.specs.declared.block.Stmt.{Stmt, fold_out-Stmt}
use Rattle.go_ast.specs.declared.block.StmtForm.{StmtForm, out-StmtForm, fold-StmtForm, fold_out-StmtForm}
use Rattle.go_ast.specs.declared.block.StmtForm.TheOpen.{StmtForm-F}
use Rattle.go_ast.specs.declared.block.StmtForm.TheFolds.{map-StmtForm}
use Rattle.go_meaning.specs.declared.node.Simple.{Simple}
use Rattle.go_meaning.specs.declared.node.Node.{Node}
use Rattle.go_meaning.specs.declared.node.NodeForm.{NodeForm}
use Rattle.go_meaning.specs.declared.node.CaseClause.{CaseClause as CaseNode}
use Rattle.go_meaning.specs.declared.node.CommClause.{CommClause as CommNode}
use Rattle.go_types.specs.declared.types.ValueType.{ValueType}
use Rattle.go_types.specs.declared.cases.Seen.{Seen}
use Rattle.go_types.specs.declared.walk.Position.{Position}
use Rattle.go_types.specs.declared.walk.Walk.{Walk}
use Rattle.go_types.specs.Checking.{Checked, and_then}
use Rattle.go_types.specs.Walking.{Walking, ◌>>>◌, done, scoped}
use Rattle.go_types.specs.Bodies as spec
use Rattle.go_types.specs.Bodies.{BlockParts, CaseParts, CommParts, Checks, FormChecks, form_step, block_step, case_step, comm_step, other_step, stmt_step, check_stmt, plain_form, simple_form}

abbrev foldF : StmtForm → FormChecks
foldF = fold-StmtForm FormChecks BlockParts CaseParts CommParts (Walking ℕ) Checks form_step block_step case_step comm_step other_step stmt_step

abbrev foldB : Block → BlockParts
foldB = fold-Block FormChecks BlockParts CaseParts CommParts (Walking ℕ) Checks form_step block_step case_step comm_step other_step stmt_step

abbrev foldC : CaseClause → CaseParts
foldC = fold-CaseClause FormChecks BlockParts CaseParts CommParts (Walking ℕ) Checks form_step block_step case_step comm_step other_step stmt_step

abbrev foldM : CommClause → CommParts
foldM = fold-CommClause FormChecks BlockParts CaseParts CommParts (Walking ℕ) Checks form_step block_step case_step comm_step other_step stmt_step

abbrev foldO : Other → Walking ℕ
foldO = fold-Other FormChecks BlockParts CaseParts CommParts (Walking ℕ) Checks form_step block_step case_step comm_step other_step stmt_step

-- ---- lists

same_length : {A B : Type 0} (f : A → B) (as' : List A) → length (map f as') ≡ length as'
same_length f [] = refl
same_length f (a ∷ as') = ap (λ n. suc n) (same_length f as')

abbrev listed : Checks → Option ℕ → Option ℕ → Walking (List Node) → ℕ → Walking (List Node)
listed stmt colon next rest n =
    stmt (record { colon = colon; next = spec.next_at n next; label = None }) >>> (λ x. rest >>> (λ ns. done (x ∷ ns)))

list_is : (colon next : Option ℕ) (ss : List Stmt) → spec.list_of Checks (λ s. s) colon next (map check_stmt ss) ≡ spec.list_of Stmt check_stmt colon next ss
list_is colon next [] = refl
list_is colon next (s ∷ ss) =
    ap (λ n. listed (check_stmt s) colon next (spec.list_of Checks (λ s. s) None next (map check_stmt ss)) n) (same_length check_stmt ss)
    ∙ ap (λ rest. listed (check_stmt s) colon next rest (length ss)) (list_is None next ss)

block_is : (b : Block) → foldB b ≡ spec.block_parts b
unfolding check_stmt
block_is b =
    fold_out-Block FormChecks BlockParts CaseParts CommParts (Walking ℕ) Checks form_step block_step case_step comm_step other_step stmt_step b
    ∙ ap (λ (l : Walking (List Node)). let p : BlockParts = record { left = (out-Block b).left; list = spec.braced l } in p) (list_is None None (out-Block b).list)

case_is : (c : CaseClause) → foldC c ≡ spec.case_parts c
unfolding check_stmt
case_is c =
    fold_out-CaseClause FormChecks BlockParts CaseParts CommParts (Walking ℕ) Checks form_step block_step case_step comm_step other_step stmt_step c
    ∙ ap (λ (l : Option ℕ → Walking (List Node)). let p : CaseParts = record { values = (out-CaseClause c).values; list = l } in p) (fun_ext (λ next. list_is (Some (out-CaseClause c).colon) next (out-CaseClause c).list))

comm_is : (c : CommClause) → foldM c ≡ spec.comm_parts_of c
unfolding check_stmt
comm_is c =
    fold_out-CommClause FormChecks BlockParts CaseParts CommParts (Walking ℕ) Checks form_step block_step case_step comm_step other_step stmt_step c
    ∙ ap (λ (l : Walking (List Node)). let p : CommParts = record { comm = (out-CommClause c).comm; list = l } in p) (list_is (Some (out-CommClause c).colon) None (out-CommClause c).list)

other_is : (o : Other) → foldO o ≡ spec.other_parts o
other_is o =
    fold_out-Other FormChecks BlockParts CaseParts CommParts (Walking ℕ) Checks form_step block_step case_step comm_step other_step stmt_step o
    ∙ ap (λ (d : BlockParts). d.list) (block_is (out-Other o).block)

-- ---- clauses

abbrev case_then : ℕ → ValueType → ℕ → Seen → CaseParts → (Seen → Walking (List CaseNode)) → ℕ → Walking (List CaseNode)
case_then at t l seen c rest n = spec.clause at t l (spec.next_clause l n) seen c >>> (λ r. rest r.1 >>> (λ rs. done (r.0 ∷ rs)))

clauses_are : (at : ℕ) (t : ValueType) (l : ℕ) (seen : Seen) (cs : List CaseClause) →
    spec.clauses_of CaseParts (λ c. c) at t l seen (map foldC cs) ≡ spec.clauses_of CaseClause spec.case_parts at t l seen cs
clauses_are at t l seen [] = refl
clauses_are at t l seen (c ∷ cs) =
    ap (λ n. case_then at t l seen (foldC c) (λ more. spec.clauses_of CaseParts (λ c. c) at t (l + 1) more (map foldC cs)) n) (same_length foldC cs)
    ∙ ap (λ d. case_then at t l seen d (λ more. spec.clauses_of CaseParts (λ c. c) at t (l + 1) more (map foldC cs)) (length cs)) (case_is c)
    ∙ ap (λ rest. case_then at t l seen (spec.case_parts c) rest (length cs)) (fun_ext (λ more. clauses_are at t (l + 1) more cs))

abbrev comm_then : ℕ → ℕ → Seen → CommParts → (Seen → Walking (List CommNode)) → Walking (List CommNode)
comm_then at l seen m rest = spec.comm_clause at l seen m >>> (λ r. rest r.1 >>> (λ rs. done (r.0 ∷ rs)))

comms_are : (at l : ℕ) (seen : Seen) (ms : List CommClause) →
    spec.comm_clauses_of CommParts (λ m. m) at l seen (map foldM ms) ≡ spec.comm_clauses_of CommClause spec.comm_parts_of at l seen ms
comms_are at l seen [] = refl
comms_are at l seen (m ∷ ms) =
    ap (λ d. comm_then at l seen d (λ more. spec.comm_clauses_of CommParts (λ m. m) at (l + 1) more (map foldM ms))) (comm_is m)
    ∙ ap (λ rest. comm_then at l seen (spec.comm_parts_of m) rest) (fun_ext (λ more. comms_are at (l + 1) more ms))

-- ---- statements

abbrev lowered : StmtForm-F StmtForm Block CaseClause CommClause Other Stmt → StmtForm-F FormChecks BlockParts CaseParts CommParts (Walking ℕ) Checks
lowered = map-StmtForm StmtForm Block CaseClause CommClause Other Stmt FormChecks BlockParts CaseParts CommParts (Walking ℕ) Checks foldF foldB foldC foldM foldO check_stmt

abbrev first_of : Option Stmt → Walking (Option Simple)
first_of s = spec.first_of Stmt check_stmt s

if_none : (e : Written) (f : Walking (Option Simple)) (b : Block) →
    scoped (spec.if_parts e f (foldB b).list (done None)) ≡ scoped (spec.if_parts e f (spec.block_parts b).list (done None))
if_none e f b = ap (λ (d : BlockParts). scoped (spec.if_parts e f d.list (done None))) (block_is b)

abbrev some_of : Walking ℕ → Walking (Option ℕ)
some_of w = w >>> (λ l. done (Some l))

if_some : (e : Written) (f : Walking (Option Simple)) (b : Block) (o : Other) →
    scoped (spec.if_parts e f (foldB b).list (some_of (foldO o))) ≡ scoped (spec.if_parts e f (spec.block_parts b).list (some_of (spec.other_parts o)))
if_some e f b o =
    ap (λ (d : BlockParts). scoped (spec.if_parts e f d.list (some_of (foldO o)))) (block_is b)
    ∙ ap (λ (w : Walking ℕ). scoped (spec.if_parts e f (spec.block_parts b).list (some_of w))) (other_is o)

for_is : (label : Option ℕ) (e : Option Written) (f g : Walking (Option Simple)) (b : Block) →
    scoped (spec.for_parts e f (spec.last_part g) (spec.repeated label (foldB b).list)) ≡ scoped (spec.for_parts e f (spec.last_part g) (spec.repeated label (spec.block_parts b).list))
for_is label e f g b = ap (λ (d : BlockParts). scoped (spec.for_parts e f (spec.last_part g) (spec.repeated label d.list))) (block_is b)

abbrev cases_of : ℕ → List CaseClause → ValueType → ℕ → Walking (List CaseNode)
cases_of at cs t l = spec.clauses_of CaseParts (λ c. c) at t l spec.none_seen (map foldC cs)

switch_is : (label : Option ℕ) (at : ℕ) (e : Option Written) (f : Walking (Option Simple)) (cs : List CaseClause) →
    scoped (spec.switch_parts label (length (map foldC cs)) e f (cases_of at cs))
    ≡ scoped (spec.switch_parts label (length cs) e f (λ t l. spec.clauses_of CaseClause spec.case_parts at t l spec.none_seen cs))
switch_is label at e f cs =
    ap (λ n. scoped (spec.switch_parts label n e f (cases_of at cs))) (same_length foldC cs)
    ∙ ap (λ (k : ValueType → ℕ → Walking (List CaseNode)). scoped (spec.switch_parts label (length cs) e f k)) (fun_ext (λ t. fun_ext (λ l. clauses_are at t l spec.none_seen cs)))

abbrev comms_of : ℕ → List CommClause → ℕ → Walking (List CommNode)
comms_of at ms l = spec.comm_clauses_of CommParts (λ m. m) at l spec.none_seen (map foldM ms)

select_is : (label : Option ℕ) (at : ℕ) (ms : List CommClause) →
    spec.select_parts label (length (map foldM ms)) (comms_of at ms)
    ≡ spec.select_parts label (length ms) (λ l. spec.comm_clauses_of CommClause spec.comm_parts_of at l spec.none_seen ms)
select_is label at ms =
    ap (λ n. spec.select_parts label n (comms_of at ms)) (same_length foldM ms)
    ∙ ap (λ (k : ℕ → Walking (List CommNode)). spec.select_parts label (length ms) k) (fun_ext (λ l. comms_are at l spec.none_seen ms))

layered : (x : StmtForm-F StmtForm Block CaseClause CommClause Other Stmt) (at : ℕ) (p : Position) → form_step (lowered x) at p ≡ spec.form_of x at p
unfolding check_stmt plain_form simple_form
layered (StmtForm-F.Block b) at p = ap (λ (d : BlockParts). spec.block_at d.left p d.list) (block_is b)
layered (StmtForm-F.If None e b None) at p = if_none e (first_of None) b
layered (StmtForm-F.If (Some s) e b None) at p = if_none e (first_of (Some s)) b
layered (StmtForm-F.If None e b (Some o)) at p = if_some e (first_of None) b o
layered (StmtForm-F.If (Some s) e b (Some o)) at p = if_some e (first_of (Some s)) b o
layered (StmtForm-F.For None e None b) at p = for_is p.label e (first_of None) (first_of None) b
layered (StmtForm-F.For None e (Some t) b) at p = for_is p.label e (first_of None) (first_of (Some t)) b
layered (StmtForm-F.For (Some s) e None b) at p = for_is p.label e (first_of (Some s)) (first_of None) b
layered (StmtForm-F.For (Some s) e (Some t) b) at p = for_is p.label e (first_of (Some s)) (first_of (Some t)) b
layered (StmtForm-F.Range ns e b) at p = ap (λ (d : BlockParts). scoped (spec.range_parts at ns e (spec.repeated p.label d.list))) (block_is b)
layered (StmtForm-F.Switch None e left cs) at p = switch_is p.label at e (first_of None) cs
layered (StmtForm-F.Switch (Some s) e left cs) at p = switch_is p.label at e (first_of (Some s)) cs
layered (StmtForm-F.Select left ms) at p = select_is p.label at ms
layered (StmtForm-F.Label n s) at p = refl
layered _ at p = refl

form_is : (f : StmtForm) (at : ℕ) (p : Position) → foldF f at p ≡ spec.form_of (out-StmtForm f) at p
unfolding check_stmt
form_is f at p =
    ap (λ (k : FormChecks). k at p) (fold_out-StmtForm FormChecks BlockParts CaseParts CommParts (Walking ℕ) Checks form_step block_step case_step comm_step other_step stmt_step f)
    ∙ layered (out-StmtForm f) at p

abbrev noded : Stmt → Walking NodeForm → Walk → Checked (Node × Walk)
noded s w = w >>> (λ f. spec.node_at s.span f)

pub check_stmt_is : (s : Stmt) (p : Position) (w : Walk) → check_stmt s p w ≡ and_then (spec.form_of (out-StmtForm s.form) s.span.start p w) (λ r. Ok (record { span = s.span; form = r.0 }, r.1))
unfolding check_stmt
check_stmt_is s p w =
    ap (λ (k : Checks). k p w) (fold_out-Stmt FormChecks BlockParts CaseParts CommParts (Walking ℕ) Checks form_step block_step case_step comm_step other_step stmt_step s)
    ∙ ap (λ (k : Walking NodeForm). noded s k w) (form_is s.form s.span.start p)
