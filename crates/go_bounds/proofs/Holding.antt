-- What trees of the grammar hold, by their parts.
use Rattle.std.proofs.Common.{◌≡◌, ℕ, ◌≤◌, suc, List, [], ◌∷◌, ◌++◌, length, Option, Some, None, refl, sym, ap, subst, map}
use Rattle.std.specs.Prelude.{flat_map}
use Rattle.go_ast.specs.declared.expr.Expr.{Expr}
use Rattle.go_ast.specs.declared.name.Name.{Name}
use Rattle.go_ast.specs.declared.block.Block.{Block, out-Block, fold_out-Block, fold-roll-Block}
use Rattle.go_ast.specs.declared.block.CaseClause.{CaseClause, fold-roll-CaseClause}
use Rattle.go_ast.specs.declared.block.CommClause.{CommClause, fold-roll-CommClause}
use Rattle.go_ast.specs.declared.block.Comm.{Comm}
use Rattle.go_ast.specs.declared.block.Other.{Other, fold-roll-Other}
use Rattle.go_ast.specs.declared.block.Stmt.{Stmt, fold-roll-Stmt}
use Rattle.go_ast.specs.declared.block.StmtForm.{StmtForm, roll-StmtForm, fold-roll-StmtForm}
use Rattle.go_ast.specs.declared.block.StmtForm.TheOpen.{StmtForm-F}
use Rattle.go_ast.specs.declared.block.StmtForm.TheVariants as stmt
use Rattle.go_ast.specs.declared.block.StmtForm.TheVariants.{rolls-Block, rolls-If, rolls-For, rolls-Range, rolls-Switch, rolls-Select, rolls-Label}
use Rattle.go_grammar.specs.Trees.{stmt_node, block_node, hidden_block, other_node, case_node, comm_node}
use Rattle.go_bounds.specs.Known.{Each, Perhaps}
use Rattle.go_bounds.specs.Trees.{joined, Helds, form_held, block_held, case_held, comm_held, other_held, stmt_held, held}
use Rattle.go_bounds.specs.PackageBodies.{Sized}
use Rattle.go_bounds.proofs.Naming.{each_append}
use Rattle.go_bounds.proofs.Every.{heldF, heldB, heldC, heldM, heldO, heldS, helds, left, right}

module _ (counts : ℕ) where
  abbrev pub Good : Helds → Type 0
  Good hs = Each (Sized counts) hs

  both : (hs ks : Helds) → Good hs → Good ks → Good (hs ++ ks)
  both hs ks h k = each_append (Sized counts) hs ks h k

  abbrev pub GoodList : List Stmt → Type 0
  GoodList ss = Good (joined (map heldS ss))

  pub first_good : (x : Stmt) (xs : List Stmt) → Good (heldS x) → GoodList xs → GoodList (x ∷ xs)
  first_good x xs h k = both (heldS x) (joined (map heldS xs)) h k

  pub one_good : (x : Stmt) → Good (heldS x) → GoodList (x ∷ [])
  one_good x h = first_good x [] h tt

  -- ---- blocks and clauses

  pub braces_good : (a b : ℕ) (ss : List Stmt) → GoodList ss → Good (heldB (block_node a b ss))
  unfolding block_node
  braces_good a b ss h = subst Good (sym (fold-roll-Block Helds Helds Helds Helds Helds Helds form_held block_held case_held comm_held other_held stmt_held _)) h

  pub hidden_good : (after : ℕ) (x : Stmt) → Good (heldS x) → Good (heldB (hidden_block after x))
  unfolding hidden_block
  hidden_good after x h = subst Good (sym (fold-roll-Block Helds Helds Helds Helds Helds Helds form_held block_held case_held comm_held other_held stmt_held _)) (one_good x h)

  pub other_good : (after : ℕ) (b : Block) → Good (heldB b) → Good (heldO (other_node after b))
  unfolding other_node
  other_good after b h = subst Good (sym (fold-roll-Other Helds Helds Helds Helds Helds Helds form_held block_held case_held comm_held other_held stmt_held _)) h

  pub case_good : (values : Option (List Expr)) (colon : ℕ) (ss : List Stmt) → GoodList ss → Good (heldC (case_node values colon ss))
  unfolding case_node
  case_good values colon ss h = subst Good (sym (fold-roll-CaseClause Helds Helds Helds Helds Helds Helds form_held block_held case_held comm_held other_held stmt_held _)) h

  pub comm_good : (m : Comm) (colon : ℕ) (ss : List Stmt) → GoodList ss → Good (heldM (comm_node m colon ss))
  unfolding comm_node
  comm_good m colon ss h = subst Good (sym (fold-roll-CommClause Helds Helds Helds Helds Helds Helds form_held block_held case_held comm_held other_held stmt_held _)) h

  -- ---- statements

  stmt_good : (a b : ℕ) (f : StmtForm) → Good (heldF f) → Good (heldS (stmt_node a b f))
  unfolding stmt_node
  stmt_good a b f h = subst Good (sym (fold-roll-Stmt Helds Helds Helds Helds Helds Helds form_held block_held case_held comm_held other_held stmt_held _)) h

  -- a statement whose form has a layer
  pub node_good : (a b : ℕ) (x : StmtForm-F StmtForm Block CaseClause CommClause Other Stmt) (f : StmtForm) → roll-StmtForm x ≡ f → Good (form_held (helds x)) → Good (heldS (stmt_node a b f))
  node_good a b x f e h =
      stmt_good a b f (subst (λ g. Good (heldF g)) e (subst Good (sym (fold-roll-StmtForm Helds Helds Helds Helds Helds Helds form_held block_held case_held comm_held other_held stmt_held x)) h))

  abbrev pub GoodFirst : Option Stmt → Type 0
  GoodFirst o = Perhaps (λ (s : Stmt). Good (heldS s)) o

  abbrev pub GoodOther : Option Other → Type 0
  GoodOther o = Perhaps (λ (b : Other). Good (heldO b)) o

  pub block_good : (a b : ℕ) (c : Block) → Good (heldB c) → Good (heldS (stmt_node a b (stmt.Block c)))
  block_good a b c h = node_good a b (StmtForm-F.Block c) (stmt.Block c) (rolls-Block c) h

  pub if_good : (a b : ℕ) (first : Option Stmt) (e : Expr) (c : Block) (o : Option Other) → GoodFirst first → Good (heldB c) → GoodOther o → Good (heldS (stmt_node a b (stmt.If first e c o)))
  if_good a b None e c None f h k = node_good a b (StmtForm-F.If None e c None) (stmt.If None e c None) (rolls-If None e c None) (both (heldB c) [] h tt)
  if_good a b None e c (Some o) f h k = node_good a b (StmtForm-F.If None e c (Some o)) (stmt.If None e c (Some o)) (rolls-If None e c (Some o)) (both (heldB c) (heldO o) h k)
  if_good a b (Some s) e c None f h k = node_good a b (StmtForm-F.If (Some s) e c None) (stmt.If (Some s) e c None) (rolls-If (Some s) e c None) (both (heldS s ++ heldB c) [] (both (heldS s) (heldB c) f h) tt)
  if_good a b (Some s) e c (Some o) f h k =
      node_good a b (StmtForm-F.If (Some s) e c (Some o)) (stmt.If (Some s) e c (Some o)) (rolls-If (Some s) e c (Some o)) (both (heldS s ++ heldB c) (heldO o) (both (heldS s) (heldB c) f h) k)

  pub for_good : (a b : ℕ) (first : Option Stmt) (e : Option Expr) (last : Option Stmt) (c : Block) → GoodFirst first → GoodFirst last → Good (heldB c) → Good (heldS (stmt_node a b (stmt.For first e last c)))
  for_good a b None e None c f g h = node_good a b (StmtForm-F.For None e None c) (stmt.For None e None c) (rolls-For None e None c) h
  for_good a b None e (Some t) c f g h = node_good a b (StmtForm-F.For None e (Some t) c) (stmt.For None e (Some t) c) (rolls-For None e (Some t) c) (both (heldS t) (heldB c) g h)
  for_good a b (Some s) e None c f g h = node_good a b (StmtForm-F.For (Some s) e None c) (stmt.For (Some s) e None c) (rolls-For (Some s) e None c) (both (heldS s ++ []) (heldB c) (both (heldS s) [] f tt) h)
  for_good a b (Some s) e (Some t) c f g h =
      node_good a b (StmtForm-F.For (Some s) e (Some t) c) (stmt.For (Some s) e (Some t) c) (rolls-For (Some s) e (Some t) c) (both (heldS s ++ heldS t) (heldB c) (both (heldS s) (heldS t) f g) h)

  pub range_good : (a b : ℕ) (ns : List Name) (e : Expr) (c : Block) → Good (heldB c) → Good (heldS (stmt_node a b (stmt.Range ns e c)))
  range_good a b ns e c h = node_good a b (StmtForm-F.Range ns e c) (stmt.Range ns e c) (rolls-Range ns e c) h

  pub switch_good : (a b : ℕ) (first : Option Stmt) (e : Option Expr) (l : ℕ) (cs : List CaseClause) → GoodFirst first → Good (joined (map heldC cs)) → Good (heldS (stmt_node a b (stmt.Switch first e l cs)))
  switch_good a b None e l cs f h = node_good a b (StmtForm-F.Switch None e l cs) (stmt.Switch None e l cs) (rolls-Switch None e l cs) h
  switch_good a b (Some s) e l cs f h = node_good a b (StmtForm-F.Switch (Some s) e l cs) (stmt.Switch (Some s) e l cs) (rolls-Switch (Some s) e l cs) (both (heldS s) (joined (map heldC cs)) f h)

  comms_same : (cs : List CommClause) → length (map heldM cs) ≡ length cs
  comms_same [] = refl
  comms_same (c ∷ cs) = ap suc (comms_same cs)

  pub select_good : (a b l : ℕ) (cs : List CommClause) → length cs ≤ 1000 → Good (joined (map heldM cs)) → Good (heldS (stmt_node a b (stmt.Select l cs)))
  select_good a b l cs few h = node_good a b (StmtForm-F.Select l cs) (stmt.Select l cs) (rolls-Select l cs) (subst (λ n. n ≤ 1000) (sym (comms_same cs)) few, h)

  pub label_good : (a b : ℕ) (n : Name) (x : Stmt) → Good (heldS x) → Good (heldS (stmt_node a b (stmt.Label n x)))
  label_good a b n x h = node_good a b (StmtForm-F.Label n x) (stmt.Label n x) (rolls-Label n x) h

  -- ---- the statements of a block

  pub body_good : (b : Block) → Good (heldB b) → Good (flat_map held (out-Block b).list)
  unfolding held
  body_good b h = flat (out-Block b).list (subst Good (fold_out-Block Helds Helds Helds Helds Helds Helds form_held block_held case_held comm_held other_held stmt_held b) h)
    where
      flat : (ss : List Stmt) → GoodList ss → Good (flat_map heldS ss)
      flat [] k = tt
      flat (s ∷ ss) k = both (heldS s) (flat_map heldS ss) (left (Sized counts) (heldS s) (joined (map heldS ss)) k) (flat ss (right (Sized counts) (heldS s) (joined (map heldS ss)) k))
