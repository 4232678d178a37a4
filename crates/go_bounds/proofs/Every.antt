-- What every statement makes.
use Rattle.std.proofs.Common.{◌≡◌, ℕ, ◌≤◌, List, [], ◌∷◌, ◌++◌, length, Option, Some, None, refl, sym, ap, subst, suc}
use denote.Hole.Holds.{Such}
use Rattle.go_ast.specs.declared.block.Block.{Block, fold-Block, fold-roll-Block, roll-Block}
use Rattle.go_ast.specs.declared.block.CaseClause.{CaseClause, fold-CaseClause, fold-roll-CaseClause, roll-CaseClause}
use Rattle.go_ast.specs.declared.block.CommClause.{CommClause, fold-CommClause, fold-roll-CommClause, roll-CommClause}
use Rattle.go_ast.specs.declared.block.Other.{Other, fold-Other, fold-roll-Other, roll-Other}
use Rattle.go_ast.specs.declared.block.Stmt.{Stmt, fold-Stmt, fold-roll-Stmt, roll-Stmt, ind-Stmt}
use Rattle.go_ast.specs.declared.block.StmtForm.{StmtForm, fold-StmtForm, fold-roll-StmtForm, roll-StmtForm}
use Rattle.go_ast.specs.declared.block.StmtForm.TheOpen.{StmtForm-F, Stmt-F, Block-F, Other-F, CaseClause-F, CommClause-F}
use Rattle.go_ast.specs.declared.block.StmtForm.TheFolds.{map-StmtForm, map-Block, map-CaseClause, map-CommClause, map-Other, map-Stmt, claims}
use Rattle.go_ast.specs.declared.block.StmtForm.TheShapes.{former-StmtForm-Switch-3, former-StmtForm-Select-1, former-Block-list}
use Rattle.go_ast.specs.declared.block.StmtForm.TheBlock.{the_family, member-StmtForm, member-Block, member-CaseClause, member-CommClause, member-Other, member-Stmt}
use Rattle.go_meaning.specs.Programs.{Parts}
use Rattle.go_types.specs.Walking.{Walking}
use Rattle.go_types.specs.Bodies.{CaseParts, CommParts, BlockParts, Checks, FormChecks, list_of, form_step, block_step, case_step, comm_step, other_step, stmt_step, check_stmt}
use Rattle.go_bounds.specs.Known.{Each}
use Rattle.go_bounds.specs.Trees.{joined, Helds, form_held, block_held, case_held, comm_held, other_held, stmt_held, held, Fits, AreFit}
use Rattle.go_bounds.proofs.Sure.{sure_ok, sure_then}
use Rattle.go_bounds.proofs.Plain.{IsFit}
use Rattle.go_bounds.proofs.Making.{MakesForm, MakesStmt, MakesBlock, MakesList, makes_list, makes_braced}
use Rattle.go_bounds.proofs.Clauses.{MakesCase, MakesComm}
use Rattle.go_bounds.proofs.Forms.{Given, layer_made}

pub left : {A : Type 0} (T : A → Type 0) (xs ys : List A) → Each T (xs ++ ys) → Each T xs
left T [] ys h = tt
left T (x ∷ xs) ys h = (h.0, left T xs ys h.1)

pub right : {A : Type 0} (T : A → Type 0) (xs ys : List A) → Each T (xs ++ ys) → Each T ys
right T [] ys h = h
right T (x ∷ xs) ys h = right T xs ys h.1

abbrev foldF : StmtForm → FormChecks
foldF = fold-StmtForm FormChecks BlockParts CaseParts CommParts (Walking ℕ) Checks form_step block_step case_step comm_step other_step stmt_step

abbrev foldB : Block → BlockParts
foldB = fold-Block FormChecks BlockParts CaseParts CommParts (Walking ℕ) Checks form_step block_step case_step comm_step other_step stmt_step

abbrev foldC : CaseClause → CaseParts
foldC = fold-CaseClause FormChecks BlockParts CaseParts CommParts (Walking ℕ) Checks form_step block_step case_step comm_step other_step stmt_step

abbrev foldM : CommClause → CommParts
foldM = fold-CommClause FormChecks BlockParts CaseParts CommParts (Walking ℕ) Checks form_step block_step case_step comm_step other_step stmt_step

abbrev foldO : Other → Walking ℕ
foldO = fold-Other FormChecks BlockParts CaseParts CommParts (Walking ℕ) Checks form_step block_step case_step comm_step other_step stmt_step

abbrev foldS : Stmt → Checks
foldS = fold-Stmt FormChecks BlockParts CaseParts CommParts (Walking ℕ) Checks form_step block_step case_step comm_step other_step stmt_step

abbrev pub heldF : StmtForm → Helds
heldF = fold-StmtForm Helds Helds Helds Helds Helds Helds form_held block_held case_held comm_held other_held stmt_held

abbrev pub heldB : Block → Helds
heldB = fold-Block Helds Helds Helds Helds Helds Helds form_held block_held case_held comm_held other_held stmt_held

abbrev pub heldC : CaseClause → Helds
heldC = fold-CaseClause Helds Helds Helds Helds Helds Helds form_held block_held case_held comm_held other_held stmt_held

abbrev pub heldM : CommClause → Helds
heldM = fold-CommClause Helds Helds Helds Helds Helds Helds form_held block_held case_held comm_held other_held stmt_held

abbrev pub heldO : Other → Helds
heldO = fold-Other Helds Helds Helds Helds Helds Helds form_held block_held case_held comm_held other_held stmt_held

abbrev pub heldS : Stmt → Helds
heldS = fold-Stmt Helds Helds Helds Helds Helds Helds form_held block_held case_held comm_held other_held stmt_held

abbrev pub helds : StmtForm-F StmtForm Block CaseClause CommClause Other Stmt → StmtForm-F Helds Helds Helds Helds Helds Helds
helds = map-StmtForm StmtForm Block CaseClause CommClause Other Stmt Helds Helds Helds Helds Helds Helds heldF heldB heldC heldM heldO heldS

module _ (P : Parts) (first : ℕ) where
  abbrev Fit : Helds → Type 0
  Fit hs = AreFit P first hs

  abbrev F : StmtForm → Type 0
  F x = Fit (heldF x) → MakesForm P first (foldF x)

  abbrev B : Block → Type 0
  B b = Fit (heldB b) → MakesBlock P first (foldB b).list

  abbrev C : CaseClause → Type 0
  C c = Fit (heldC c) → MakesCase P first (foldC c)

  abbrev M : CommClause → Type 0
  M c = Fit (heldM c) → MakesComm P first (foldM c)

  abbrev O : Other → Type 0
  O o = Fit (heldO o) → MakesBlock P first (foldO o)

  abbrev S : Stmt → Type 0
  S s = Fit (heldS s) → MakesStmt P first (foldS s)

  abbrev SuchF : Type 0
  SuchF = Such the_family (claims F B C M O S) member-StmtForm

  abbrev SuchB : Type 0
  SuchB = Such the_family (claims F B C M O S) member-Block

  abbrev SuchC : Type 0
  SuchC = Such the_family (claims F B C M O S) member-CaseClause

  abbrev SuchM : Type 0
  SuchM = Such the_family (claims F B C M O S) member-CommClause

  abbrev SuchO : Type 0
  SuchO = Such the_family (claims F B C M O S) member-Other

  abbrev SuchS : Type 0
  SuchS = Such the_family (claims F B C M O S) member-Stmt

  -- ---- parts of a layer

  abbrev Gives : StmtForm-F FormChecks BlockParts CaseParts CommParts (Walking ℕ) Checks → Type 0
  Gives x = Given P first BlockParts CaseParts CommParts (Walking ℕ) Checks (λ b. b) (λ c. c) (λ m. m) (λ o. o) (λ s. s)
      (λ b. MakesBlock P first b.list) (MakesCase P first) (MakesComm P first) (MakesBlock P first) (MakesStmt P first) (λ b g. g) (λ c g. g) (λ c g. g) (λ o g. g) (λ s g. g) x

  abbrev folds : StmtForm-F StmtForm Block CaseClause CommClause Other Stmt → StmtForm-F FormChecks BlockParts CaseParts CommParts (Walking ℕ) Checks
  folds = map-StmtForm StmtForm Block CaseClause CommClause Other Stmt FormChecks BlockParts CaseParts CommParts (Walking ℕ) Checks foldF foldB foldC foldM foldO foldS

  at_roll : (x : StmtForm-F StmtForm Block CaseClause CommClause Other Stmt) → (Fit (form_held (helds x)) → Gives (folds x) × ((m : ℕ) → IsFit P first m (folds x))) → F (roll-StmtForm x)
  at_roll x k h =
      let g = k (subst Fit (fold-roll-StmtForm Helds Helds Helds Helds Helds Helds form_held block_held case_held comm_held other_held stmt_held x) h) in
      subst (MakesForm P first) (sym (fold-roll-StmtForm FormChecks BlockParts CaseParts CommParts (Walking ℕ) Checks form_step block_step case_step comm_step other_step stmt_step x))
      (layer_made P first BlockParts CaseParts CommParts (Walking ℕ) Checks (λ b. b) (λ c. c) (λ m. m) (λ o. o) (λ s. s)
      (λ b. MakesBlock P first b.list) (MakesCase P first) (MakesComm P first) (MakesBlock P first) (MakesStmt P first) (λ b g. g) (λ c g. g) (λ c g. g) (λ o g. g) (λ s g. g) (folds x) g.0 g.1)

  each_case : (cs : List SuchC) → Fit (joined ((former-StmtForm-Switch-3).map CaseClause Helds heldC ((former-StmtForm-Switch-3).map SuchC CaseClause (λ e. e.0) cs)))
      → Each (MakesCase P first) ((former-StmtForm-Switch-3).map CaseClause CaseParts foldC ((former-StmtForm-Switch-3).map SuchC CaseClause (λ e. e.0) cs))
  each_case [] h = tt
  each_case (c ∷ cs) h = (c.1 (left (Fits P first) _ _ h), each_case cs (right (Fits P first) (heldC c.0) _ h))

  each_comm : (cs : List SuchM) → Fit (joined ((former-StmtForm-Select-1).map CommClause Helds heldM ((former-StmtForm-Select-1).map SuchM CommClause (λ e. e.0) cs)))
      → Each (MakesComm P first) ((former-StmtForm-Select-1).map CommClause CommParts foldM ((former-StmtForm-Select-1).map SuchM CommClause (λ e. e.0) cs))
  each_comm [] h = tt
  each_comm (c ∷ cs) h = (c.1 (left (Fits P first) _ _ h), each_comm cs (right (Fits P first) (heldM c.0) _ h))

  few_comms : (cs : List SuchM) → length ((former-StmtForm-Select-1).map CommClause Helds heldM ((former-StmtForm-Select-1).map SuchM CommClause (λ e. e.0) cs)) ≡ length ((former-StmtForm-Select-1).map CommClause CommParts foldM ((former-StmtForm-Select-1).map SuchM CommClause (λ e. e.0) cs))
  few_comms [] = refl
  few_comms (c ∷ cs) = ap suc (few_comms cs)

  each_stmt : (ss : List SuchS) → Fit (joined ((former-Block-list).map Stmt Helds heldS ((former-Block-list).map SuchS Stmt (λ e. e.0) ss)))
      → Each (MakesStmt P first) ((former-Block-list).map Stmt Checks foldS ((former-Block-list).map SuchS Stmt (λ e. e.0) ss))
  each_stmt [] h = tt
  each_stmt (s ∷ ss) h = (s.1 (left (Fits P first) _ _ h), each_stmt ss (right (Fits P first) (heldS s.0) _ h))

  abbrev open_form : StmtForm-F SuchF SuchB SuchC SuchM SuchO SuchS → StmtForm-F StmtForm Block CaseClause CommClause Other Stmt
  open_form = map-StmtForm SuchF SuchB SuchC SuchM SuchO SuchS StmtForm Block CaseClause CommClause Other Stmt (λ e. e.0) (λ e. e.0) (λ e. e.0) (λ e. e.0) (λ e. e.0) (λ e. e.0)

  held_of : Option SuchS → Helds
  held_of None = []
  held_of (Some s) = heldS s.0

  made : (y : StmtForm-F SuchF SuchB SuchC SuchM SuchO SuchS) → F (roll-StmtForm (open_form y))
  made (StmtForm-F.Block b) = at_roll (StmtForm-F.Block b.0) (λ h. (b.1 h, λ m. tt))
  made (StmtForm-F.Label n s) = at_roll (StmtForm-F.Label n s.0) (λ h. (s.1 h, λ m. tt))
  made (StmtForm-F.Range ns e b) = at_roll (StmtForm-F.Range ns e b.0) (λ h. (b.1 h, λ m. tt))
  made (StmtForm-F.Count u) = at_roll (StmtForm-F.Count u) (λ h. (tt, λ m. h.0))
  made (StmtForm-F.Select l ms) = at_roll (open_form (StmtForm-F.Select l ms)) (λ h. (each_comm ms h.1, λ m. subst (λ n. n ≤ 1000) (few_comms ms) h.0))
  made (StmtForm-F.Switch None e l cs) = at_roll (open_form (StmtForm-F.Switch None e l cs)) (λ h. ((tt, each_case cs h), λ m. tt))
  made (StmtForm-F.Switch (Some f) e l cs) = at_roll (open_form (StmtForm-F.Switch (Some f) e l cs)) (λ h. ((f.1 (left (Fits P first) _ _ h), each_case cs (right (Fits P first) (heldS f.0) _ h)), λ m. tt))
  made (StmtForm-F.If None e b None) = at_roll (open_form (StmtForm-F.If None e b None)) (λ h. ((tt, b.1 (left (Fits P first) (heldB b.0) [] h), tt), λ m. tt))
  made (StmtForm-F.If None e b (Some o)) = at_roll (open_form (StmtForm-F.If None e b (Some o))) (λ h. ((tt, b.1 (left (Fits P first) (heldB b.0) (heldO o.0) h), o.1 (right (Fits P first) (heldB b.0) (heldO o.0) h)), λ m. tt))
  made (StmtForm-F.If (Some f) e b None) = at_roll (open_form (StmtForm-F.If (Some f) e b None)) (λ h.
      let k : Fit (heldS f.0 ++ heldB b.0) = left (Fits P first) (heldS f.0 ++ heldB b.0) [] h in
      ((f.1 (left (Fits P first) (heldS f.0) (heldB b.0) k), b.1 (right (Fits P first) (heldS f.0) (heldB b.0) k), tt), λ m. tt))
  made (StmtForm-F.If (Some f) e b (Some o)) = at_roll (open_form (StmtForm-F.If (Some f) e b (Some o))) (λ h.
      let k : Fit (heldS f.0 ++ heldB b.0) = left (Fits P first) (heldS f.0 ++ heldB b.0) (heldO o.0) h in
      ((f.1 (left (Fits P first) (heldS f.0) (heldB b.0) k), b.1 (right (Fits P first) (heldS f.0) (heldB b.0) k), o.1 (right (Fits P first) (heldS f.0 ++ heldB b.0) (heldO o.0) h)), λ m. tt))
  made (StmtForm-F.For None e None b) = at_roll (open_form (StmtForm-F.For None e None b)) (λ h. ((tt, tt, b.1 h), λ m. tt))
  made (StmtForm-F.For None e (Some g) b) = at_roll (open_form (StmtForm-F.For None e (Some g) b)) (λ h. ((tt, g.1 (left (Fits P first) (heldS g.0) (heldB b.0) h), b.1 (right (Fits P first) (heldS g.0) (heldB b.0) h)), λ m. tt))
  made (StmtForm-F.For (Some f) e None b) = at_roll (open_form (StmtForm-F.For (Some f) e None b)) (λ h.
      let k : Fit (heldS f.0) = left (Fits P first) (heldS f.0) [] (left (Fits P first) (heldS f.0 ++ []) (heldB b.0) h) in
      ((f.1 k, tt, b.1 (right (Fits P first) (heldS f.0 ++ []) (heldB b.0) h)), λ m. tt))
  made (StmtForm-F.For (Some f) e (Some g) b) = at_roll (open_form (StmtForm-F.For (Some f) e (Some g) b)) (λ h.
      let k : Fit (heldS f.0 ++ heldS g.0) = left (Fits P first) (heldS f.0 ++ heldS g.0) (heldB b.0) h in
      ((f.1 (left (Fits P first) (heldS f.0) (heldS g.0) k), g.1 (right (Fits P first) (heldS f.0) (heldS g.0) k), b.1 (right (Fits P first) (heldS f.0 ++ heldS g.0) (heldB b.0) h)), λ m. tt))
  made (StmtForm-F.Const cs) = at_roll (StmtForm-F.Const cs) (λ h. (tt, λ m. tt))
  made (StmtForm-F.Var vs) = at_roll (StmtForm-F.Var vs) (λ h. (tt, λ m. tt))
  made (StmtForm-F.Eval e) = at_roll (StmtForm-F.Eval e) (λ h. (tt, λ m. tt))
  made (StmtForm-F.Send e f) = at_roll (StmtForm-F.Send e f) (λ h. (tt, λ m. tt))
  made (StmtForm-F.Up t) = at_roll (StmtForm-F.Up t) (λ h. (tt, λ m. tt))
  made (StmtForm-F.Down t) = at_roll (StmtForm-F.Down t) (λ h. (tt, λ m. tt))
  made (StmtForm-F.Update t o e) = at_roll (StmtForm-F.Update t o e) (λ h. (tt, λ m. tt))
  made (StmtForm-F.Assign ts es) = at_roll (StmtForm-F.Assign ts es) (λ h. (tt, λ m. tt))
  made (StmtForm-F.Define ns es) = at_roll (StmtForm-F.Define ns es) (λ h. (tt, λ m. tt))
  made (StmtForm-F.Return es) = at_roll (StmtForm-F.Return es) (λ h. (tt, λ m. tt))
  made (StmtForm-F.Break n) = at_roll (StmtForm-F.Break n) (λ h. (tt, λ m. tt))
  made (StmtForm-F.Continue n) = at_roll (StmtForm-F.Continue n) (λ h. (tt, λ m. tt))
  made StmtForm-F.Fallthrough = at_roll StmtForm-F.Fallthrough (λ h. (tt, λ m. tt))
  made (StmtForm-F.Go e) = at_roll (StmtForm-F.Go e) (λ h. (tt, λ m. tt))
  made (StmtForm-F.Defer e) = at_roll (StmtForm-F.Defer e) (λ h. (tt, λ m. tt))

  -- ---- the other trees

  list_makes : (colon next : Option ℕ) (ss : List Checks) → Each (MakesStmt P first) ss → MakesList P first (Rattle.go_bounds.proofs.Making.IsNext P first next) (list_of Checks (λ s. s) colon next ss)
  list_makes colon next ss g = makes_list P first Checks (λ s. s) (MakesStmt P first) (λ s g. g) colon next ss g

  free_makes : {p : Walking (List Rattle.go_meaning.specs.declared.node.Node.Node)} → MakesList P first (Rattle.go_bounds.proofs.Making.IsNext P first None) p → MakesList P first (Unit {0}) p
  free_makes h = record { makes = h.makes }

  made_block : (y : Block-F SuchF SuchB SuchC SuchM SuchO SuchS) → B (roll-Block (map-Block SuchF SuchB SuchC SuchM SuchO SuchS StmtForm Block CaseClause CommClause Other Stmt (λ e. e.0) (λ e. e.0) (λ e. e.0) (λ e. e.0) (λ e. e.0) (λ e. e.0) y))
  made_block y h =
      let x = map-Block SuchF SuchB SuchC SuchM SuchO SuchS StmtForm Block CaseClause CommClause Other Stmt (λ e. e.0) (λ e. e.0) (λ e. e.0) (λ e. e.0) (λ e. e.0) (λ e. e.0) y in
      let g = subst Fit (fold-roll-Block Helds Helds Helds Helds Helds Helds form_held block_held case_held comm_held other_held stmt_held x) h in
      subst (λ (b : BlockParts). MakesBlock P first b.list) (sym (fold-roll-Block FormChecks BlockParts CaseParts CommParts (Walking ℕ) Checks form_step block_step case_step comm_step other_step stmt_step x))
      (makes_braced P first (free_makes (list_makes None None _ (each_stmt y.list g))))

  made_case : (y : CaseClause-F SuchF SuchB SuchC SuchM SuchO SuchS) → C (roll-CaseClause (map-CaseClause SuchF SuchB SuchC SuchM SuchO SuchS StmtForm Block CaseClause CommClause Other Stmt (λ e. e.0) (λ e. e.0) (λ e. e.0) (λ e. e.0) (λ e. e.0) (λ e. e.0) y))
  made_case y h =
      let x = map-CaseClause SuchF SuchB SuchC SuchM SuchO SuchS StmtForm Block CaseClause CommClause Other Stmt (λ e. e.0) (λ e. e.0) (λ e. e.0) (λ e. e.0) (λ e. e.0) (λ e. e.0) y in
      let g = subst Fit (fold-roll-CaseClause Helds Helds Helds Helds Helds Helds form_held block_held case_held comm_held other_held stmt_held x) h in
      subst (MakesCase P first) (sym (fold-roll-CaseClause FormChecks BlockParts CaseParts CommParts (Walking ℕ) Checks form_step block_step case_step comm_step other_step stmt_step x))
      (record { list = λ next. list_makes (Some y.colon) next _ (each_stmt y.list g) })

  made_comm : (y : CommClause-F SuchF SuchB SuchC SuchM SuchO SuchS) → M (roll-CommClause (map-CommClause SuchF SuchB SuchC SuchM SuchO SuchS StmtForm Block CaseClause CommClause Other Stmt (λ e. e.0) (λ e. e.0) (λ e. e.0) (λ e. e.0) (λ e. e.0) (λ e. e.0) y))
  made_comm y h =
      let x = map-CommClause SuchF SuchB SuchC SuchM SuchO SuchS StmtForm Block CaseClause CommClause Other Stmt (λ e. e.0) (λ e. e.0) (λ e. e.0) (λ e. e.0) (λ e. e.0) (λ e. e.0) y in
      let g = subst Fit (fold-roll-CommClause Helds Helds Helds Helds Helds Helds form_held block_held case_held comm_held other_held stmt_held x) h in
      subst (MakesComm P first) (sym (fold-roll-CommClause FormChecks BlockParts CaseParts CommParts (Walking ℕ) Checks form_step block_step case_step comm_step other_step stmt_step x))
      (record { list = free_makes (list_makes (Some y.colon) None _ (each_stmt y.list g)) })

  made_other : (y : Other-F SuchF SuchB SuchC SuchM SuchO SuchS) → O (roll-Other (map-Other SuchF SuchB SuchC SuchM SuchO SuchS StmtForm Block CaseClause CommClause Other Stmt (λ e. e.0) (λ e. e.0) (λ e. e.0) (λ e. e.0) (λ e. e.0) (λ e. e.0) y))
  made_other y h =
      let x = map-Other SuchF SuchB SuchC SuchM SuchO SuchS StmtForm Block CaseClause CommClause Other Stmt (λ e. e.0) (λ e. e.0) (λ e. e.0) (λ e. e.0) (λ e. e.0) (λ e. e.0) y in
      let g = subst Fit (fold-roll-Other Helds Helds Helds Helds Helds Helds form_held block_held case_held comm_held other_held stmt_held x) h in
      subst (MakesBlock P first) (sym (fold-roll-Other FormChecks BlockParts CaseParts CommParts (Walking ℕ) Checks form_step block_step case_step comm_step other_step stmt_step x))
      (y.block.1 g)

  made_stmt : (y : Stmt-F SuchF SuchB SuchC SuchM SuchO SuchS) → S (roll-Stmt (map-Stmt SuchF SuchB SuchC SuchM SuchO SuchS StmtForm Block CaseClause CommClause Other Stmt (λ e. e.0) (λ e. e.0) (λ e. e.0) (λ e. e.0) (λ e. e.0) (λ e. e.0) y))
  made_stmt y h =
      let x = map-Stmt SuchF SuchB SuchC SuchM SuchO SuchS StmtForm Block CaseClause CommClause Other Stmt (λ e. e.0) (λ e. e.0) (λ e. e.0) (λ e. e.0) (λ e. e.0) (λ e. e.0) y in
      let g = subst Fit (fold-roll-Stmt Helds Helds Helds Helds Helds Helds form_held block_held case_held comm_held other_held stmt_held x) h in
      subst (MakesStmt P first) (sym (fold-roll-Stmt FormChecks BlockParts CaseParts CommParts (Walking ℕ) Checks form_step block_step case_step comm_step other_step stmt_step x))
      (record { makes = λ p m s r. sure_then ((y.form.1 g).makes y.span.start p m s r) (λ a q. sure_ok _ q) })

  pub check_makes : (s : Stmt) → AreFit P first (held s) → MakesStmt P first (check_stmt s)
  unfolding held check_stmt
  check_makes s = ind-Stmt F B C M O S
      (λ x y e. subst (λ (z : StmtForm-F StmtForm Block CaseClause CommClause Other Stmt). F (roll-StmtForm z)) e (made y))
      (λ x y e. subst (λ (z : Block-F StmtForm Block CaseClause CommClause Other Stmt). B (roll-Block z)) e (made_block y))
      (λ x y e. subst (λ (z : CaseClause-F StmtForm Block CaseClause CommClause Other Stmt). C (roll-CaseClause z)) e (made_case y))
      (λ x y e. subst (λ (z : CommClause-F StmtForm Block CaseClause CommClause Other Stmt). M (roll-CommClause z)) e (made_comm y))
      (λ x y e. subst (λ (z : Other-F StmtForm Block CaseClause CommClause Other Stmt). O (roll-Other z)) e (made_other y))
      (λ x y e. subst (λ (z : Stmt-F StmtForm Block CaseClause CommClause Other Stmt). S (roll-Stmt z)) e (made_stmt y))
      s
