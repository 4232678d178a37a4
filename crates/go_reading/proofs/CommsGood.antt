-- The readers of the heads of clauses are good.
use Rattle.std.proofs.Common.{◌≡◌, ◌≢◌, ◌||◌, ℕ, zero, suc, ◌+◌, ◌-◌, ◌≤◌, ◌<◌, max, Bool, true, false, List, [], ◌∷◌, ◌++◌, Option, Some, None, refl, ap, ◌∙◌, append_assoc, arith}
use Rattle.std.proofs.lemmas.List.{append-nil}
use Rattle.go_ast.specs.declared.name.Name.{Name}
use Rattle.go_ast.specs.declared.span.Span.{Span}
use Rattle.go_ast.specs.declared.token.TokenKind.{TokenKind}
use Rattle.go_ast.specs.declared.token.TokenKind.TheVariants as kind
use Rattle.go_ast.specs.declared.expr.Expr.{Expr}
use Rattle.go_ast.specs.declared.expr.ExprForm.TheVariants as form
use Rattle.go_ast.specs.declared.expr.BinaryOp.{BinaryOp}
use Rattle.go_ast.specs.declared.expr.UnaryOp.TheVariants as sign
use Rattle.go_ast.specs.declared.block.Target.{Target}
use Rattle.go_ast.specs.declared.block.Comm.{Comm}
use Rattle.go_ast.specs.declared.block.Comm.TheVariants as comm
use Rattle.go_grammar.specs.Words.{Word}
use Rattle.go_grammar.specs.Terminals as t
use Rattle.go_grammar.specs.Trees.{expr_node, expr_end, binary_expr, binary_kind, level}
use Rattle.go_grammar.specs.Lists.{one_item}
use Rattle.go_grammar.specs.Exprs.{IsExpr, IsExprs, one_expr, signed, operated}
use Rattle.go_grammar.specs.Simple.{IsTarget, IsTargets, IsComm, send, take_, take_into, take_new}
use Rattle.go_reading.specs.declared.fault.Fault.{Fault}
use Rattle.go_reading.specs.declared.fault.Fault.TheVariants.{TooDeep, Exhausted}
use Rattle.go_reading.specs.Kinds.{is, binary_op}
use Rattle.go_reading.specs.Input.{Tall, kind_of, span_of}
use Rattle.go_reading.specs.Exprs.{expr, exprs, climb}
use Rattle.go_reading.specs.Simple.{target_of, plains_of, next_target, is_some}
use Rattle.go_reading.specs.Types.{qualified}
use Rattle.go_reading.specs.Stmts.{take_channel, send_comm, new_comm, comm_taken, comm_targets, comm_by, received, comm_in, begins_clause, case_head, comm_head}
use Rattle.go_reading.proofs.Good.{Room, ◌⊑◌, Form, Good, Filled, Rises, Rest, seq, weaker, fewer, good_pure, good_refuse, good_exhausted, good_far, choice, by_test, take_then, expect_then, IsTaken, a_word, some_is, is_is, same_is, shift}
use Rattle.go_reading.proofs.Tables.{binary_sound, level_small, level_some}
use Rattle.go_reading.proofs.Rows.{Within, within_rises, some_not_none}
use Rattle.go_reading.proofs.TypesGood.{QualifiedOf, qualified_rises, qualified_one, target_qualified}
use Rattle.go_reading.proofs.ExprsGood.{ExprOf, expr_rises, expr_good, climb_good, ExprsOf, exprs_good, an_expr, is_an_expr, tall}
use Rattle.go_reading.proofs.Begun.{pick}
use Rattle.go_reading.proofs.LeadGood.{target_spelled, targets_snoc, targets_names}
use Rattle.go_reading.proofs.StmtForms.{IsCaseHead, case_is, default_is, IsCommHead, comm_is, none_is}

-- ---- clauses of a switch

fill_case : (b : Room) → Filled b (Within IsCaseHead)
fill_case b = let k = a_word t.default_word in let c = a_word t.colon in (((None, c.span.start), 0), k ∷ c ∷ [], (default_is k c refl refl, omega arith))

second : (o : Option TokenKind) → begins_clause o ≡ true → is o t.case_word ≡ false → o ≡ Some t.default_word
second o b e = pick (is o t.case_word) (is o t.default_word) b (λ f. absurd (go (is o t.case_word) f e)) (λ f. is_is o t.default_word f)
  where
    go : (v : Bool) → v ≡ true → v ≡ false → ⊥
    go v f g = cc

module _ (K : Fault → Type 0) (never : K Exhausted → ⊥) (n n' : ℕ) (len : n ≤ n') (d d' : Room) (led : d ⊑ d') (deep : K TooDeep → d.0 ≡ d'.0) where
  pub case_head_good : (ts : List Word) → begins_clause (kind_of ts) ≡ true → Good n d K (Within IsCaseHead) (case_head n d.0) (case_head n' d'.0) ts
  unfolding case_head
  case_head_good ts begins = choice n d K _ t.case_word _ _ _ _ ts
      (λ here. good_far n K _ d d' 1 _ _ ts led deep (some_not_none (kind_of ts) t.case_word here) (λ b db. fill_case b)
      (λ a e. let c = a_word t.colon in (d.0 + 1, ((Some (an_expr ∷ []), c.span.start), 1), a_word kind.Name ∷ c ∷ [], omega arith, (case_is a c 1 (an_expr ∷ []) (a_word kind.Name ∷ []) (some_is a.kind t.case_word (e ∙ here)) (one_expr 7 1 an_expr (a_word kind.Name ∷ []) is_an_expr) refl, omega arith)))
      (λ some. take_then n n d K _ t.case_word span_of _ _ ts (omega arith) here (λ sp r.
      seq n d K ExprsOf _ (exprs n' d'.0) _ _ r _ _ (within_rises IsExprs) (exprs_good K never n n' len d d' led deep some r) (λ es _ r2.
      expect_then n d K _ t.colon span_of _ _ r2 (λ colon r3.
      good_pure n d K _ _ r3 (λ b db z iz v iv u iu. rw (iu.1, iz.1, iz.3) (case_is iu.0 iz.0 es.1 es.0 v iu.2 iv.0 iz.2, iv.1)))))))
      (λ other. take_then n n d K _ t.default_word span_of _ _ ts (omega arith) (second (kind_of ts) begins other) (λ sp r.
      expect_then n d K _ t.colon span_of _ _ r (λ colon r2.
      good_pure n d K _ _ r2 (λ b db v iv u iu. rw (iu.1, iv.1, iv.3) (default_is iu.0 iv.0 iu.2 iv.2, omega arith)))))

-- ---- what a clause of a select waits for

abbrev CommOf : Form (Tall Comm)
CommOf = Within IsComm

-- an arrow and the channel behind it
abbrev ChannelOf : Form (Tall Expr)
ChannelOf b x w = (r : Word) × (v : List Word) × (w ≡ r ∷ v) × (r.kind ≡ t.arrow) × ExprOf 6 b x v

channel_rises : Rises ChannelOf
channel_rises b c le x w s = (s.0, s.1, s.2, s.3, expr_rises 6 b c le x s.1 s.4)

a_channel : (b : Room) → 1 ≤ b.0 → ChannelOf b (an_expr, 1) (a_word t.arrow ∷ a_word kind.Name ∷ [])
a_channel b some = (a_word t.arrow, a_word kind.Name ∷ [], refl, refl, record { level_of = 7; high = omega arith; spells = is_an_expr; fits = some })

into_targets : (b : Room) (gs : List Target) (x : Tall Expr) (u v : List Word) (a : Word) → IsTargets gs u → a.kind ≡ t.assign → ChannelOf b x v → CommOf b (comm.Take gs x.0, x.1) (u ++ a ∷ v)
into_targets b gs x u v a iu ka iv = rw iv.2 (take_into a iv.0 iv.4.level_of x.1 gs x.0 u iv.1 iu ka iv.3 iv.4.spells iv.4.high, iv.4.fits)

into_names : (b : Room) (gs : List Target) (ns : List Name) → plains_of gs ≡ Some ns → (x : Tall Expr) (u v : List Word) (a : Word) → IsTargets gs u → a.kind ≡ t.define → ChannelOf b x v → CommOf b (comm.TakeNew ns x.0, x.1) (u ++ a ∷ v)
into_names b gs ns e x u v a iu ka iv = rw iv.2 (take_new a iv.0 iv.4.level_of x.1 ns x.0 u iv.1 (targets_names gs u iu ns e) ka iv.3 iv.4.spells iv.4.high, iv.4.fits)

-- behind targets
abbrev AfterTargets : List Target → Form (Tall Comm)
AfterTargets gs b y w = (u : List Word) → IsTargets gs u → CommOf b y (u ++ w)

fill_targets : (gs : List Target) (b : Room) → 1 ≤ b.0 → Filled b (AfterTargets gs)
fill_targets gs b some = ((comm.Take gs an_expr, 1), a_word t.assign ∷ a_word t.arrow ∷ a_word kind.Name ∷ [], λ u iu. into_targets b gs (an_expr, 1) u (a_word t.arrow ∷ a_word kind.Name ∷ []) (a_word t.assign) iu refl (a_channel b some))

abbrev TargetOf : Form Target
TargetOf b g w = IsTarget 0 g w

a_send : (b : Room) (x y : Tall Expr) (u v : List Word) (a : Word) → ExprOf 1 b x u → a.kind ≡ t.arrow → ExprOf 1 b y v → CommOf b (comm.Send x.0 y.0, max x.1 y.1) (u ++ a ∷ v)
a_send b x y u v a iu ka iv = (send a iu.level_of iv.level_of x.1 y.1 x.0 y.0 u v iu.spells ka iv.spells, let f = iu.fits in let g = iv.fits in omega arith)

short_expr : (b : Room) → 1 ≤ b.0 → ExprOf 1 b (an_expr, 1) (a_word kind.Name ∷ [])
short_expr b some = record { level_of = 7; high = omega arith; spells = is_an_expr; fits = some }

module _ (K : Fault → Type 0) (never : K Exhausted → ⊥) (n n' : ℕ) (len : n ≤ n') (c c' m m' : ℕ) (led : (suc c, m) ⊑ (suc c', m')) (deep : K TooDeep → suc c ≡ suc c') where
  expr_of_good : (least : ℕ) → least ≤ 6 → (ts : List Word) → Good n (suc c, m) K (ExprOf least) (expr n (suc c) least) (expr n' (suc c') least) ts
  expr_of_good least lm ts = expr_good K never n n' len (suc c) (suc c') m m' led deep (omega arith) least lm ts

  take_channel_good : (ts : List Word) → Good n (suc c, m) K ChannelOf (take_channel n (suc c)) (take_channel n' (suc c')) ts
  unfolding take_channel
  take_channel_good ts = expect_then n (suc c, m) K _ t.arrow span_of _ _ ts (λ sp r.
      weaker n (suc c, m) K (ExprOf 6) _ _ _ _ _ (λ b db x w i u iu. rw iu.1 (iu.0, w, refl, iu.2, i)) (expr_of_good 6 (omega arith) r))

  send_comm_good : (x : Tall Expr) (ts : List Word) → Good n (suc c, m) K (Rest (ExprOf 1) CommOf x) (send_comm n (suc c) x) (send_comm n' (suc c') x) ts
  unfolding send_comm
  send_comm_good x ts = expect_then n (suc c, m) K _ t.arrow span_of _ _ ts (λ sp r.
      seq n (suc c, m) K (ExprOf 1) _ (expr n' (suc c') 1) _ _ r _ _ (expr_rises 1) (expr_of_good 1 (omega arith) r) (λ y _ r2.
      good_pure n (suc c, m) K _ _ r2 (λ b db v iv a ia u iu. rw (append-nil, ia.1) (a_send b x y u v ia.0 iu ia.2 iv))))

  new_comm_good : (gs : List Target) (o : Option (List Name)) → plains_of gs ≡ o → (ts : List Word) → kind_of ts ≡ Some t.define → Good n (suc c, m) K (AfterTargets gs) (new_comm n (suc c) o) (new_comm n' (suc c') o) ts
  new_comm_good gs None e ts here = good_refuse n (suc c, m) K _ ts (λ b db. fill_targets gs b (let l = db.0 in omega arith))
  new_comm_good gs (Some ns) e ts here = take_then n n (suc c, m) K _ t.define span_of _ _ ts (omega arith) here (λ sp r.
      seq n (suc c, m) K ChannelOf _ (take_channel n' (suc c')) _ _ r _ _ channel_rises (take_channel_good r) (λ x _ r2.
      good_pure n (suc c, m) K _ _ r2 (λ b db v iv a ia u iu. rw (append-nil, ia.1) (into_names b gs ns e x u v ia.0 iu ia.2 iv))))

  comm_taken_good : (gs : List Target) (ts : List Word) → Good n (suc c, m) K (AfterTargets gs) (comm_taken n (suc c) gs) (comm_taken n' (suc c') gs) ts
  unfolding comm_taken
  comm_taken_good gs ts = choice n (suc c, m) K _ t.assign _ _ _ _ ts
      (λ here. take_then n n (suc c, m) K _ t.assign span_of _ _ ts (omega arith) here (λ sp r.
      seq n (suc c, m) K ChannelOf _ (take_channel n' (suc c')) _ _ r _ _ channel_rises (take_channel_good r) (λ x _ r2.
      good_pure n (suc c, m) K _ _ r2 (λ b db v iv a ia u iu. rw (append-nil, ia.1) (into_targets b gs x u v ia.0 iu ia.2 iv)))))
      (λ _. choice n (suc c, m) K _ t.define _ _ _ _ ts (λ here. new_comm_good gs (plains_of gs) refl ts here) (λ _. good_refuse n (suc c, m) K _ ts (λ b db. fill_targets gs b (let l = db.0 in omega arith))))

  next_one : (N : ℕ) (ts : List Word) → Good N (suc c, m) K TargetOf (next_target 1) (next_target 1) ts
  unfolding next_target
  next_one N ts = seq N (suc c, m) K QualifiedOf TargetOf (qualified 1) _ _ ts _ _ qualified_rises (qualified_one N (suc c, m) K ts) (λ q _ r. good_pure N (suc c, m) K _ _ r (λ b db u iu. rw append-nil (target_qualified q u iu)))

  comm_targets_good : (k k' : ℕ) → k ≤ n → k ≤ k' → (found : List Target) (ts : List Word) → Good k (suc c, m) K (AfterTargets found) (comm_targets n (suc c) k found) (comm_targets n' (suc c') k' found) ts
  unfolding comm_targets
  comm_targets_good zero k' ln le found ts = good_exhausted (suc c, m) K _ _ ts never (λ b db. fill_targets found b (let l = db.0 in omega arith))
  comm_targets_good (suc k) zero ln le found ts = absurd (omega arith)
  comm_targets_good (suc k) (suc k') ln le found ts = choice (suc k) (suc c, m) K _ t.comma _ _ _ _ ts
      (λ here. take_then (suc k) k (suc c, m) K _ t.comma span_of _ _ ts (omega arith) here (λ sp r.
      seq k (suc c, m) K TargetOf _ (next_target 1) _ _ r _ _ (λ b d le g w i. i) (next_one k r) (λ g _ r2.
      weaker k (suc c, m) K (AfterTargets (found ++ g ∷ [])) _ _ _ _ _ (λ b db y w f v iv a ia u iu. rw ia.1 (rw append_assoc at (f (u ++ ia.0 ∷ v) (targets_snoc found u iu ia.0 g v ia.2 iv))))
      (comm_targets_good k k' (omega arith) (omega arith) (found ++ g ∷ []) r2))))
      (λ _. fewer n (suc k) (suc c, m) K _ _ _ _ _ ln (comm_taken_good found ts))

  comm_by_good : (x : Tall Expr) (o : Option Target) → target_of x.0 ≡ o → (ts : List Word) → Good n (suc c, m) K (Rest (ExprOf 1) CommOf x) (comm_by n (suc c) o) (comm_by n' (suc c') o) ts
  comm_by_good x None e ts = good_refuse n (suc c, m) K _ ts (λ b db. ((comm.Send x.0 an_expr, max x.1 1), a_word t.arrow ∷ a_word kind.Name ∷ [], λ u iu. a_send b x (an_expr, 1) u (a_word kind.Name ∷ []) (a_word t.arrow) iu refl (short_expr b (let l = db.0 in omega arith))))
  comm_by_good x (Some g) e ts = weaker n (suc c, m) K (AfterTargets (g ∷ [])) _ _ _ _ _ (λ b db y w f u iu. f u (one_item 0 g u (target_spelled iu.level_of x.1 x.0 u iu.spells g e))) (comm_targets_good n n' (omega arith) len (g ∷ []) ts)

  -- ---- behind an arrow and an operand

  abbrev Receive : Span → Tall Expr → Tall Expr
  Receive start x = (expr_node start.start (expr_end x.0) (form.Unary sign.Receive x.0), x.1 + 1)

  abbrev AfterOperand : Span → Tall Expr → Form (Tall Comm)
  AfterOperand start x = Rest (ExprOf 6) (Rest (IsTaken t.arrow span_of) CommOf start) x

  received_expr : (start : Span) (x : Tall Expr) (b : Room) (u : List Word) → ExprOf 6 b x u → (a : List Word) → IsTaken t.arrow span_of b start a → IsExpr 6 (x.1 + 1) (Receive start x).0 (a ++ u)
  received_expr start x b u iu a ia = rw (ia.1, ia.3) (signed ia.0 sign.Receive iu.level_of x.1 x.0 u ia.2 iu.spells iu.high)

  only_taken : (start : Span) (x : Tall Expr) (b : Room) (u : List Word) → ExprOf 6 b x u → (a : List Word) → IsTaken t.arrow span_of b start a → CommOf b (comm.Take [] x.0, x.1) (a ++ (u ++ []))
  only_taken start x b u iu a ia = rw (append-nil, ia.1) (take_ ia.0 iu.level_of x.1 x.0 u ia.2 iu.spells iu.high, iu.fits)

  fill_operand : (start : Span) (x : Tall Expr) (b : Room) → Filled b (AfterOperand start x)
  fill_operand start x b = ((comm.Take [] x.0, x.1), [], λ u iu a ia. only_taken start x b u iu a ia)

  -- what goes on with the receive as an expression
  abbrev GoesOn : Tall Expr → Form (Tall Expr)
  GoesOn left b y w = (u : List Word) → IsExpr 6 left.1 left.0 u → ExprOf 1 b y (u ++ w)

  goes_on_rises : (left : Tall Expr) → Rises (GoesOn left)
  goes_on_rises left b d le y w f = λ u iu. expr_rises 1 b d le y (u ++ w) (f u iu)

  climb_here : (left : Tall Expr) → 1 ≤ left.1 → left.1 ≤ suc c → (ts : List Word) → Good n (suc c, m) K (GoesOn left) (climb n c (expr n c) 1 n 6 left.0 left.1) (climb n' c' (expr n' c') 1 n' 6 left.0 left.1) ts
  climb_here left some small ts =
      let less : (c, m) ⊑ (c', m') = (let l : suc c ≤ suc c' = led.0 in omega arith, led.1) in
      let eq : K TooDeep → c ≡ c' = λ s. let f : suc c ≡ suc c' = deep s in omega arith in
      weaker n (suc c, m) K (Rest (ExprOf 6) (ExprOf 1) left) (GoesOn left) _ _ _ _ (λ b db y w f u iu. f u (record { level_of = 6; high = omega arith; spells = iu; fits = let l = db.0 in omega arith }))
      (shift n (c, m) K (Rest (ExprOf 6) (ExprOf 1) left) (climb n' c' (expr n' c') 1 n' 6 left.0 left.1) ts _ _ (climb_good K never n n' len (c, m) (c', m') less eq (expr n c) (expr n' c') (λ so least lm ts'. expr_good K never n n' len c c' m m' less eq so least lm ts') 1 n n' (omega arith) len 6 (omega arith) left.0 left.1 some ts))

  test_some : (o : Option TokenKind) → (is o t.arrow || is_some (binary_op o)) ≡ true → o ≢ None
  unfolding binary_op
  test_some None b e = absurd cc
  test_some (Some k) b e = cc

  far_operand : (start : Span) (x : Tall Expr) → 1 ≤ x.1 → (a : Word) → (is (Some a.kind) t.arrow || is_some (binary_op (Some a.kind))) ≡ true → (b : Room) → x.1 + 2 ≤ b.0 → (y : Tall Comm) × (w : List Word) × AfterOperand start x b y (a ∷ w)
  far_operand start x some a e b le = pick (is (Some a.kind) t.arrow) (is_some (binary_op (Some a.kind))) e
      (λ f. ((comm.Send (Receive start x).0 an_expr, max (x.1 + 1) 1), a_word kind.Name ∷ [], λ u iu v iv. rw append_assoc at (a_send b (Receive start x) (an_expr, 1) (v ++ u) (a_word kind.Name ∷ []) a (record { level_of = 6; high = omega arith; spells = received_expr start x b u iu v iv; fits = omega arith }) (same_is a.kind t.arrow f) (short_expr b (omega arith)))))
      (λ f. go (binary_op (Some a.kind)) refl f)
    where
      go : (o : Option BinaryOp) → binary_op (Some a.kind) ≡ o → is_some o ≡ true → (y : Tall Comm) × (w : List Word) × AfterOperand start x b y (a ∷ w)
      go None g f = absurd cc
      go (Some op) g f =
          let s : level op < 6 = level_small op in
          let e2 : Tall Expr = (binary_expr op (Receive start x).0 an_expr, max (x.1 + 1) 1 + 1) in (
            (comm.Send e2.0 an_expr, max (max (x.1 + 1) 1 + 1) 1),
            a_word kind.Name ∷ a_word t.arrow ∷ a_word kind.Name ∷ [],
            λ u iu v iv.
                simp append_assoc at (a_send b (binary_expr op (Receive start x).0 an_expr, max (x.1 + 1) 1 + 1) (an_expr, 1) ((v ++ u) ++ a ∷ a_word kind.Name ∷ []) (a_word kind.Name ∷ []) (a_word t.arrow)
                (record { level_of = level op; high = level_some op; spells = operated a op 6 7 (x.1 + 1) 1 (Receive start x).0 an_expr (v ++ u) (a_word kind.Name ∷ []) (received_expr start x b u iu v iv) (omega arith) (some_is a.kind (binary_kind op) (binary_sound (Some a.kind) op g)) is_an_expr (omega arith); fits = omega arith })
                refl (short_expr b (omega arith))),
          )

  received_good : (start : Span) (x : Tall Expr) → 1 ≤ x.1 → (r : List Word) → Good n (suc c, m) K (AfterOperand start x) (received n (suc c) start x) (received n' (suc c') start x) r
  unfolding received
  received_good start x some r =
      let one : suc c - 1 ≡ c = omega arith in
      let one' : suc c' - 1 ≡ c' = omega arith in
      choice n (suc c, m) K (AfterOperand start x) t.colon _ _ _ _ r
      (λ here. good_pure n (suc c, m) K _ _ r (λ b db u iu a ia. only_taken start x b u iu a ia))
      (λ _. by_test n (suc c, m) K (AfterOperand start x) (λ kind. is kind t.arrow || is_some (binary_op kind)) _ _ _ _ r
      (λ yes'. good_far n K (AfterOperand start x) (suc c, m) (suc c', m') (x.1 + 1) _ _ r led deep (test_some (kind_of r) yes') (λ b db. fill_operand start x b)
      (λ a ea. let k = suc c + (x.1 + 2) in let p = far_operand start x some a (ap (λ (o : Option TokenKind). is o t.arrow || is_some (binary_op o)) ea ∙ yes') (k, m) (omega arith) in (k, p.0, p.1, omega arith, p.2))
      (λ small. rw (one, one') (seq n (suc c, m) K (GoesOn (Receive start x)) (AfterOperand start x) (climb n' c' (expr n' c') 1 n' 6 (Receive start x).0 (x.1 + 1)) _ _ r _ _ (goes_on_rises (Receive start x)) (climb_here (Receive start x) (omega arith) small r) (λ y _ r2.
      weaker n (suc c, m) K (Rest (ExprOf 1) CommOf y) _ _ _ _ _ (λ b db z w f v iv u iu a ia. simp append_assoc at (f ((a ++ u) ++ v) (iv (a ++ u) (received_expr start x b u iu a ia)))) (send_comm_good y r2)))))
      (λ _. good_refuse n (suc c, m) K _ r (λ b db. fill_operand start x b)))

  comm_in_good : (ts : List Word) → Good n (suc c, m) K CommOf (comm_in n (suc c)) (comm_in n' (suc c')) ts
  unfolding comm_in
  comm_in_good ts = choice n (suc c, m) K CommOf t.arrow _ _ _ _ ts
      (λ here. take_then n n (suc c, m) K _ t.arrow span_of _ _ ts (omega arith) here (λ start r.
      seq n (suc c, m) K (ExprOf 6) _ (expr n' (suc c') 6) _ _ r _ _ (expr_rises 6) (expr_of_good 6 (omega arith) r) (λ x sx r2.
      received_good start x (tall sx.3.level_of x.1 x.0 sx.1 sx.3.spells) r2)))
      (λ _. seq n (suc c, m) K (ExprOf 1) CommOf (expr n' (suc c') 1) _ _ ts _ _ (expr_rises 1) (expr_of_good 1 (omega arith) ts) (λ x _ r.
      choice n (suc c, m) K _ t.arrow _ _ _ _ r (λ here. send_comm_good x r) (λ _. comm_by_good x (target_of x.0) refl r)))

fill_comm : (b : Room) → Filled b (Within IsCommHead)
fill_comm b = let k = a_word t.default_word in let c = a_word t.colon in (((comm.Default, c.span.start), 0), k ∷ c ∷ [], (none_is k c refl refl, omega arith))

module _ (K : Fault → Type 0) (never : K Exhausted → ⊥) (n n' : ℕ) (len : n ≤ n') where
  comm_in_at : (d d' : Room) → d ⊑ d' → (K TooDeep → d.0 ≡ d'.0) → 1 ≤ d.0 → (ts : List Word) → Good n d K CommOf (comm_in n d.0) (comm_in n' d'.0) ts
  comm_in_at (zero, m) d' led deep some ts = absurd (omega arith)
  comm_in_at (suc c, m) (zero, m') led deep some ts = let l : suc c ≤ 0 = led.0 in absurd (omega arith)
  comm_in_at (suc c, m) (suc c', m') led deep some ts = comm_in_good K never n n' len c c' m m' led deep ts

  pub comm_head_good : (d d' : Room) → d ⊑ d' → (K TooDeep → d.0 ≡ d'.0) → (ts : List Word) → begins_clause (kind_of ts) ≡ true → Good n d K (Within IsCommHead) (comm_head n d.0) (comm_head n' d'.0) ts
  unfolding comm_head
  comm_head_good d d' led deep ts begins = choice n d K _ t.case_word _ _ _ _ ts
      (λ here. good_far n K _ d d' 1 _ _ ts led deep (some_not_none (kind_of ts) t.case_word here) (λ b db. fill_comm b)
      (λ a e. let c = a_word t.colon in (d.0 + 1, ((comm.Take [] an_expr, c.span.start), 1), a_word t.arrow ∷ a_word kind.Name ∷ c ∷ [], omega arith, (comm_is a c 1 (comm.Take [] an_expr) (a_word t.arrow ∷ a_word kind.Name ∷ []) (some_is a.kind t.case_word (e ∙ here)) (take_ (a_word t.arrow) 7 1 an_expr (a_word kind.Name ∷ []) refl is_an_expr (omega arith)) refl, omega arith)))
      (λ some. take_then n n d K _ t.case_word span_of _ _ ts (omega arith) here (λ sp r.
      seq n d K CommOf _ (comm_in n' d'.0) _ _ r _ _ (within_rises IsComm) (comm_in_at d d' led deep some r) (λ x _ r2.
      expect_then n d K _ t.colon span_of _ _ r2 (λ colon r3.
      good_pure n d K _ _ r3 (λ b db z iz v iv u iu. rw (iu.1, iz.1, iz.3) (comm_is iu.0 iz.0 x.1 x.0 v iu.2 iv.0 iz.2, iv.1)))))))
      (λ other. take_then n n d K _ t.default_word span_of _ _ ts (omega arith) (second (kind_of ts) begins other) (λ sp r.
      expect_then n d K _ t.colon span_of _ _ r (λ colon r2.
      good_pure n d K _ _ r2 (λ b db v iv u iu. rw (iu.1, iv.1, iv.3) (none_is iu.0 iv.0 iu.2 iv.2, omega arith)))))
