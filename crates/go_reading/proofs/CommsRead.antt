-- Heads of clauses that the grammar derives are read.
use Rattle.std.proofs.Common.{◌≡◌, inl, ◌||◌, ℕ, zero, suc, ◌+◌, ◌-◌, ◌≤◌, ◌<◌, max, Bool, true, false, List, [], ◌∷◌, ◌++◌, Option, Some, None, length, Ok, Err, refl, sym, ap, subst, ◌∙◌, append_assoc, arith, nat_lt}
use Rattle.std.proofs.lemmas.List.{length-append}
use Rattle.std.proofs.lemmas.Bool.{le-ltb, ltb-false}
use Rattle.go_ast.specs.declared.name.Name.{Name}
use Rattle.go_ast.specs.declared.span.Span.{Span}
use Rattle.go_ast.specs.declared.token.TokenKind.{TokenKind}
use Rattle.go_ast.specs.declared.token.TokenKind.TheVariants as kind
use Rattle.go_ast.specs.declared.expr.Expr.{Expr}
use Rattle.go_ast.specs.declared.expr.ExprForm.TheVariants as form
use Rattle.go_ast.specs.declared.expr.BinaryOp.{BinaryOp}
use Rattle.go_ast.specs.declared.expr.UnaryOp.TheVariants as sign
use Rattle.go_ast.specs.declared.block.Target.{Target}
use Rattle.go_ast.specs.declared.block.Comm.{Comm}
use Rattle.go_ast.specs.declared.block.Comm.TheVariants as comm
use Rattle.go_grammar.specs.Words.{Word}
use Rattle.go_grammar.specs.Terminals as t
use Rattle.go_grammar.specs.Trees.{expr_node, expr_end}
use Rattle.go_grammar.specs.Lists.{IsRow, one_item, more_items}
use Rattle.go_grammar.specs.Exprs.{IsExpr}
use Rattle.go_grammar.specs.Simple.{IsTarget, plain_target, member_target, IsComm, send, take_, take_into, take_new}
use Rattle.go_reading.specs.declared.fault.Fault.{Fault}
use Rattle.go_reading.specs.declared.fault.Fault.TheVariants.{TooDeep}
use Rattle.go_reading.specs.Kinds.{same, is, binary_op, unary_op}
use Rattle.go_reading.specs.Input.{Reader, Outcome, Tall, kind_of, take_as, expect_as}
use Rattle.go_reading.specs.Exprs.{expr, exprs, deeper, unary, climb}
use Rattle.go_reading.specs.Simple.{target_of, plains_of, next_target, is_some}
use Rattle.go_reading.specs.Stmts.{take_channel, send_comm, comm_taken, comm_targets, received, comm_in, case_head, comm_head}
use Rattle.go_reading.proofs.ExprsGood.{tall, leveled, ExprOf, expr_good}
use Rattle.go_reading.proofs.Good.{At, is_is, is_self, some_is}
use Rattle.go_reading.proofs.Tables.{unary_of}
use Rattle.go_reading.proofs.RowsRead.{sees, kind_is, is_other}
use Rattle.go_reading.proofs.Ends.{Plain, ends_by, plain_colon, plain_comma, plain_assign, plain_define, plain_arrow}
use Rattle.go_reading.proofs.ExprsRead.{expr_read, exprs_read}
use Rattle.go_reading.proofs.SpecsRead.{exprs_tall}
use Rattle.go_reading.proofs.SimpleRead.{next_read, target_front, row_targets}
use Rattle.go_reading.proofs.StmtForms.{IsCaseHead, case_is, default_is, IsCommHead, comm_is, none_is}

-- ---- clauses of a switch

case_some : (n d : ℕ) (k c : Word) (es : List Expr) (h : ℕ) (ts rest : List Word) → k.kind ≡ t.case_word → 1 ≤ d → exprs n d ts ≡ (Ok (es, h), c ∷ rest) → c.kind ≡ t.colon → case_head n d (k ∷ ts) ≡ (Ok ((Some es, c.span.start), h), rest)
unfolding case_head take_as expect_as
case_some n d k c es h ts rest kk some i kc = rw (sees k ts t.case_word kk, le-ltb d 1 some, i, sees c rest t.colon kc) refl

case_none : (n d : ℕ) (k c : Word) (rest : List Word) → k.kind ≡ t.default_word → c.kind ≡ t.colon → case_head n d (k ∷ c ∷ rest) ≡ (Ok ((None, c.span.start), 0), rest)
unfolding case_head take_as expect_as
case_none n d k c rest kk kc = rw (is_other (kind_of (k ∷ c ∷ rest)) t.default_word t.case_word (kind_is k (c ∷ rest) t.default_word kk) refl, sees c rest t.colon kc) refl

pub case_head_read : (n d h : ℕ) (x : Option (List Expr) × ℕ) (w : List Word) → IsCaseHead h x w → h ≤ d → length w < n → (rest : List Word) → case_head n d (w ++ rest) ≡ (Ok (x, h), rest)
case_head_read n d _ _ _ (case_is k c h es w kk i kc) le long rest =
    let len = length-append w (c ∷ []) in
    let some = exprs_tall h es w i in
    rw append_assoc (case_some n d k c es h (w ++ c ∷ rest) rest kk (omega arith) (exprs_read n d h es w i le (omega arith) (c ∷ rest) (ends_by 1 (c ∷ rest) t.colon (kind_is c rest t.colon kc) plain_colon) (is_other (kind_of (c ∷ rest)) t.colon t.comma (kind_is c rest t.colon kc) refl)) kc)
case_head_read n d _ _ _ (default_is k c kk kc) le long rest = case_none n d k c rest kk kc

-- ---- what a clause of a select waits for

arrow_no : (o : Option TokenKind) (k : TokenKind) → o ≡ Some k → same k t.arrow ≡ false → is o t.arrow ≡ false
arrow_no o k e f = is_other o k t.arrow e f

channel_read : (n d : ℕ) (r : Word) (l' h : ℕ) (e : Expr) (w : List Word) → r.kind ≡ t.arrow → IsExpr l' h e w → 6 ≤ l' → h ≤ d → length w < n → (c : Word) (rest : List Word) → c.kind ≡ t.colon → take_channel n d (r ∷ (w ++ c ∷ rest)) ≡ (Ok (e, h), c ∷ rest)
unfolding take_channel expect_as
channel_read n d r l' h e w k i six le long c rest kc =
    rw (sees r (w ++ c ∷ rest) t.arrow k) (expr_read n d l' h e w i le long 6 six (omega arith) (c ∷ rest) (ends_by 6 (c ∷ rest) t.colon (kind_is c rest t.colon kc) plain_colon))

take_step : (n d : ℕ) (r : Word) (e : Expr) (h : ℕ) (ts : List Word) (c : Word) (rest : List Word) → r.kind ≡ t.arrow → expr n d 6 ts ≡ (Ok (e, h), c ∷ rest) → c.kind ≡ t.colon → comm_in n d (r ∷ ts) ≡ (Ok (comm.Take [] e, h), c ∷ rest)
unfolding comm_in received take_as
take_step n d r e h ts c rest k i kc = rw (sees r ts t.arrow k, i, sees c rest t.colon kc) refl

-- where no arrow comes first
send_step : (n d : ℕ) (a : Word) (x y : Expr) (h h' : ℕ) (ts r rest : List Word) → is (kind_of ts) t.arrow ≡ false → expr n d 1 ts ≡ (Ok (x, h), a ∷ r) → a.kind ≡ t.arrow → expr n d 1 r ≡ (Ok (y, h'), rest) → comm_in n d ts ≡ (Ok (comm.Send x y, max h h'), rest)
unfolding comm_in send_comm expect_as
send_step n d a x y h h' ts r rest no' i k j = rw (no', i, sees a r t.arrow k) (rw (sees a r t.arrow k, j) refl)

targets_step : (n d : ℕ) (x : Tall Expr) (g : Target) (ts rest : List Word) → is (kind_of ts) t.arrow ≡ false → expr n d 1 ts ≡ (Ok x, rest) → is (kind_of rest) t.arrow ≡ false → target_of x.0 ≡ Some g → comm_in n d ts ≡ comm_targets n d n (g ∷ []) rest
unfolding comm_in
targets_step n d x g ts rest no' i no'' tg = rw (no', i, no'', tg) refl

taken_assign : (n d k : ℕ) (gs : List Target) (a : Word) (e : Expr) (h : ℕ) (r rest : List Word) → a.kind ≡ t.assign → take_channel n d r ≡ (Ok (e, h), rest) → comm_targets n d (suc k) gs (a ∷ r) ≡ (Ok (comm.Take gs e, h), rest)
unfolding comm_targets comm_taken take_as
taken_assign n d k gs a e h r rest ka i = rw (is_other (kind_of (a ∷ r)) t.assign t.comma (kind_is a r t.assign ka) refl, sees a r t.assign ka, i) refl

taken_define : (n d k : ℕ) (gs : List Target) (ns : List Name) → plains_of gs ≡ Some ns → (a : Word) (e : Expr) (h : ℕ) (r rest : List Word) → a.kind ≡ t.define → take_channel n d r ≡ (Ok (e, h), rest) → comm_targets n d (suc k) gs (a ∷ r) ≡ (Ok (comm.TakeNew ns e, h), rest)
unfolding comm_targets comm_taken take_as
taken_define n d k gs ns p a e h r rest ka i = rw (is_other (kind_of (a ∷ r)) t.define t.comma (kind_is a r t.define ka) refl, is_other (kind_of (a ∷ r)) t.define t.assign (kind_is a r t.define ka) refl, sees a r t.define ka, p) (rw i refl)

targets_next : (n d k : ℕ) (found : List Target) (b : Word) (g : Target) (ts rest : List Word) → b.kind ≡ t.comma → next_target 1 ts ≡ (Ok g, rest) → comm_targets n d (suc k) found (b ∷ ts) ≡ comm_targets n d k (found ++ g ∷ []) rest
unfolding comm_targets take_as
targets_next n d k found b g ts rest kb i = rw (sees b ts t.comma kb, i) refl

-- further targets, each behind a comma
row_read : (n d : ℕ) (y : Comm × ℕ) (rest : List Word) (a : Word) (r : List Word) → is (kind_of (a ∷ r)) t.point ≡ false → (gs : List Target) → ((k : ℕ) → comm_targets n d (suc k) gs (a ∷ r) ≡ (Ok y, rest))
    → (h : ℕ) (hs : List Target) (v : List Word) → IsRow t.comma IsTarget h hs v → (b : Word) → b.kind ≡ t.comma → (found : List Target) → gs ≡ found ++ hs → (k : ℕ) → length v < k → comm_targets n d (suc k) found (b ∷ (v ++ a ∷ r)) ≡ (Ok y, rest)
row_read n d y rest a r np gs done _ _ _ (one_item h g w i) b kb found e zero lt = absurd (omega arith)
row_read n d y rest a r np gs done _ _ _ (one_item h g w i) b kb found e (suc k) lt =
    targets_next n d (suc k) found b g (w ++ a ∷ r) (a ∷ r) kb (next_read 1 h g w i (inl (omega arith)) (a ∷ r) np) ∙ subst (λ (z : List Target). comm_targets n d (suc k) z (a ∷ r) ≡ (Ok y, rest)) e (done k)
row_read n d y rest a r np gs done _ _ _ (more_items b' h h' g hs w v i kb' j) b kb found e zero lt = absurd (omega arith)
row_read n d y rest a r np gs done _ _ _ (more_items b' h h' g hs w v i kb' j) b kb found e (suc k) lt =
    let len = length-append w (b' ∷ v) in
    rw append_assoc (targets_next n d (suc k) found b g (w ++ b' ∷ (v ++ a ∷ r)) (b' ∷ (v ++ a ∷ r)) kb (next_read 1 h g w i (inl (omega arith)) (b' ∷ (v ++ a ∷ r)) (is_other (kind_of (b' ∷ (v ++ a ∷ r))) t.comma t.point (kind_is b' (v ++ a ∷ r) t.comma kb') refl))
    ∙ row_read n d y rest a r np gs done h' hs v j b' kb' (found ++ g ∷ []) (e ∙ sym (append_assoc found (g ∷ []) hs)) k (omega arith))

target_no_arrow : (h : ℕ) (g : Target) (u : List Word) → IsTarget h g u → (rest : List Word) → is (kind_of (u ++ rest)) t.arrow ≡ false
target_no_arrow _ _ _ (plain_target n k) rest = is_other (kind_of (n ∷ rest)) kind.Name t.arrow (kind_is n rest kind.Name k) refl
target_no_arrow _ _ _ (member_target p m n kp km kn) rest = is_other (kind_of (p ∷ m ∷ n ∷ rest)) kind.Name t.arrow (kind_is p (m ∷ n ∷ rest) kind.Name kp) refl

-- targets, a sign and what it does with them
all_targets : (n d : ℕ) → 1 ≤ d → (y : Comm × ℕ) (rest : List Word) (a : Word) (r : List Word) (ka : TokenKind) → a.kind ≡ ka → Plain ka → same ka t.arrow ≡ false → (h : ℕ) (gs : List Target) (u : List Word) → IsRow t.comma IsTarget h gs u → h ≡ 0 → length u < n
    → ((k : ℕ) → comm_targets n d (suc k) gs (a ∷ r) ≡ (Ok y, rest)) → comm_in n d (u ++ a ∷ r) ≡ (Ok y, rest)
all_targets zero d some y rest a r ka is' p na _ _ _ (one_item h g w i) z long done = absurd (omega arith)
all_targets (suc n) d some y rest a r ka is' p na _ _ _ (one_item h g w i) z long done =
    let q = target_front (suc n) d some g w (subst (λ (x : ℕ). IsTarget x g w) z i) long (a ∷ r) (ends_by 1 (a ∷ r) ka (kind_is a r ka is') p) in
    targets_step (suc n) d q.0 g (w ++ a ∷ r) (a ∷ r) (target_no_arrow h g w i (a ∷ r)) q.1 (is_other (kind_of (a ∷ r)) ka t.arrow (kind_is a r ka is') na) q.2 ∙ done n
all_targets zero d some y rest a r ka is' p na _ _ _ (more_items b h h' g gs w v i kb j) z long done = absurd (omega arith)
all_targets (suc n) d some y rest a r ka is' p na _ _ _ (more_items b h h' g gs w v i kb j) z long done =
    let len = length-append w (b ∷ v) in
    let q = target_front (suc n) d some g w (subst (λ (x : ℕ). IsTarget x g w) (let m : h ≤ max h h' = omega arith in omega arith) i) (omega arith) (b ∷ (v ++ a ∷ r)) (ends_by 1 (b ∷ (v ++ a ∷ r)) t.comma (kind_is b (v ++ a ∷ r) t.comma kb) plain_comma) in
    rw append_assoc (targets_step (suc n) d q.0 g (w ++ b ∷ (v ++ a ∷ r)) (b ∷ (v ++ a ∷ r)) (target_no_arrow h g w i (b ∷ (v ++ a ∷ r))) q.1 (is_other (kind_of (b ∷ (v ++ a ∷ r))) t.comma t.arrow (kind_is b (v ++ a ∷ r) t.comma kb) refl) q.2
    ∙ row_read (suc n) d y rest a r (is_other (kind_of (a ∷ r)) ka t.point (kind_is a r ka is') p.no_point) (g ∷ gs) done h' gs v j b kb (g ∷ []) refl n (omega arith))

-- ---- a send whose channel begins with an arrow

module _ (n d : ℕ) (e : ℕ → Reader (Tall Expr)) (a : Word) (ka : a.kind ≡ t.arrow) where
  arrow_sign : unary_op (Some a.kind) ≡ Some sign.Receive
  arrow_sign = ap (λ (z : TokenKind). unary_op (Some z)) ka ∙ unary_of sign.Receive

  deeper_low : (ts : List Word) → nat_lt d 1 ≡ true → deeper n d e 1 (a ∷ ts) ≡ (Err TooDeep, a ∷ ts)
  unfolding deeper unary
  deeper_low ts low = rw (arrow_sign, low) refl

  deeper_fails : (ts r : List Word) (f : Fault) → nat_lt d 1 ≡ false → e 6 ts ≡ (Err f, r) → deeper n d e 1 (a ∷ ts) ≡ (Err f, r)
  unfolding deeper unary take_as
  deeper_fails ts r f high i = rw (arrow_sign, high) (rw i refl)

  deeper_goes : (ts r : List Word) (x : Tall Expr) → nat_lt d 1 ≡ false → e 6 ts ≡ (Ok x, r) → deeper n d e 1 (a ∷ ts) ≡ climb n d e 1 n 6 (expr_node a.span.start (expr_end x.0) (form.Unary sign.Receive x.0)) (x.1 + 1) r
  unfolding deeper unary take_as
  deeper_goes ts r x high i = rw (arrow_sign, high) (rw i refl)

record Split (n d : ℕ) (a : Word) (ts : List Word) (x : Tall Expr) (rest : List Word) : Type 0 where
  pub inner : Tall Expr
  pub behind : List Word
  pub some : 1 ≤ d
  pub reads : expr n d 6 ts ≡ (Ok inner, behind)
  pub climbs : climb n d (expr n d) 1 n 6 (expr_node a.span.start (expr_end inner.0) (form.Unary sign.Receive inner.0)) (inner.1 + 1) behind ≡ (Ok x, rest)

abbrev gives : {A : Type 0} → A → List Word → Outcome A
gives x r = (Ok x, r)

abbrev fails : {A : Type 0} → Fault → List Word → Outcome A
fails f r = (Err f, r)

not_read : {A : Type 0} (f : Fault) (x : A) (r rest : List Word) → fails f r ≡ gives x rest → ⊥
not_read {A} f x r rest e = let g = ap (λ (o : Outcome A). o.0) e in cc

split : (n d : ℕ) (a : Word) (ts : List Word) (x : Tall Expr) (rest : List Word) → a.kind ≡ t.arrow → expr n (suc d) 1 (a ∷ ts) ≡ (Ok x, rest) → Split n d a ts x rest
unfolding expr
split n d a ts x rest ka i = go (nat_lt d 1) refl (expr n d 6 ts) refl
  where
    go : (b : Bool) → nat_lt d 1 ≡ b → (o : Outcome (Tall Expr)) → expr n d 6 ts ≡ o → Split n d a ts x rest
    go true low o j = absurd (not_read TooDeep x (a ∷ ts) rest (sym (deeper_low n d (expr n d) a ka ts low) ∙ i))
    go false high (Err f, r) j = absurd (not_read f x r rest (sym (deeper_fails n d (expr n d) a ka ts r f high j) ∙ i))
    go false high (Ok y, r) j = record { inner = y; behind = r; some = ltb-false d 1 high; reads = j; climbs = sym (deeper_goes n d (expr n d) a ka ts r y high j) ∙ i }

-- what is read within a limit is read within a greater one
more_levels : (n d : ℕ) → 1 ≤ d → (ts : List Word) (x : Tall Expr) (r : List Word) → expr n d 6 ts ≡ (Ok x, r) → (expr n (suc d) 6 ts ≡ (Ok x, r)) × (x.1 ≤ d)
more_levels n d some ts x r i =
    let g = expr_good (λ f. ⊥) (λ b. b) n n (omega arith) d (suc d) 0 0 (omega arith, omega arith) (λ b. absurd b) some 6 (omega arith) ts in
    let a = subst (λ (o : Outcome (Tall Expr)). At n (d, 0) (λ f. ⊥) (ExprOf 6) (expr n (suc d) 6) ts o.0 o.1) i g in
    (subst (λ (z : List Word). expr n (suc d) 6 z ≡ (Ok x, r)) (sym a.cut) (a.same tt r refl), a.means.fits)

climb_none : (n d : ℕ) (e : ℕ → Reader (Tall Expr)) (left : Expr) (h : ℕ) (r : List Word) → binary_op (kind_of r) ≡ None → climb (suc n) d e 1 (suc n) 6 left h r ≡ (Ok (left, h), r)
unfolding climb
climb_none n d e left h r i = rw i refl

rest_same : {A : Type 0} (x y : A) (r s : List Word) → gives x r ≡ gives y s → r ≡ s
rest_same {A} x y r s e = ap (λ (o : Outcome A). o.1) e

colon_none : binary_op (Some t.colon) ≡ None
unfolding binary_op
colon_none = refl

-- the token behind the operand
goes_further : (n d : ℕ) (e : ℕ → Reader (Tall Expr)) (left : Expr) (h : ℕ) (r : List Word) (x : Tall Expr) (s : Word) (rest : List Word) → s.kind ≡ t.arrow → climb (suc n) d e 1 (suc n) 6 left h r ≡ (Ok x, s ∷ rest)
    → (is (kind_of r) t.colon ≡ false) × ((is (kind_of r) t.arrow || is_some (binary_op (kind_of r))) ≡ true)
goes_further n d e left h r x s rest ks i = go (binary_op (kind_of r)) refl
  where
    go : (o : Option BinaryOp) → binary_op (kind_of r) ≡ o → (is (kind_of r) t.colon ≡ false) × ((is (kind_of r) t.arrow || is_some (binary_op (kind_of r))) ≡ true)
    go None j =
        let same-rest : r ≡ s ∷ rest = rest_same (left, h) x r (s ∷ rest) (sym (climb_none n d e left h r j) ∙ i) in
        let k : kind_of r ≡ Some t.arrow = ap kind_of same-rest ∙ kind_is s rest t.arrow ks in
        (is_other (kind_of r) t.arrow t.colon k refl, rw (is_self (kind_of r) t.arrow k) refl)
    go (Some o) j = (no_colon (is (kind_of r) t.colon) refl, rw j (or_true (is (kind_of r) t.arrow)))
      where
        no_colon : (b : Bool) → is (kind_of r) t.colon ≡ b → b ≡ false
        no_colon false f = refl
        no_colon true f = let k : kind_of r ≡ Some t.colon = is_is (kind_of r) t.colon f in let m : binary_op (Some t.colon) ≡ Some o = ap binary_op (sym k) ∙ j in let m' = colon_none in absurd cc

        or_true : (b : Bool) → (b || true) ≡ true
        or_true true = refl
        or_true false = refl

received_step : (n d : ℕ) (start : Span) (x : Tall Expr) (r : List Word) (y : Tall Expr) (s : Word) (r2 : List Word) (z : Expr) (h : ℕ) (rest : List Word) → is (kind_of r) t.colon ≡ false → (is (kind_of r) t.arrow || is_some (binary_op (kind_of r))) ≡ true → x.1 + 1 ≤ suc d
    → climb n d (expr n d) 1 n 6 (expr_node start.start (expr_end x.0) (form.Unary sign.Receive x.0)) (x.1 + 1) r ≡ (Ok y, s ∷ r2) → s.kind ≡ t.arrow → expr n (suc d) 1 r2 ≡ (Ok (z, h), rest)
    → received n (suc d) start x r ≡ (Ok (comm.Send y.0 z, max y.1 h), rest)
unfolding received send_comm expect_as
received_step n d start x r y s r2 z h rest no' test le i ks j =
    let one : suc d - 1 ≡ d = omega arith in
    rw (no', test, le-ltb (suc d) (x.1 + 1) le, one, i) (rw (sees s r2 t.arrow ks, j) refl)

receive_step : (n d : ℕ) (a : Word) (x : Tall Expr) (ts r : List Word) → a.kind ≡ t.arrow → expr n d 6 ts ≡ (Ok x, r) → comm_in n d (a ∷ ts) ≡ received n d a.span x r
unfolding comm_in take_as
receive_step n d a x ts r k i = rw (sees a ts t.arrow k, i) refl

arrow_send : (n d : ℕ) (a : Word) (ts : List Word) (x : Tall Expr) (s : Word) (r : List Word) (y : Expr) (h : ℕ) (rest : List Word) → a.kind ≡ t.arrow → expr (suc n) (suc d) 1 (a ∷ ts) ≡ (Ok x, s ∷ r) → s.kind ≡ t.arrow → expr (suc n) (suc d) 1 r ≡ (Ok (y, h), rest)
    → comm_in (suc n) (suc d) (a ∷ ts) ≡ (Ok (comm.Send x.0 y, max x.1 h), rest)
arrow_send n d a ts x s r y h rest ka i ks j =
    let p = split (suc n) d a ts x (s ∷ r) ka i in
    let m = more_levels (suc n) d p.some ts p.inner p.behind p.reads in
    let g = goes_further n d (expr (suc n) d) (expr_node a.span.start (expr_end p.inner.0) (form.Unary sign.Receive p.inner.0)) (p.inner.1 + 1) p.behind x s r ks p.climbs in
    receive_step (suc n) (suc d) a p.inner ts p.behind ka m.0 ∙ received_step (suc n) d a.span p.inner p.behind x s r y h rest g.0 g.1 (let f = m.1 in omega arith) p.climbs ks j

any_send : (n d : ℕ) (ts : List Word) (x : Tall Expr) (s : Word) (r : List Word) (y : Expr) (h : ℕ) (rest : List Word) → (b : Bool) → is (kind_of ts) t.arrow ≡ b → expr (suc n) (suc d) 1 ts ≡ (Ok x, s ∷ r) → s.kind ≡ t.arrow → expr (suc n) (suc d) 1 r ≡ (Ok (y, h), rest)
    → comm_in (suc n) (suc d) ts ≡ (Ok (comm.Send x.0 y, max x.1 h), rest)
any_send n d [] x s r y h rest true e i ks j = absurd cc
any_send n d (a ∷ ts) x s r y h rest true e i ks j = arrow_send n d a ts x s r y h rest (some_is a.kind t.arrow (is_is (Some a.kind) t.arrow e)) i ks j
any_send n d ts x s r y h rest false e i ks j = send_step (suc n) (suc d) s x.0 y x.1 h ts r rest e i ks j

-- ---- the whole of it

comm_in_read : (n d h : ℕ) (x : Comm) (w : List Word) → IsComm h x w → h ≤ suc d → length w < suc n → (c : Word) (rest : List Word) → c.kind ≡ t.colon → comm_in (suc n) (suc d) (w ++ c ∷ rest) ≡ (Ok (x, h), c ∷ rest)
comm_in_read n d _ _ _ (send s la lb h h' x y u v i k j) le long c rest kc =
    let len = length-append u (s ∷ v) in
    rw append_assoc (any_send n d (u ++ s ∷ (v ++ c ∷ rest)) (x, h) s (v ++ c ∷ rest) y h' (c ∷ rest) (is (kind_of (u ++ s ∷ (v ++ c ∷ rest))) t.arrow) refl
    (expr_read (suc n) (suc d) la h x u i (omega arith) (omega arith) 1 (leveled la h x u i) (omega arith) (s ∷ (v ++ c ∷ rest)) (ends_by 1 (s ∷ (v ++ c ∷ rest)) t.arrow (kind_is s (v ++ c ∷ rest) t.arrow k) plain_arrow)) k
    (expr_read (suc n) (suc d) lb h' y v j (omega arith) (omega arith) 1 (leveled lb h' y v j) (omega arith) (c ∷ rest) (ends_by 1 (c ∷ rest) t.colon (kind_is c rest t.colon kc) plain_colon)))
comm_in_read n d _ _ _ (take_ r l' h e w k i six) le long c rest kc =
    take_step (suc n) (suc d) r e h (w ++ c ∷ rest) c rest k (expr_read (suc n) (suc d) l' h e w i le (omega arith) 6 six (omega arith) (c ∷ rest) (ends_by 6 (c ∷ rest) t.colon (kind_is c rest t.colon kc) plain_colon)) kc
comm_in_read n d _ _ _ (take_into s r l' h gs e u w i ks k j six) le long c rest kc =
    let len = length-append u (s ∷ r ∷ w) in
    rw append_assoc (all_targets (suc n) (suc d) (omega arith) (comm.Take gs e, h) (c ∷ rest) s (r ∷ (w ++ c ∷ rest)) t.assign ks plain_assign refl 0 gs u i refl (omega arith)
    (λ q. taken_assign (suc n) (suc d) q gs s e h (r ∷ (w ++ c ∷ rest)) (c ∷ rest) ks (channel_read (suc n) (suc d) r l' h e w k j six le (omega arith) c rest kc)))
comm_in_read n d _ _ _ (take_new s r l' h ns e u w i ks k j six) le long c rest kc =
    let len = length-append u (s ∷ r ∷ w) in
    let p = row_targets 0 ns u i in
    rw append_assoc (all_targets (suc n) (suc d) (omega arith) (comm.TakeNew ns e, h) (c ∷ rest) s (r ∷ (w ++ c ∷ rest)) t.define ks plain_define refl 0 p.0 u p.1 refl (omega arith)
    (λ q. taken_define (suc n) (suc d) q p.0 ns p.2 s e h (r ∷ (w ++ c ∷ rest)) (c ∷ rest) ks (channel_read (suc n) (suc d) r l' h e w k j six le (omega arith) c rest kc)))

comm_tall : (h : ℕ) (x : Comm) (w : List Word) → IsComm h x w → 1 ≤ h
comm_tall _ _ _ (send s la lb h h' x y u v i k j) = let a = tall la h x u i in omega arith
comm_tall _ _ _ (take_ r l' h e w k i six) = tall l' h e w i
comm_tall _ _ _ (take_into s r l' h gs e u w i ks k j six) = tall l' h e w j
comm_tall _ _ _ (take_new s r l' h ns e u w i ks k j six) = tall l' h e w j

comm_some : (n d : ℕ) (k c : Word) (x : Comm) (h : ℕ) (ts rest : List Word) → k.kind ≡ t.case_word → 1 ≤ d → comm_in n d ts ≡ (Ok (x, h), c ∷ rest) → c.kind ≡ t.colon → comm_head n d (k ∷ ts) ≡ (Ok ((x, c.span.start), h), rest)
unfolding comm_head take_as expect_as
comm_some n d k c x h ts rest kk some i kc = rw (sees k ts t.case_word kk, le-ltb d 1 some, i, sees c rest t.colon kc) refl

comm_none : (n d : ℕ) (k c : Word) (rest : List Word) → k.kind ≡ t.default_word → c.kind ≡ t.colon → comm_head n d (k ∷ c ∷ rest) ≡ (Ok ((comm.Default, c.span.start), 0), rest)
unfolding comm_head take_as expect_as
comm_none n d k c rest kk kc = rw (is_other (kind_of (k ∷ c ∷ rest)) t.default_word t.case_word (kind_is k (c ∷ rest) t.default_word kk) refl, sees c rest t.colon kc) refl

pub comm_head_read : (n d h : ℕ) (x : Comm × ℕ) (w : List Word) → IsCommHead h x w → h ≤ d → length w < n → (rest : List Word) → comm_head n d (w ++ rest) ≡ (Ok (x, h), rest)
comm_head_read zero d _ _ _ (comm_is k c h m w kk i kc) le long rest = absurd (omega arith)
comm_head_read (suc n) zero _ _ _ (comm_is k c h m w kk i kc) le long rest = let some = comm_tall h m w i in absurd (omega arith)
comm_head_read (suc n) (suc d) _ _ _ (comm_is k c h m w kk i kc) le long rest =
    let len = length-append w (c ∷ []) in
    rw append_assoc (comm_some (suc n) (suc d) k c m h (w ++ c ∷ rest) rest kk (omega arith) (comm_in_read n d h m w i le (omega arith) c rest kc) kc)
comm_head_read n d _ _ _ (none_is k c kk kc) le long rest = comm_none n d k c rest kk kc
