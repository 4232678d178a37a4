-- The readers of the clauses of `switch` are good, if those of their parts are.
use Rattle.std.proofs.Common.{◌≡◌, ℕ, zero, suc, ◌+◌, ◌≤◌, max, Bool, true, false, cond, List, [], ◌∷◌, ◌++◌, Option, Some, None, length, Err, refl, sym, ◌∙◌, append_assoc, arith, if◌then◌else◌}
use Rattle.std.proofs.lemmas.List.{append-nil}
use Rattle.go_ast.specs.declared.token.TokenKind.TheVariants as kind
use Rattle.go_ast.specs.declared.expr.Expr.{Expr}
use Rattle.go_ast.specs.declared.block.Stmt.{Stmt}
use Rattle.go_ast.specs.declared.block.CaseClause.{CaseClause}
use Rattle.go_grammar.specs.Words.{Word}
use Rattle.go_grammar.specs.Terminals as t
use Rattle.go_grammar.specs.Trees.{case_node}
use Rattle.go_grammar.specs.Exprs.{one_expr}
use Rattle.go_grammar.specs.Blocks.{IsCases, no_cases, more_cases, IsCase, case_, default_, IsList, no_stmts}
use Rattle.go_reading.specs.declared.fault.Fault.{Fault}
use Rattle.go_reading.specs.declared.fault.Fault.TheVariants.{TooDeep, Exhausted}
use Rattle.go_reading.specs.Kinds.{begins_stmt}
use Rattle.go_reading.specs.Input.{Reader, Tall, ◌>>=◌, pure, peek, kind_of}
use Rattle.go_reading.specs.Stmts.{least, begins_clause, case_head, list, cases_from}
use Rattle.go_reading.proofs.Good.{Room, ◌⊑◌, Form, Good, Filled, Rises, seq_less, weaker, fewer, by_test, a_word}
use Rattle.go_reading.proofs.Rows.{Within, within_rises}
use Rattle.go_reading.proofs.ExprsGood.{an_expr, is_an_expr}
use Rattle.go_reading.proofs.Clauses.{cases_rise}
use Rattle.go_reading.proofs.Loose.{Loose}
use Rattle.go_reading.proofs.StmtForms.{IsCaseHead, case_is, default_is}
use Rattle.go_reading.proofs.Full.{never_full}
use Rattle.go_reading.proofs.Started.{StartsStmt}
use Rattle.go_reading.proofs.Alike.{bind_assoc, good_eq, good_out_of_turns, go_on_eq}
use Rattle.go_reading.proofs.StmtsGood.{BodyOf, list_then_good}
use Rattle.go_reading.proofs.ListEnds.{EndsClause, at_brace, at_case, at_default, ends_clause}
use Rattle.go_grammar.specs.declared.form.Form.{Form as TextForm}

module _ (form : TextForm) where
  -- ---- what stands before the brace that closes a `switch`

  module _ {B : Type 0} (Fin : Tall (List CaseClause) → Form B) where
    -- the clauses so far, and those in w, and what closes them
    pub record CasesFrom (found : List CaseClause) (h : ℕ) (b : Room) (z : B) (w : List Word) : Type 0 where
      pub items : List CaseClause
      pub tall : ℕ
      pub front : List Word
      pub back : List Word
      pub all : IsCases form b.1 tall items front
      pub both : w ≡ front ++ back
      pub closes : Fin (found ++ items, max h tall) b z back
      pub fits : tall ≤ b.0

    abbrev Clause : List CaseClause → ℕ → Tall (Option (List Expr) × ℕ) → Tall (List Stmt) → Form B
    Clause found h x y = CasesFrom (found ++ case_node x.0.0 x.0.1 y.0 ∷ []) (max h (max x.1 y.1))

    cases_from_rise : ((y : Tall (List CaseClause)) → Rises (Fin y)) → (found : List CaseClause) (h : ℕ) → Rises (CasesFrom found h)
    cases_from_rise rises found h b c le z w s =
        record { items = s.items; tall = s.tall; front = s.front; back = s.back; all = cases_rise form b.1 c.1 le.1 s.tall s.items s.front s.all; both = s.both; closes = rises (found ++ s.items, max h s.tall) b c le z s.back s.closes; fits = let f' = s.fits in let l = le.0 in omega arith }

    none_from : (found : List CaseClause) (h : ℕ) (b : Room) (z : B) (w : List Word) → Fin (found, h) b z w → CasesFrom found h b z w
    none_from found h b z w i =
        let m : max h 0 ≡ h = omega arith in
        record { items = []; tall = 0; front = []; back = w; all = no_cases; both = refl; closes = rw (append-nil, m) i; fits = omega arith }

    -- a head, a list and what follows
    clause_is : (b : Room) (x : Tall (Option (List Expr) × ℕ)) (y : Tall (List Stmt)) (u v : List Word) → IsCaseHead x.1 x.0 u → IsList form b.1 y.1 y.0 v → IsCase form b.1 (max x.1 y.1) (case_node x.0.0 x.0.1 y.0) (u ++ v)
    clause_is b x y u v i j = go x.1 x.0 u i
      where
        go : (h : ℕ) (p : Option (List Expr) × ℕ) (u : List Word) → IsCaseHead h p u → IsCase form b.1 (max h y.1) (case_node p.0 p.1 y.0) (u ++ v)
        go _ _ _ (case_is k c h es w kk is' kc) = rw append_assoc (case_ k c h y.1 es y.0 w v kk is' kc j)
        go _ _ _ (default_is k c kk kc) = let m : max 0 y.1 ≡ y.1 = omega arith in rw m (default_ k c y.1 y.0 v kk kc j)

    more_from : (found : List CaseClause) (h : ℕ) (b : Room) (x : Tall (Option (List Expr) × ℕ)) (z : B) (u w : List Word) → Within IsCaseHead b x u → BodyOf form true (Clause found h x) b z w → CasesFrom found h b z (u ++ w)
    more_from found h b x z u w iu body =
        let r = body.closes in
        let y = body.y in
        let m : max (max h (max x.1 y.1)) r.tall ≡ max h (max (max x.1 y.1) r.tall) = omega arith in
        let a : (found ++ case_node x.0.0 x.0.1 y.0 ∷ []) ++ r.items ≡ found ++ (case_node x.0.0 x.0.1 y.0 ∷ r.items) = append_assoc found (case_node x.0.0 x.0.1 y.0 ∷ []) r.items in
        record {
          items = case_node x.0.0 x.0.1 y.0 ∷ r.items;
          tall = max (max x.1 y.1) r.tall;
          front = (u ++ body.front) ++ r.front;
          back = r.back;
          all = more_cases (max x.1 y.1) r.tall (case_node x.0.0 x.0.1 y.0) r.items (u ++ body.front) r.front (clause_is b x y u body.front iu.0 body.from.0) r.all;
          both = rw (body.both, r.both) (simp append_assoc);
          closes = rw (sym a, sym m) r.closes;
          fits = let f1 = iu.1 in let f2 = body.from.1 in let f3 = r.fits in omega arith;
        }

  -- ---- the loop over clauses

  cases_eq : {B : Type 0} (n c : ℕ) (u : Reader (Tall Stmt)) (k : ℕ) (found : List CaseClause) (h : ℕ) (fin : Tall (List CaseClause) → Reader B) (ts : List Word)
      → (cases_from form n c u (suc k) found h >>= fin) ts
      ≡ (peek >>= λ kind. if begins_clause kind then (case_head n c >>= λ x. list form n c u true false >>= λ xs. (cases_from form n c u k (found ++ case_node x.0.0 x.0.1 xs.0 ∷ []) (max h (max x.1 xs.1)) >>= fin)) else fin (found, h)) ts
  unfolding cases_from
  cases_eq n c u k found h fin ts = at_kind (begins_clause (kind_of ts))
    where
      more : Tall (Option (List Expr) × ℕ) → Tall (List Stmt) → Reader (Tall (List CaseClause))
      more x xs = cases_from form n c u k (found ++ case_node x.0.0 x.0.1 xs.0 ∷ []) (max h (max x.1 xs.1))

      at_kind : (b : Bool) → ((cond b (case_head n c >>= λ x. list form n c u true false >>= λ xs. more x xs) (pure (found, h))) >>= fin) ts ≡ (cond b (case_head n c >>= λ x. list form n c u true false >>= λ xs. (more x xs >>= fin)) (fin (found, h))) ts
      at_kind true =
          bind_assoc (case_head n c ts).0 (case_head n c ts).1 (λ x. list form n c u true false >>= λ xs. more x xs) fin
          ∙ go_on_eq (case_head n c ts).0 (case_head n c ts).1 (λ x. (list form n c u true false >>= λ xs. more x xs) >>= fin) (λ x. list form n c u true false >>= λ xs. (more x xs >>= fin))
          (λ x r. bind_assoc (list form n c u true false r).0 (list form n c u true false r).1 (more x) fin)
      at_kind false = refl

  head_some : (b : Room) (x : Tall (Option (List Expr) × ℕ)) (w : List Word) → Within IsCaseHead b x w → 1 ≤ length w
  head_some b x w i = go x.1 x.0 w i.0
    where
      go : (h : ℕ) (p : Option (List Expr) × ℕ) (w : List Word) → IsCaseHead h p w → 1 ≤ length w
      go _ _ _ (case_is k c h es w kk is' kc) = omega arith
      go _ _ _ (default_is k c kk kc) = omega arith

  cases_zero : {B : Type 0} (n c : ℕ) (u : Reader (Tall Stmt)) (found : List CaseClause) (h : ℕ) (fin : Tall (List CaseClause) → Reader B) (ts : List Word) → (cases_from form n c u zero found h >>= fin) ts ≡ (Err Exhausted, ts)
  unfolding cases_from
  cases_zero n c u found h fin ts = refl

  module _ {B : Type 0} (Fin : Tall (List CaseClause) → Form B) (K : Fault → Type 0) (never : K Exhausted → ⊥) (n n' : ℕ) (len : n ≤ n') (d d' : Room) (led : d ⊑ d') (deep : K TooDeep → d.0 ≡ d'.0) (st st' : Reader (Tall Stmt)) (stmt_good : least form ≤ d.0 → (ts : List Word) → Good n d K (Loose form) st st' ts)
      (started_all : (a : Word) → begins_stmt (Some a.kind) ≡ true → StartsStmt form a)
      (head_good : (ts : List Word) → begins_clause (kind_of ts) ≡ true → Good n d K (Within IsCaseHead) (case_head n d.0) (case_head n' d'.0) ts)
      (fin fin' : Tall (List CaseClause) → Reader B) (rises : (y : Tall (List CaseClause)) → Rises (Fin y))
      (fin_good : (y : Tall (List CaseClause)) (r : List Word) → Good n d K (Fin y) (fin y) (fin' y) r)
      (fin_far : (y : Tall (List CaseClause)) (a : Word) → a.kind ≡ t.right_brace → (b : Room) → (z : B) × (w : List Word) × Fin y b z (a ∷ w))
      (fin_some : (y : Tall (List CaseClause)) (c : Room) → Filled c (Fin y)) where
    cases_filled : (found : List CaseClause) (h : ℕ) (c : Room) → Filled c (CasesFrom Fin found h)
    cases_filled found h c = let e = fin_some (found, h) c in (e.0, e.1, none_from Fin found h c e.0 e.1 e.2)

    one_more_from : (found : List CaseClause) (h : ℕ) (b : Room) (x : Tall (Option (List Expr) × ℕ)) (u : List Word) → Within IsCaseHead b x u → (e : Filled b (Fin (found ++ case_node x.0.0 x.0.1 [] ∷ [], max h (max x.1 0)))) → CasesFrom Fin found h b e.0 (u ++ e.1)
    one_more_from found h b x u i e =
        more_from Fin found h b x e.0 u e.1 i (record { y = ([], 0); front = []; back = e.1; from = (no_stmts, omega arith); both = refl; closes = none_from Fin (found ++ case_node x.0.0 x.0.1 [] ∷ []) (max h (max x.1 0)) b e.0 e.1 e.2 })

    clause_far : (found : List CaseClause) (h : ℕ) (a : Word) → EndsClause a.kind → (k : ℕ) × (z : B) × (w : List Word) × (d.0 ≤ k) × CasesFrom Fin found h (k, d.1) z (a ∷ w)
    clause_far found h a (at_brace e) = let g = fin_far (found, h) a e d in (d.0, g.0, g.1, omega arith, none_from Fin found h d g.0 (a ∷ g.1) g.2)
    clause_far found h a (at_case e) =
        let c = a_word t.colon in
        let x : Tall (Option (List Expr) × ℕ) = ((Some (an_expr ∷ []), c.span.start), 1) in
        let k = d.0 + 1 in
        let g = fin_some (found ++ case_node x.0.0 x.0.1 [] ∷ [], max h (max x.1 0)) (k, d.1) in
        (k, g.0, a_word kind.Name ∷ c ∷ g.1, omega arith, one_more_from found h (k, d.1) x (a ∷ (a_word kind.Name ∷ c ∷ [])) (case_is a c 1 (an_expr ∷ []) (a_word kind.Name ∷ []) e (one_expr 7 1 an_expr (a_word kind.Name ∷ []) is_an_expr) refl, omega arith) g)
    clause_far found h a (at_default e) =
        let c = a_word t.colon in
        let x : Tall (Option (List Expr) × ℕ) = ((None, c.span.start), 0) in
        let g = fin_some (found ++ case_node x.0.0 x.0.1 [] ∷ [], max h (max x.1 0)) d in
        (d.0, g.0, c ∷ g.1, omega arith, one_more_from found h d x (a ∷ c ∷ []) (default_is a c e refl, omega arith) g)

    pub cases_then_good : (k k' : ℕ) → k ≤ n → k ≤ k' → (found : List CaseClause) (h : ℕ) (ts : List Word) → Good k d K (CasesFrom Fin found h) (cases_from form n d.0 st k found h >>= fin) (cases_from form n' d'.0 st' k' found h >>= fin') ts
    cases_then_good zero k' kn kk found h ts = good_out_of_turns d K (CasesFrom Fin found h) (cases_from form n d.0 st zero found h >>= fin) (cases_from form n' d'.0 st' k' found h >>= fin') ts never (λ c dc. cases_filled found h c) (cases_zero n d.0 st found h fin ts)
    cases_then_good (suc k) zero kn kk found h ts = absurd (omega arith)
    cases_then_good (suc k) (suc k') kn kk found h ts =
        good_eq (suc k) d K (CasesFrom Fin found h)
        (peek >>= λ kind. if begins_clause kind then (case_head n d.0 >>= λ x. list form n d.0 st true false >>= λ xs. (cases_from form n d.0 st k (found ++ case_node x.0.0 x.0.1 xs.0 ∷ []) (max h (max x.1 xs.1)) >>= fin)) else fin (found, h)) (cases_from form n d.0 st (suc k) found h >>= fin)
        (peek >>= λ kind. if begins_clause kind then (case_head n' d'.0 >>= λ x. list form n' d'.0 st' true false >>= λ xs. (cases_from form n' d'.0 st' k' (found ++ case_node x.0.0 x.0.1 xs.0 ∷ []) (max h (max x.1 xs.1)) >>= fin')) else fin' (found, h)) (cases_from form n' d'.0 st' (suc k') found h >>= fin') ts
        (cases_eq n d.0 st k found h fin ts) (λ r. cases_eq n' d'.0 st' k' found h fin' r)
        (by_test (suc k) d K _ begins_clause _ _ _ _ ts
        (λ here. seq_less (suc k) k d K (Within IsCaseHead) _ (case_head n' d'.0) _ _ ts _ _ (omega arith) head_some (within_rises IsCaseHead) (fewer n (suc k) d K _ _ _ _ _ kn (head_good ts here)) (λ x _ r.
        weaker k d K (BodyOf form true (Clause Fin found h x)) _ _ _ _ _ (λ b db z w a u iu. more_from Fin found h b x z u w iu a)
        (list_then_good form true (Clause Fin found h x) K never n n' len d d' led deep st st' stmt_good started_all false false (never_full K) k (omega arith)
        (λ xs. cases_from form n d.0 st k (found ++ case_node x.0.0 x.0.1 xs.0 ∷ []) (max h (max x.1 xs.1)) >>= fin)
        (λ xs. cases_from form n' d'.0 st' k' (found ++ case_node x.0.0 x.0.1 xs.0 ∷ []) (max h (max x.1 xs.1)) >>= fin')
        (λ y. cases_from_rise Fin rises (found ++ case_node x.0.0 x.0.1 y.0 ∷ []) (max h (max x.1 y.1)))
        (λ y r2 e. cases_then_good k k' (omega arith) (omega arith) (found ++ case_node x.0.0 x.0.1 y.0 ∷ []) (max h (max x.1 y.1)) r2)
        (λ y a e few. clause_far (found ++ case_node x.0.0 x.0.1 y.0 ∷ []) (max h (max x.1 y.1)) a (ends_clause a.kind e))
        (λ y a all begins. absurd cc)
        (λ y c dc. cases_filled (found ++ case_node x.0.0 x.0.1 y.0 ∷ []) (max h (max x.1 y.1)) c) r)))
        (λ other. weaker (suc k) d K (Fin (found, h)) _ _ _ _ _ (λ b db z w i. none_from Fin found h b z w i) (fewer n (suc k) d K _ _ _ _ _ kn (fin_good (found, h) ts))))
