-- The readers of what stands between a keyword and its `{` are good.
use Rattle.std.proofs.Common.{◌≡◌, ℕ, zero, suc, ◌+◌, ◌-◌, ◌≤◌, max, Bool, true, false, List, [], ◌∷◌, ◌++◌, Option, Some, None, refl, ap, ◌∙◌, append_assoc, arith}
use Rattle.std.proofs.lemmas.List.{append-nil}
use Rattle.go_ast.specs.declared.token.TokenKind.{TokenKind}
use Rattle.go_ast.specs.declared.token.TokenKind.TheVariants as kind
use Rattle.go_ast.specs.declared.expr.Expr.{Expr}
use Rattle.go_ast.specs.declared.block.Stmt.{Stmt}
use Rattle.go_grammar.specs.Words.{Word}
use Rattle.go_grammar.specs.Terminals as t
use Rattle.go_grammar.specs.Exprs.{IsMaybe, no_expr, some_expr}
use Rattle.go_grammar.specs.Simple.{IsSimple, evaluated}
use Rattle.go_grammar.specs.Blocks.{no_first, some_first}
use Rattle.go_reading.specs.declared.fault.Fault.{Fault}
use Rattle.go_reading.specs.declared.fault.Fault.TheVariants.{TooDeep, Exhausted}
use Rattle.go_reading.specs.declared.lead.Lead.{Lead}
use Rattle.go_reading.specs.declared.lead.Lead.TheVariants as l
use Rattle.go_reading.specs.declared.header.Header.{Header}
use Rattle.go_reading.specs.Kinds.{begins}
use Rattle.go_reading.specs.Input.{Tall, ◌>>=◌, pure, kind_of, span_of}
use Rattle.go_reading.specs.Exprs.{expr}
use Rattle.go_reading.specs.Simple.{eval_stmt, lead}
use Rattle.go_reading.specs.Stmts.{maybe_before, header_of, after_first, header_by, header, maybe_header}
use Rattle.go_reading.proofs.Good.{Room, ◌⊑◌, Form, Good, Rises, Rest, seq, weaker, good_pure, good_refuse, good_far, good_limited, choice, by_test, expect_then, a_word, some_is}
use Rattle.go_reading.proofs.Rows.{Within, within_rises, some_not_none}
use Rattle.go_reading.proofs.ExprsGood.{ExprOf, expr_good, AnyExpr, any_expr, an_expr, is_an_expr, tall}
use Rattle.go_reading.proofs.Begun.{begun_expr, begins_some}
use Rattle.go_reading.proofs.LeadGood.{LeadIs, lead_rises, led_good}
use Rattle.go_reading.proofs.BareGood.{good_regroup}
use Rattle.go_reading.proofs.StmtForms.{HeaderOf}

-- a test, which has to be there, or may be
abbrev pub TestOf : Bool → Form (Tall (Option Expr))
TestOf tests b x w = IsMaybe x.1 x.0 w × (x.1 ≤ b.0) × (tests ≡ true → (e : Expr) × (x.0 ≡ Some e))

pub test_rises : (tests : Bool) → Rises (TestOf tests)
test_rises tests b c le x w s = (s.0, (let f = s.1 in let l = le.0 in omega arith), s.2)

no_more_test : (b : Room) (e : Expr) (h : ℕ) (u : List Word) → AnyExpr h e u → h ≤ b.0 → (tests : Bool) → HeaderOf tests b (header_of 0 0 None (Some e, h) 0) u
no_more_test b e h u i le tests =
    let m : max 0 h ≡ h = omega arith in
    record { low = 0; high = h; front = []; back = u; both = refl; begins = no_first; test = some_expr i.0 h e u i.1; tall = refl; fits = rw m le; some = λ s. (e, refl) }

with_first : (tests : Bool) (b : Room) (first : Stmt) (h : ℕ) (x : Tall (Option Expr)) (u v : List Word) (a : Word) → IsSimple h first u → h ≤ b.0 → a.kind ≡ t.semicolon → TestOf tests b x v → HeaderOf tests b (header_of 0 0 (Some first) x h) (u ++ a ∷ v)
with_first tests b first h x u v a i le ka iv = record { low = h; high = x.1; front = u ++ a ∷ []; back = v; both = rw append_assoc refl; begins = some_first a h first u i ka; test = iv.0; tall = refl; fits = let f = iv.1 in omega arith; some = iv.2 }

-- behind a first statement
abbrev BehindFirst : Bool → Stmt → ℕ → Form (Tall Header)
BehindFirst tests first h b y w = (u : List Word) → IsSimple h first u → h ≤ b.0 → HeaderOf tests b y (u ++ w)

a_test : (tests : Bool) (b : Room) → 1 ≤ b.0 → TestOf tests b (Some an_expr, 1) (a_word kind.Name ∷ [])
a_test tests b some = (some_expr 7 1 an_expr (a_word kind.Name ∷ []) is_an_expr, some, λ s. (an_expr, refl))

module _ (K : Fault → Type 0) (never : K Exhausted → ⊥) (n n' : ℕ) (len : n ≤ n') (c c' m m' : ℕ) (led : (suc c, m) ⊑ (suc c', m')) (deep : K TooDeep → suc c ≡ suc c') where
  pub expr_here : (ts : List Word) → Good n (suc c, m) K (Within AnyExpr) (expr n (suc c) 1) (expr n' (suc c') 1) ts
  expr_here ts = weaker n (suc c, m) K (ExprOf 1) (Within AnyExpr) _ _ _ _ (λ b db x w i. any_expr b x w i) (expr_good K never n n' len (suc c) (suc c') m m' led deep (omega arith) 1 (omega arith) ts)

  pub maybe_before_good : (close : TokenKind) (ts : List Word) → Good n (suc c, m) K (TestOf false) (maybe_before n (suc c) close) (maybe_before n' (suc c') close) ts
  unfolding maybe_before
  maybe_before_good close ts = choice n (suc c, m) K _ close _ _ _ _ ts
      (λ over. good_pure n (suc c, m) K _ _ ts (λ b db. (no_expr, omega arith, λ s. absurd cc)))
      (λ _. seq n (suc c, m) K (Within AnyExpr) _ (expr n' (suc c') 1) _ _ ts _ _ (within_rises AnyExpr) (expr_here ts) (λ x _ r. good_pure n (suc c, m) K _ _ r (λ b db u iu. rw append-nil (some_expr iu.0.0 x.1 x.0 u iu.0.1, iu.1, λ s. (x.0, refl)))))

  after_first_good : (tests : Bool) (first : Stmt) (h : ℕ) (ts : List Word) → Good n (suc c, m) K (BehindFirst tests first h) (after_first n (suc c) tests first h) (after_first n' (suc c') tests first h) ts
  unfolding after_first
  after_first_good true first h ts = expect_then n (suc c, m) K _ t.semicolon span_of _ _ ts (λ sp r.
      seq n (suc c, m) K (TestOf true) _ (expr n' (suc c') 1 >>= λ x. pure (Some x.0, x.1)) _ _ r _ _ (test_rises true)
      (seq n (suc c, m) K (Within AnyExpr) (TestOf true) (expr n' (suc c') 1) _ _ r _ _ (within_rises AnyExpr) (expr_here r) (λ x _ r2. good_pure n (suc c, m) K _ _ r2 (λ b db u iu. rw append-nil (some_expr iu.0.0 x.1 x.0 u iu.0.1, iu.1, λ s. (x.0, refl)))))
      (λ x _ r2. good_pure n (suc c, m) K _ _ r2 (λ b db v iv a ia u iu le. rw (append-nil, ia.1) (with_first true b first h x u v ia.0 iu le ia.2 iv))))
  after_first_good false first h ts = expect_then n (suc c, m) K _ t.semicolon span_of _ _ ts (λ sp r.
      seq n (suc c, m) K (TestOf false) _ (maybe_before n' (suc c') t.left_brace) _ _ r _ _ (test_rises false) (maybe_before_good t.left_brace r)
      (λ x _ r2. good_pure n (suc c, m) K _ _ r2 (λ b db v iv a ia u iu le. rw (append-nil, ia.1) (with_first false b first h x u v ia.0 iu le ia.2 iv))))

  header_by_good : (tests : Bool) (y : Tall Lead) (r : List Word) → Good n (suc c, m) K (Rest (LeadIs (Within AnyExpr) false) (HeaderOf tests) y) (header_by n (suc c) tests y) (header_by n' (suc c') tests y) r
  header_by_good tests (l.Expr e, h) r = choice n (suc c, m) K _ t.semicolon _ _ _ _ r
      (λ here. good_limited n K _ (suc c, m) (suc c', m') (h + 1) _ _ r led deep (some_not_none (kind_of r) t.semicolon here)
      (λ b db. ((record { first = None; test = Some e }, max 0 h), [], λ u iu. rw append-nil (no_more_test b e h u iu.0 iu.1 tests)))
      (λ b db le a ea. ((record { first = Some (eval_stmt e); test = Some an_expr }, max (h + 1) 1), a_word kind.Name ∷ [], λ u iu. with_first tests b (eval_stmt e) (h + 1) (Some an_expr, 1) u (a_word kind.Name ∷ []) a (evaluated iu.0.0 h e u iu.0.1) le (some_is a.kind t.semicolon (ea ∙ here)) (a_test tests b (omega arith))))
      (λ small. weaker n (suc c, m) K (BehindFirst tests (eval_stmt e) (h + 1)) _ _ _ _ _ (λ b db x w f u iu. f u (evaluated iu.0.0 h e u iu.0.1) (let l = db.0 in omega arith)) (after_first_good tests (eval_stmt e) (h + 1) r)))
      (λ _. good_pure n (suc c, m) K _ _ r (λ b db u iu. rw append-nil (no_more_test b e h u iu.0 iu.1 tests)))
  header_by_good tests (l.Stmt x, h) r = weaker n (suc c, m) K (BehindFirst tests x h) _ _ _ _ _ (λ b db y w f u iu. f u iu.0 iu.1) (after_first_good tests x h r)
  header_by_good tests (l.Range ns, h) r = good_refuse n (suc c, m) K _ r (λ b db. ((record { first = None; test = None }, 0), [], λ u iu. let f = iu.0 in absurd cc))

  any_tall : (b : Room) (x : Tall Expr) (w : List Word) → Within AnyExpr b x w → 1 ≤ x.1
  any_tall b x w i = tall i.0.0 x.1 x.0 w i.0.1

  header_in : (tests : Bool) (ts : List Word) → Good n (suc c, m) K (HeaderOf tests) (header n (suc c) tests) (header n' (suc c') tests) ts
  unfolding header
  header_in tests ts =
      let one : suc c - 1 ≡ c = omega arith in
      let one' : suc c' - 1 ≡ c' = omega arith in
      rw (one, one') (good_regroup n (suc c, m) K (HeaderOf tests) (expr n (suc c) 1) (expr n' (suc c') 1) (lead n c false) (lead n' c' false) (header_by n (suc c) tests) (header_by n' (suc c') tests) ts
      (seq n (suc c, m) K (LeadIs (Within AnyExpr) false) (HeaderOf tests) _ _ _ ts _ _ (lead_rises (Within AnyExpr) false (within_rises AnyExpr))
      (led_good (Within AnyExpr) false (within_rises AnyExpr) (λ b x w i. i.0) K never n n' len c c' m m' (let l : suc c ≤ suc c' = led.0 in omega arith, led.1) (λ s. let e : suc c ≡ suc c' = deep s in omega arith) (expr n (suc c) 1) (expr n' (suc c') 1) ts any_tall (expr_here ts))
      (λ y _ r. header_by_good tests y r)))

module _ (K : Fault → Type 0) (never : K Exhausted → ⊥) (n n' : ℕ) (len : n ≤ n') where
  pub header_good : (d d' : Room) → d ⊑ d' → (K TooDeep → d.0 ≡ d'.0) → 1 ≤ d.0 → (tests : Bool) (ts : List Word) → Good n d K (HeaderOf tests) (header n d.0 tests) (header n' d'.0 tests) ts
  header_good (zero, m) d' led deep some tests ts = absurd (omega arith)
  header_good (suc c, m) (zero, m') led deep some tests ts = let l : suc c ≤ 0 = led.0 in absurd (omega arith)
  header_good (suc c, m) (suc c', m') led deep some tests ts = header_in K never n n' len c c' m m' led deep tests ts

  no_header : (b : Room) → HeaderOf false b (record { first = None; test = None }, 0) []
  no_header b = record { low = 0; high = 0; front = []; back = []; both = refl; begins = no_first; test = no_expr; tall = refl; fits = omega arith; some = λ s. absurd cc }

  pub maybe_header_good : (d d' : Room) → d ⊑ d' → (K TooDeep → d.0 ≡ d'.0) → (ts : List Word) → Good n d K (HeaderOf false) (maybe_header n d.0) (maybe_header n' d'.0) ts
  unfolding maybe_header
  maybe_header_good d d' led deep ts = choice n d K _ t.left_brace _ _ _ _ ts
      (λ here. good_pure n d K _ _ ts (λ b db. no_header b))
      (λ _. by_test n d K _ begins _ _ _ _ ts
      (λ yes'. good_far n K _ d d' 1 _ _ ts led deep (begins_some (kind_of ts) yes') (λ b db. ((record { first = None; test = None }, 0), [], no_header b))
      (λ a ea. let x = begun_expr a (ap begins ea ∙ yes') in (d.0 + x.0.1, (record { first = None; test = Some x.0.0 }, max 0 x.0.1), x.1, omega arith, no_more_test (d.0 + x.0.1, d.1) x.0.0 x.0.1 (a ∷ x.1) x.2 (omega arith) false))
      (λ some. header_good d d' led deep some false ts))
      (λ _. good_refuse n d K _ ts (λ b db. ((record { first = None; test = None }, 0), [], no_header b))))
