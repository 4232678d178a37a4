-- The reader of what stands between `for` and its `{` is good.
use Rattle.std.proofs.Common.{◌≡◌, ◌⊎◌, inl, inr, ℕ, zero, suc, ◌+◌, ◌-◌, ◌≤◌, ◌<◌, max, Bool, true, false, List, [], ◌∷◌, ◌++◌, Option, Some, None, Result, Ok, Err, refl, ap, subst, ◌∙◌, append_assoc, arith, nat_le}
use Rattle.std.proofs.lemmas.List.{append-nil}
use Rattle.std.proofs.lemmas.Bool.{leb-true, leb-false}
use Rattle.go_ast.specs.declared.name.Name.{Name}
use Rattle.go_ast.specs.declared.expr.Expr.{Expr}
use Rattle.go_ast.specs.declared.block.Target.{Target}
use Rattle.go_ast.specs.declared.block.Stmt.{Stmt}
use Rattle.go_ast.specs.declared.block.StmtForm.TheVariants as statement
use Rattle.go_grammar.specs.Words.{Word}
use Rattle.go_grammar.specs.Terminals as t
use Rattle.go_grammar.specs.Trees.{stmt_node, target_start}
use Rattle.go_grammar.specs.Exprs.{no_expr, some_expr}
use Rattle.go_grammar.specs.Simple.{IsTarget, evaluated, raised}
use Rattle.go_grammar.specs.Blocks.{IsMaybeSimple, no_simple, some_simple, IsRangeNames, no_names}
use Rattle.go_reading.specs.declared.fault.Fault.{Fault}
use Rattle.go_reading.specs.declared.fault.Fault.TheVariants.{Unexpected, TooDeep, TooMany, Exhausted}
use Rattle.go_reading.specs.declared.lead.Lead.{Lead}
use Rattle.go_reading.specs.declared.lead.Lead.TheVariants as l
use Rattle.go_reading.specs.declared.header.ForHead.{ForHead}
use Rattle.go_reading.specs.declared.header.ForHead.TheVariants as f
use Rattle.go_reading.specs.Input.{Reader, Tall, go_on, ◌>>=◌, kind_of, span_of}
use Rattle.go_reading.specs.Exprs.{expr}
use Rattle.go_reading.specs.Simple.{eval_stmt, lead, simple}
use Rattle.go_reading.specs.Stmts.{maybe_before, range_head, last_part, parts_head, for_by, for_head}
use Rattle.go_reading.proofs.Good.{Room, ◌⊑◌, room, Form, At, Good, Filled, Spelled, Rises, Rest, Passed, seq, weaker, good_pure, good_refuse, good_far, good_limited, choice, expect_then, a_word, some_is, err_is}
use Rattle.go_reading.proofs.Rows.{Within, within_rises, some_not_none}
use Rattle.go_reading.proofs.ExprsGood.{AnyExpr, tall}
use Rattle.go_reading.proofs.LeadGood.{LeadIs, lead_rises, led_good}
use Rattle.go_reading.proofs.BareGood.{good_regroup}
use Rattle.go_reading.proofs.SimpleGood.{simple_good}
use Rattle.go_reading.proofs.HeadsGood.{TestOf, test_rises, expr_here, maybe_before_good}
use Rattle.go_reading.proofs.StmtForms.{target_in, IsBare, SimpleLoose, simple_loose_rises, IsForHead, test_is, parts_are, range_is}

-- What begins with an item and a `{`. Where a last statement is too high, that is so at the `{`, which is no part of it.
pub record Braced {A : Type 0} (Item : ℕ → A → List Word → Type 0) (d : Room) (b : Room) (x : Tall A) (w : List Word) : Type 0 where
  pub front : List Word
  pub brace : Word
  pub both : w ≡ front ++ brace ∷ []
  pub opens : brace.kind ≡ t.left_brace
  pub item : Item x.1 x.0 front
  pub fits : x.1 ≤ b.0
  pub more : suc d.0 ≤ b.0

-- an item in the room, or in more room with a `{`
abbrev pub Ends : {A : Type 0} → (ℕ → A → List Word → Type 0) → Room → Form (Tall A)
Ends Item d b x w = Within Item b x w ⊎ Braced Item d b x w

ends_rise : {A : Type 0} (Item : ℕ → A → List Word → Type 0) (d : Room) → Rises (Ends Item d)
ends_rise Item d b c le x w (inl i) = inl (within_rises Item b c le x w i)
ends_rise Item d b c le x w (inr i) = inr (record { front = i.front; brace = i.brace; both = i.both; opens = i.opens; item = i.item; fits = let f = i.fits in let l = le.0 in omega arith; more = let f = i.more in let l = le.0 in omega arith })

-- in the room itself there is no `{`
strict : {A : Type 0} (Item : ℕ → A → List Word → Type 0) (d : Room) (x : Tall A) (w : List Word) → Ends Item d d x w → Within Item d x w
strict Item d x w (inl i) = i
strict Item d x w (inr i) = absurd (let f = i.more in omega arith)

-- ---- and what follows

module _ {A B : Type 0} (Item : ℕ → A → List Word → Type 0) (R : Form B) (d : Room) (K : Fault → Type 0)
    (brace : (b : Room) → d ⊑ b → (x : Tall A) (a : Word) → a.kind ≡ t.left_brace → (y : B) × (w : List Word) × ((u : List Word) → Within Item b x u → R b y (u ++ a ∷ w))) where
  end_filled : (b : Room) → d ⊑ b → (x : Tall A) (w : List Word) → Ends Item d b x w → Filled b (Rest (Within Item) R x) → (y : B) × (v : List Word) × R b y (w ++ v)
  end_filled b db x w (inl i) fill = (fill.0, fill.1, fill.2 w i)
  end_filled b db x w (inr i) fill =
      let c = brace b db x i.brace i.opens in
      (c.0, c.1, rw (i.both, append_assoc) (c.2 i.front (i.item, i.fits)))

  spelled_of : (b : Room) → d ⊑ b → (x : Tall A) (w : List Word) → Ends Item d b x w → Spelled d (Within Item) x
  spelled_of b db x w (inl i) = (b, w, db, i)
  spelled_of b db x w (inr i) = (b, i.front, db, (i.item, i.fits))

  within_filled : (b : Room) → Filled b (Ends Item d) → Filled b (Within Item)
  within_filled b f = go f.0 f.1 f.2
    where
      go : (x : Tall A) (w : List Word) → Ends Item d b x w → Filled b (Within Item)
      go x w (inl i) = (x, w, i)
      go x w (inr i) = (x, i.front, (i.item, i.fits))

  module _ (N : ℕ) (f g : Tall A → Reader B) (cont : (x : Tall A) → Spelled d (Within Item) x → (r : List Word) → Good N d K (Rest (Within Item) R x) (f x) (g x) r) where
    fill_rest : (b : Room) → d ⊑ b → (x : Tall A) (w : List Word) → Ends Item d b x w → (y : B) × (v : List Word) × R b y (w ++ v)
    fill_rest b db x w i = end_filled b db x w i ((cont x (spelled_of b db x w i) []).filled b db)

    ends_passed : (e : Fault) (front rest : List Word) → Passed e d (Ends Item d) front rest → Passed e d R front rest
    ends_passed Unexpected front rest p = tt
    ends_passed TooDeep front rest p =
        let c = fill_rest (p.0, d.1) (p.5, omega arith) p.4 (front ++ p.1 ∷ p.2) p.7 in
        (p.0, p.1, p.2 ++ c.1, p.3, c.0, p.5, p.6, rw append_assoc at c.2)
    ends_passed TooMany front rest p =
        let c = fill_rest p.0 p.5 p.4 (front ++ p.1 ∷ p.2) p.7 in
        (p.0, p.1, p.2 ++ c.1, p.3, c.0, p.5, p.6, rw append_assoc at c.2)
    ends_passed Exhausted front rest p = tt

    pub ends_then : (q : Reader (Tall A)) (ts rest : List Word) (v : Result (Tall A) Fault) → At N d K (Ends Item d) q ts v rest → At N d K R (q >>= g) ts (go_on v rest f).0 (go_on v rest f).1
    ends_then q ts rest (Ok x) a =
        seq N d K (Within Item) R q f g ts rest (Ok x) (within_rises Item)
        (record { front = a.front; cut = a.cut; same = a.same; means = strict Item d x a.front a.means; filled = λ b db. within_filled b (a.filled b db); enough = a.enough }) cont
    ends_then q ts rest (Err e) a =
        let m = a.means in
        let c = fill_rest d (room d) m.1 (a.front ++ m.0) m.2 in
        record {
          front = a.front;
          cut = a.cut;
          same = λ s r k. rw (a.same s r k) refl;
          means = (m.0 ++ c.1, c.0, rw append_assoc at c.2, ends_passed e a.front rest m.3);
          filled = λ b db. let l = a.filled b db in let i = fill_rest b db l.0 l.1 l.2 in (i.0, l.1 ++ i.1, i.2);
          enough = λ lt x. a.enough lt (ap Err (err_is e Exhausted x));
        }

-- ---- the last statement

same_target : (o : Option Target) (g g' : Target) → o ≡ Some g → o ≡ Some g' → g ≡ g'
same_target o g g' e f = cc

no_target : (o : Option Target) (g : Target) → o ≡ Some g → o ≡ None → ⊥
no_target o g e f = cc

bare_of : (c : Room) (x : Tall Stmt) (u : List Word) → ((x.1 ≤ c.0) ⊎ IsBare c x.0 u) → c.0 < x.1 → IsBare c x.0 u
bare_of c x u (inl le) lt = absurd (omega arith)
bare_of c x u (inr i) lt = i

-- behind a loose statement
abbrev LastOf : Room → Tall Stmt → Form (Tall (Option Stmt))
LastOf d x = Rest SimpleLoose (Ends IsMaybeSimple d) x

fill_last : (d c : Room) (x : Tall Stmt) (b : Bool) → nat_le x.1 c.0 ≡ b → (o : Option Target) → target_in x.0 ≡ o → Filled c (LastOf d x)
fill_last d c x true e o f = ((Some x.0, x.1), [], λ u iu. rw append-nil (inl (some_simple x.1 x.0 u iu.0, leb-true x.1 c.0 e)))
fill_last d c x false e None f = ((None, 0), [], λ u iu. let i = bare_of c x u iu.1 (leb-false x.1 c.0 e) in absurd (no_target (target_in x.0) i.target i.is f))
fill_last d c x false e (Some g) f =
    let a = a_word t.increment in (
      (Some (stmt_node (target_start g) a.span.end (statement.Up g)), 1),
      a ∷ [],
      λ u iu.
          let i = bare_of c x u iu.1 (leb-false x.1 c.0 e) in
          let s : i.target ≡ g = same_target (target_in x.0) i.target g i.is f in
          inl (some_simple 1 (stmt_node (target_start g) a.span.end (statement.Up g)) (u ++ a_word t.increment ∷ []) (raised (a_word t.increment) g u (subst (λ (z : Target). IsTarget 0 z u) s i.spells) refl), i.some),
    )

a_last : (d c : Room) (x : Tall Stmt) → Filled c (LastOf d x)
a_last d c x = fill_last d c x (nat_le x.1 c.0) refl (target_in x.0) refl

module _ (K : Fault → Type 0) (never : K Exhausted → ⊥) (n n' : ℕ) (len : n ≤ n') (turns : 1 ≤ n) (d d' : Room) (led : d ⊑ d') (deep : K TooDeep → d.0 ≡ d'.0) (some : 1 ≤ d.0) where
  last_part_good : (ts : List Word) → Good n d K (Ends IsMaybeSimple d) (last_part n d.0) (last_part n' d'.0) ts
  unfolding last_part
  last_part_good ts = choice n d K _ t.left_brace _ _ _ _ ts
      (λ over. good_pure n d K _ _ ts (λ b db. inl (no_simple, omega arith)))
      (λ _. seq n d K SimpleLoose (Ends IsMaybeSimple d) (simple n' (d'.0 - 1)) _ _ ts _ _ simple_loose_rises (simple_good K never n n' len turns d d' led deep some ts) (λ x _ r.
      choice n d K (LastOf d x) t.left_brace _ _ _ _ r
      (λ here. good_far n K (LastOf d x) d d' x.1 _ _ r led deep (some_not_none (kind_of r) t.left_brace here) (λ b db. a_last d b x)
      (λ a ea. (suc d.0 + x.1, (Some x.0, x.1), [], omega arith, λ u iu. inr (record { front = u; brace = a; both = refl; opens = some_is a.kind t.left_brace (ea ∙ here); item = some_simple x.1 x.0 u iu.0; fits = omega arith; more = omega arith })))
      (λ small. good_pure n d K _ _ r (λ b db u iu. rw append-nil (inl (some_simple x.1 x.0 u iu.0, let l = db.0 in omega arith)))))
      (λ _. good_refuse n d K (LastOf d x) r (λ b db. a_last d b x))))

-- ---- the whole head

parts_of : (d b : Room) (first : Option Stmt) (h : ℕ) (x : Tall (Option Expr)) (y : Tall (Option Stmt)) (u v w : List Word) (a z : Word) → IsMaybeSimple h first u → h ≤ b.0 → a.kind ≡ t.semicolon → TestOf false b x v → z.kind ≡ t.semicolon → Ends IsMaybeSimple d b y w
    → Ends IsForHead d b (f.Parts first x.0 y.0, max (max h x.1) y.1) (u ++ a ∷ (v ++ z ∷ w))
parts_of d b first h x y u v w a z iu le ka iv kz (inl i) = inl (parts_are a z h x.1 y.1 first y.0 x.0 u v w iu ka iv.0 kz i.0, let f = iv.1 in let g = i.1 in omega arith)
parts_of d b first h x y u v w a z iu le ka iv kz (inr i) = inr (record {
  front = u ++ a ∷ (v ++ z ∷ i.front);
  brace = i.brace;
  both = rw (i.both, append_assoc, append_assoc) refl;
  opens = i.opens;
  item = parts_are a z h x.1 y.1 first y.0 x.0 u v i.front iu ka iv.0 kz i.item;
  fits = let f = iv.1 in let g = i.fits in omega arith;
  more = i.more;
})

-- behind a first statement, or none
abbrev BehindParts : Room → Option Stmt → ℕ → Form (Tall ForHead)
BehindParts d first h b y w = (u : List Word) → IsMaybeSimple h first u → h ≤ b.0 → Ends IsForHead d b y (u ++ w)

-- behind the names of a range
abbrev BehindRange : Room → List Name → Form (Tall ForHead)
BehindRange d ns b y w = (u : List Word) → IsRangeNames ns u → Ends IsForHead d b y (u ++ w)

a_test : (d b : Room) (e : Expr) (h : ℕ) (u : List Word) → Within AnyExpr b (e, h) u → Ends IsForHead d b (f.Test (Some e), h) u
a_test d b e h u i = inl (test_is h (Some e) u (some_expr i.0.0 h e u i.0.1), i.1)

short_parts : (d b : Room) (e : Expr) (h : ℕ) (u : List Word) (a : Word) → Within AnyExpr b (e, h) u → h + 1 ≤ b.0 → a.kind ≡ t.semicolon → Ends IsForHead d b (f.Parts (Some (eval_stmt e)) None None, max (max (h + 1) 0) 0) (u ++ a ∷ a_word t.semicolon ∷ [])
short_parts d b e h u a i le ka = inl (parts_are a (a_word t.semicolon) (h + 1) 0 0 (Some (eval_stmt e)) None None u [] [] (some_simple (h + 1) (eval_stmt e) u (evaluated i.0.0 h e u i.0.1)) ka no_expr refl no_simple, omega arith)

module _ (K : Fault → Type 0) (never : K Exhausted → ⊥) (n n' : ℕ) (len : n ≤ n') (turns : 1 ≤ n) (c c' m m' : ℕ) (led : (suc c, m) ⊑ (suc c', m')) (deep : K TooDeep → suc c ≡ suc c') where
  range_head_good : (ns : List Name) (ts : List Word) → Good n (suc c, m) K (BehindRange (suc c, m) ns) (range_head n (suc c) ns) (range_head n' (suc c') ns) ts
  unfolding range_head
  range_head_good ns ts = expect_then n (suc c, m) K _ t.range_word span_of _ _ ts (λ sp r.
      seq n (suc c, m) K (Within AnyExpr) _ (expr n' (suc c') 1) _ _ r _ _ (within_rises AnyExpr) (expr_here K never n n' len c c' m m' led deep r) (λ x _ r2.
      good_pure n (suc c, m) K _ _ r2 (λ b db v iv a ia u iu. rw (append-nil, ia.1) (inl (range_is ia.0 iv.0.0 x.1 ns x.0 u v iu ia.2 iv.0.1, iv.1)))))

  parts_head_good : (first : Option Stmt) (h : ℕ) (ts : List Word) → Good n (suc c, m) K (BehindParts (suc c, m) first h) (parts_head n (suc c) first h) (parts_head n' (suc c') first h) ts
  unfolding parts_head
  parts_head_good first h ts = expect_then n (suc c, m) K _ t.semicolon span_of _ _ ts (λ sp r.
      seq n (suc c, m) K (TestOf false) _ (maybe_before n' (suc c') t.semicolon) _ _ r _ _ (test_rises false) (maybe_before_good K never n n' len c c' m m' led deep t.semicolon r) (λ x _ r2.
      expect_then n (suc c, m) K _ t.semicolon span_of _ _ r2 (λ sp' r3.
      seq n (suc c, m) K (Ends IsMaybeSimple (suc c, m)) _ (last_part n' (suc c')) _ _ r3 _ _ (ends_rise IsMaybeSimple (suc c, m)) (last_part_good K never n n' len turns (suc c, m) (suc c', m') led deep (omega arith) r3) (λ y _ r4.
      good_pure n (suc c, m) K _ _ r4 (λ b db w iw z iz v iv a ia u iu le. rw (append-nil, ia.1, iz.1) (parts_of (suc c, m) b first h x y u v w ia.0 iz.0 iu le ia.2 iv iz.2 iw))))))

  for_by_good : (y : Tall Lead) (r : List Word) → Good n (suc c, m) K (Rest (LeadIs (Within AnyExpr) true) (Ends IsForHead (suc c, m)) y) (for_by n (suc c) y) (for_by n' (suc c') y) r
  for_by_good (l.Expr e, h) r = choice n (suc c, m) K _ t.semicolon _ _ _ _ r
      (λ here. good_limited n K _ (suc c, m) (suc c', m') (h + 1) _ _ r led deep (some_not_none (kind_of r) t.semicolon here)
      (λ b db. ((f.Test (Some e), h), [], λ u iu. rw append-nil (a_test (suc c, m) b e h u iu)))
      (λ b db le a ea. ((f.Parts (Some (eval_stmt e)) None None, max (max (h + 1) 0) 0), a_word t.semicolon ∷ [], λ u iu. short_parts (suc c, m) b e h u a iu le (some_is a.kind t.semicolon (ea ∙ here))))
      (λ small. weaker n (suc c, m) K (BehindParts (suc c, m) (Some (eval_stmt e)) (h + 1)) _ _ _ _ _ (λ b db x w g u iu. g u (some_simple (h + 1) (eval_stmt e) u (evaluated iu.0.0 h e u iu.0.1)) (let l = db.0 in omega arith)) (parts_head_good (Some (eval_stmt e)) (h + 1) r)))
      (λ _. good_pure n (suc c, m) K _ _ r (λ b db u iu. rw append-nil (a_test (suc c, m) b e h u iu)))
  for_by_good (l.Stmt x, h) r = weaker n (suc c, m) K (BehindParts (suc c, m) (Some x) h) _ _ _ _ _ (λ b db y w g u iu. g u (some_simple h x u iu.0) iu.1) (parts_head_good (Some x) h r)
  for_by_good (l.Range ns, h) r = weaker n (suc c, m) K (BehindRange (suc c, m) ns) _ _ _ _ _ (λ b db y w g u iu. g u iu.2) (range_head_good ns r)

  any_tall : (b : Room) (x : Tall Expr) (w : List Word) → Within AnyExpr b x w → 1 ≤ x.1
  any_tall b x w i = tall i.0.0 x.1 x.0 w i.0.1

  for_head_in : (ts : List Word) → Good n (suc c, m) K (Ends IsForHead (suc c, m)) (for_head n (suc c)) (for_head n' (suc c')) ts
  unfolding for_head
  for_head_in ts =
      let one : suc c - 1 ≡ c = omega arith in
      let one' : suc c' - 1 ≡ c' = omega arith in
      choice n (suc c, m) K _ t.left_brace _ _ _ _ ts (λ over. good_pure n (suc c, m) K _ _ ts (λ b db. inl (test_is 0 None [] no_expr, omega arith)))
      (λ _. choice n (suc c, m) K _ t.range_word _ _ _ _ ts (λ here. weaker n (suc c, m) K (BehindRange (suc c, m) []) _ _ _ _ _ (λ b db y w g. g [] no_names) (range_head_good [] ts))
      (λ _. choice n (suc c, m) K _ t.semicolon _ _ _ _ ts (λ here. weaker n (suc c, m) K (BehindParts (suc c, m) None 0) _ _ _ _ _ (λ b db y w g. g [] no_simple (omega arith)) (parts_head_good None 0 ts))
      (λ _. rw (one, one') (good_regroup n (suc c, m) K (Ends IsForHead (suc c, m)) (expr n (suc c) 1) (expr n' (suc c') 1) (lead n c true) (lead n' c' true) (for_by n (suc c)) (for_by n' (suc c')) ts
      (seq n (suc c, m) K (LeadIs (Within AnyExpr) true) (Ends IsForHead (suc c, m)) _ _ _ ts _ _ (lead_rises (Within AnyExpr) true (within_rises AnyExpr))
      (led_good (Within AnyExpr) true (within_rises AnyExpr) (λ b x w i. i.0) K never n n' len c c' m m' (let l : suc c ≤ suc c' = led.0 in omega arith, led.1) (λ s. let e : suc c ≡ suc c' = deep s in omega arith) (expr n (suc c) 1) (expr n' (suc c') 1) ts any_tall (expr_here K never n n' len c c' m m' led deep ts))
      (λ y _ r. for_by_good y r))))))

module _ (K : Fault → Type 0) (never : K Exhausted → ⊥) (n n' : ℕ) (len : n ≤ n') (turns : 1 ≤ n) where
  pub for_head_good : (d d' : Room) → d ⊑ d' → (K TooDeep → d.0 ≡ d'.0) → 1 ≤ d.0 → (ts : List Word) → Good n d K (Ends IsForHead d) (for_head n d.0) (for_head n' d'.0) ts
  for_head_good (zero, m) d' led deep some ts = absurd (omega arith)
  for_head_good (suc c, m) (zero, m') led deep some ts = let l : suc c ≤ 0 = led.0 in absurd (omega arith)
  for_head_good (suc c, m) (suc c', m') led deep some ts = for_head_in K never n n' len turns c c' m m' led deep ts

  pub for_head_then : (d d' : Room) → d ⊑ d' → (K TooDeep → d.0 ≡ d'.0) → 1 ≤ d.0 → {B : Type 0} (R : Form B)
      → ((b : Room) → d ⊑ b → (x : Tall ForHead) (a : Word) → a.kind ≡ t.left_brace → (y : B) × (w : List Word) × ((u : List Word) → Within IsForHead b x u → R b y (u ++ a ∷ w)))
      → (g g' : Tall ForHead → Reader B) → ((x : Tall ForHead) → Spelled d (Within IsForHead) x → (r : List Word) → Good n d K (Rest (Within IsForHead) R x) (g x) (g' x) r)
      → (ts : List Word) → Good n d K R (for_head n d.0 >>= g) (for_head n' d'.0 >>= g') ts
  for_head_then d d' led deep some R brace g g' cont ts = ends_then IsForHead R d K brace n g g' cont (for_head n' d'.0) ts _ _ (for_head_good d d' led deep some ts)
