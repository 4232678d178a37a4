-- The reader of a simple statement or a label is good.
use Rattle.std.proofs.Common.{◌≡◌, inl, inr, ◌&&◌, ℕ, zero, suc, ◌+◌, ◌-◌, ◌≤◌, Bool, true, false, List, [], ◌∷◌, ◌++◌, Option, Some, None, Result, Ok, Err, refl, sym, ◌∙◌, arith}
use Rattle.std.proofs.lemmas.List.{append-nil}
use Rattle.go_ast.specs.declared.name.Name.{Name}
use Rattle.go_ast.specs.declared.token.TokenKind.{TokenKind}
use Rattle.go_ast.specs.declared.token.TokenKind.TheVariants as kind
use Rattle.go_ast.specs.declared.expr.Expr.{Expr}
use Rattle.go_ast.specs.declared.block.Target.{Target}
use Rattle.go_ast.specs.declared.block.Target.TheVariants as target
use Rattle.go_ast.specs.declared.block.Stmt.{Stmt}
use Rattle.go_ast.specs.declared.block.StmtForm.TheVariants as statement
use Rattle.go_grammar.specs.Words.{Word}
use Rattle.go_grammar.specs.Terminals as t
use Rattle.go_grammar.specs.Trees.{name_of, stmt_node, stmt_end}
use Rattle.go_grammar.specs.Simple.{IsTarget, plain_target, member_target as member_target', evaluated}
use Rattle.go_grammar.specs.Blocks.{simple as simple', labelled, IsBreakable, select, no_comms}
use Rattle.go_reading.specs.declared.fault.Fault.{Fault}
use Rattle.go_reading.specs.declared.fault.Fault.TheVariants.{TooDeep, Exhausted}
use Rattle.go_reading.specs.declared.qualified.Qualified.{Qualified}
use Rattle.go_reading.specs.declared.lead.Lead.{Lead}
use Rattle.go_reading.specs.declared.lead.Lead.TheVariants as l
use Rattle.go_reading.specs.Kinds.{is}
use Rattle.go_reading.specs.Input.{Reader, Tall, go_on, ◌>>=◌, pure, refuse, peek, if_kind, kind_of, span_of}
use Rattle.go_reading.specs.Types.{expr_of}
use Rattle.go_reading.specs.Exprs.{expr}
use Rattle.go_reading.specs.Simple.{target_of, eval_stmt, is_plain, lead, bare, stmt_by}
use Rattle.go_reading.specs.Stmts.{label_by, plain_stmt}
use Rattle.go_reading.proofs.Good.{Room, ◌⊑◌, up, Form, Good, Filled, Rises, Rest, seq, weaker, good_pure, good_refuse, choice, take_then, a_word, shift}
use Rattle.go_reading.proofs.Alike.{good_map}
use Rattle.go_reading.proofs.RowsRead.{is_other}
use Rattle.go_reading.proofs.TypesGood.{IsQualified, alone, pair, QualifiedOf}
use Rattle.go_reading.proofs.ExprsGood.{AnyExpr, tall}
use Rattle.go_reading.proofs.LeadGood.{Under, under_rises, expr_under, LeadIs, lead_rises, lead_good, target_spelled}
use Rattle.go_reading.proofs.BareGood.{Into, simple_loose, Stays, up_by, down_by, by_next, Tail, bare_good, follow_tail, follow_same, named_tail, unnamed_tail, named_bare, unnamed_bare, behind_name, go_on_twice, regroup, reread}
use Rattle.go_reading.proofs.SimpleGood.{simple_tail, target_is_name, member_target, tail_up, tail_down, tail_stays, stmt_by_good}
use Rattle.go_reading.proofs.Clauses.{breakable_rises}
use Rattle.go_reading.proofs.Loose.{Loose}
use Rattle.go_grammar.specs.declared.form.Form.{Form as TextForm}

module _ (form : TextForm) where
  loose_of : Into (Loose form)
  loose_of b x w i = (simple' x.1 x.0 w i.0, inl i.1)

  -- a statement that may have a label
  abbrev pub BreakOf : Form (Tall Stmt)
  BreakOf b x w = IsBreakable form b.1 x.1 x.0 w × (x.1 ≤ b.0)

  -- ---- a label beyond the limit

  label_far : (d : Room) (q : Qualified) → is_plain q.member ≡ true → (a : Word) → a.kind ≡ t.colon → (k : ℕ) × (y : Tall Stmt) × (w : List Word) × (d.0 ≤ k) × Rest QualifiedOf (Loose form) q (k, d.1) y (a ∷ w)
  label_far d q e a ka =
      let i = a_word t.select_word in
      let l = a_word t.left_brace in
      let r = a_word t.right_brace in
      let x : Stmt = stmt_node i.span.start r.span.end (statement.Select l.span.start []) in
      let b : IsBreakable form d.1 1 x (i ∷ l ∷ r ∷ []) = select (a_word t.select_word) (a_word t.left_brace) (a_word t.right_brace) 0 [] [] refl refl no_comms (omega arith) refl in
      (d.0 + 2, (stmt_node q.name.at (stmt_end x) (statement.Label q.name x), 2), i ∷ l ∷ r ∷ [], omega arith, λ u iu. go x (i ∷ l ∷ r ∷ []) b q u iu e)
    where
      go : (x : Stmt) (w : List Word) → IsBreakable form d.1 1 x w → (q : Qualified) (u : List Word) → IsQualified q u → is_plain q.member ≡ true → Loose form (d.0 + 2, d.1) (stmt_node q.name.at (stmt_end x) (statement.Label q.name x), 2) (u ++ a ∷ w)
      go x w b _ _ (alone n k) e = (labelled n a 1 x w k ka b, inl (inl (omega arith)))
      go x w b _ _ (pair p m n kp km kn) e = absurd cc

  -- ---- behind an expression

  plain_tail : ℕ → ℕ → Reader (Tall Stmt) → Tall Expr → Reader (Tall Stmt)
  plain_tail n c bl x = peek >>= if_kind t.colon (label_by n c bl x (target_of x.0)) (simple_tail n c x)

  colon_stays : (q : Qualified) (o : Option TokenKind) → Stays true q o → is o t.colon ≡ true → is_plain q.member ≡ false
  colon_stays q o (inl e) c = e.1
  colon_stays q o (inr e) c = go (is_plain q.member) refl
    where
      go : (b : Bool) → is_plain q.member ≡ b → b ≡ false
      go false f = refl
      go true f = absurd (let g = e.1.1 in let h : (true && is_plain q.member && is o t.colon) ≡ true = rw (f, c) refl in cc)

  plain_stays : (n c : ℕ) (bl : Reader (Tall Stmt)) (q : Qualified) (r : List Word) → Stays true q (kind_of r) → (b : Bool) → is (kind_of r) t.colon ≡ b → plain_tail n c bl (expr_of q, 1) r ≡ (Ok (eval_stmt (expr_of q), 2), r)
  unfolding plain_tail
  plain_stays n c bl q r st true e = let m = member_target q (colon_stays q (kind_of r) st e) in rw (e, target_is_name q, m.2) refl
  plain_stays n c bl q r st false e = rw e (tail_stays true n c q r st)

  up_tail : (n c : ℕ) (bl : Reader (Tall Stmt)) (q : Qualified) (r : List Word) → kind_of r ≡ Some t.increment → plain_tail n c bl (expr_of q, 1) r ≡ up_by q r
  unfolding plain_tail
  up_tail n c bl q r k = rw (is_other (kind_of r) t.increment t.colon k refl) (tail_up n c q r k)

  down_tail : (n c : ℕ) (bl : Reader (Tall Stmt)) (q : Qualified) (r : List Word) → kind_of r ≡ Some t.decrement → plain_tail n c bl (expr_of q, 1) r ≡ down_by q r
  unfolding plain_tail
  down_tail n c bl q r k = rw (is_other (kind_of r) t.decrement t.colon k refl) (tail_down n c q r k)

  tail_plain : (n c : ℕ) (bl : Reader (Tall Stmt)) → Tail true (plain_tail n c bl)
  tail_plain n c bl = record { up = λ q r k. up_tail n c bl q r k; down = λ q r k. down_tail n c bl q r k; stays = λ q r st. plain_stays n c bl q r st (is (kind_of r) t.colon) refl }

  -- ---- an expression before a colon, or what it is part of

  front_of : ℕ → ℕ → Tall Expr → Reader (Bool × Tall Lead)
  front_of n c x = peek >>= if_kind t.colon (pure (true, (l.Expr x.0, x.1))) (lead n c false x >>= λ y. pure (false, y))

  label_or : ℕ → ℕ → Reader (Tall Stmt) → Bool × Tall Lead → Reader (Tall Stmt)
  label_or n c bl (true, (l.Expr e, h)) = peek >>= if_kind t.colon (label_by n c bl (e, h) (target_of e)) refuse
  label_or n c bl (true, (l.Stmt x, h)) = stmt_by (l.Stmt x, h)
  label_or n c bl (true, (l.Range ns, h)) = stmt_by (l.Range ns, h)
  label_or n c bl (false, y) = stmt_by y

  front_then : (n c : ℕ) (bl : Reader (Tall Stmt)) (x : Tall Expr) (r : List Word) (b : Bool) → is (kind_of r) t.colon ≡ b → (front_of n c x >>= label_or n c bl) r ≡ plain_tail n c bl x r
  unfolding front_of plain_tail label_or
  front_then n c bl x r true e = rw (e, e) refl
  front_then n c bl x r false e = rw e (go_on_twice (lead n c false x r).0 (lead n c false x r).1 (λ y. pure (false, y)) (label_or n c bl))

  go_on_same : {A B : Type 0} (v : Result A Fault) (r : List Word) (f g : A → Reader B) → ((x : A) (r : List Word) → f x r ≡ g x r) → go_on v r f ≡ go_on v r g
  go_on_same (Ok x) r f g e = e x r
  go_on_same (Err f') r f g e = refl

  in_two : (n c : ℕ) (bl : Reader (Tall Stmt)) (p : Reader (Tall Expr)) (r : List Word) → (p >>= plain_tail n c bl) r ≡ ((p >>= front_of n c) >>= label_or n c bl) r
  in_two n c bl p r = go_on_same (p r).0 (p r).1 (plain_tail n c bl) (λ x. front_of n c x >>= label_or n c bl) (λ x r'. sym (front_then n c bl x r' (is (kind_of r') t.colon) refl)) ∙ sym (regroup p (front_of n c) (label_or n c bl) r)

  -- what the mark leaves
  abbrev MarkedIs : Form (Bool × Tall Lead)
  MarkedIs b z w = LeadIs (Under AnyExpr) false b z.1 w

  marked_rises : Rises MarkedIs
  marked_rises b c le z w s = lead_rises (Under AnyExpr) false (under_rises AnyExpr) b c le z.1 w s

  -- a label is a name
  label_name : (h : ℕ) (g : Target) (u : List Word) → IsTarget h g u → (nm : Name) → g ≡ target.Plain nm → (n : Word) × (u ≡ n ∷ []) × (n.kind ≡ kind.Name) × (nm ≡ name_of n)
  label_name _ _ _ (plain_target n k) nm e = (n, refl, k, cc)
  label_name _ _ _ (member_target' p d n kp kd kn) nm e = absurd cc

  abbrev UnderBreak : Form (Tall Stmt)
  UnderBreak b x w = IsBreakable form b.1 x.1 x.0 w × (suc x.1 ≤ b.0)

  module _ (K : Fault → Type 0) (never : K Exhausted → ⊥) (n n' : ℕ) (len : n ≤ n') (c c' m m' : ℕ) (led : (c, m) ⊑ (c', m')) (deep : K TooDeep → c ≡ c') (bl bl' : Reader (Tall Stmt))
      (bl_good : 1 ≤ c → (ts : List Word) → Good n (c, m) K BreakOf bl bl' ts) where
    break_under : 1 ≤ c → (ts : List Word) → Good n (suc c, m) K UnderBreak bl bl' ts
    break_under some ts = shift n (c, m) K UnderBreak bl' ts _ _ (weaker n (c, m) K BreakOf (λ b. UnderBreak (up b)) _ _ _ _ (λ b db x w i. (i.0, let f = i.1 in omega arith)) (bl_good some ts))

    front_good : (x : Tall Expr) → 1 ≤ x.1 → (r : List Word) → Good n (suc c, m) K (Rest (Under AnyExpr) MarkedIs x) (front_of n c x) (front_of n' c' x) r
    unfolding front_of
    front_good x some r = choice n (suc c, m) K _ t.colon _ _ _ _ r
        (λ here. good_pure n (suc c, m) K _ _ r (λ b db u iu. rw append-nil iu))
        (λ _. good_map n (suc c, m) K (Rest (Under AnyExpr) (LeadIs (Under AnyExpr) false) x) (Rest (Under AnyExpr) MarkedIs x) (λ y. (false, y)) (lead n' c' false x) r _ _ (λ b y w f. f)
        (lead_good (Under AnyExpr) false (under_rises AnyExpr) (λ b y w i. i.0) K never n n' len c c' m m' led deep x some r))

    module _ (e : Expr) (h : ℕ) where
      an_eval : (b : Room) (u : List Word) → Under AnyExpr b (e, h) u → Loose form b (eval_stmt e, h + 1) u
      an_eval b u i = loose_of b (eval_stmt e, h + 1) u (simple_loose b (eval_stmt e, h + 1) u (evaluated i.0.0 h e u i.0.1) (let f = i.1 in omega arith))

      fill_label : (b : Room) → Filled b (Rest MarkedIs (Loose form) (true, (l.Expr e, h)))
      fill_label b = ((eval_stmt e, h + 1), [], λ u iu. rw append-nil (an_eval b u iu))

      a_label : (nm : Name) (b : Room) (u v : List Word) (a : Word) (y : Tall Stmt) → target_of e ≡ Some (target.Plain nm) → Under AnyExpr b (e, h) u → a.kind ≡ t.colon → UnderBreak b y v → Loose form b (stmt_node nm.at (stmt_end y.0) (statement.Label nm y.0), y.1 + 1) (u ++ a ∷ v)
      a_label nm b u v a y is iu ka iv =
          let j = label_name 0 (target.Plain nm) u (target_spelled iu.0.0 h e u iu.0.1 (target.Plain nm) is) nm refl in
          go j.0 j.1 j.2 j.3
        where
          go : (n : Word) → u ≡ n ∷ [] → n.kind ≡ kind.Name → nm ≡ name_of n → Loose form b (stmt_node nm.at (stmt_end y.0) (statement.Label nm y.0), y.1 + 1) (u ++ a ∷ v)
          go n i k j = rw (i, j) (labelled n a y.1 y.0 v k ka iv.0, inl (inl (let f = iv.1 in omega arith)))

      label_good : 1 ≤ c → (o : Option Target) → target_of e ≡ o → (r : List Word) → kind_of r ≡ Some t.colon → Good n (suc c, m) K (Rest MarkedIs (Loose form) (true, (l.Expr e, h))) (label_by n c bl (e, h) o) (label_by n' c' bl' (e, h) o) r
      label_good some None is r here = good_pure n (suc c, m) K _ _ r (λ b db u iu. rw append-nil (an_eval b u iu))
      label_good some (Some (target.Member p q)) is r here = good_pure n (suc c, m) K _ _ r (λ b db u iu. rw append-nil (an_eval b u iu))
      label_good some (Some (target.Plain nm)) is r here = take_then n n (suc c, m) K _ t.colon span_of _ _ r (omega arith) here (λ sp r2.
          seq n (suc c, m) K UnderBreak _ bl' _ _ r2 _ _ (λ b d le x w i. (breakable_rises form b.1 d.1 le.1 x.1 x.0 w i.0, let f = i.1 in let l = le.0 in omega arith)) (break_under some r2) (λ y _ r3.
          good_pure n (suc c, m) K _ _ r3 (λ b db v iv a ia u iu. rw (append-nil, ia.1) (a_label nm b u v ia.0 y is iu ia.2 iv))))

    label_or_good : 1 ≤ c → (z : Bool × Tall Lead) (r : List Word) → Good n (suc c, m) K (Rest MarkedIs (Loose form) z) (label_or n c bl z) (label_or n' c' bl' z) r
    unfolding label_or
    label_or_good some (true, (l.Expr e, h)) r = choice n (suc c, m) K (Rest MarkedIs (Loose form) (true, (l.Expr e, h))) t.colon _ _ _ _ r (λ here. label_good e h some (target_of e) refl r here) (λ _. good_refuse n (suc c, m) K _ r (λ b db. fill_label e h b))
    label_or_good some (true, (l.Stmt x, h)) r = stmt_by_good (Loose form) loose_of n (suc c, m) K (l.Stmt x, h) r
    label_or_good some (true, (l.Range ns, h)) r = stmt_by_good (Loose form) loose_of n (suc c, m) K (l.Range ns, h) r
    label_or_good some (false, y) r = stmt_by_good (Loose form) loose_of n (suc c, m) K y r

  module _ (K : Fault → Type 0) (never : K Exhausted → ⊥) (n n' : ℕ) (len : n ≤ n') (turns : 1 ≤ n) where
    any_tall : (b : Room) (x : Tall Expr) (w : List Word) → Under AnyExpr b x w → 1 ≤ x.1
    any_tall b x w i = tall i.0.0 x.1 x.0 w i.0.1

    pub plain_in : (c c' m m' : ℕ) → (c, m) ⊑ (c', m') → (K TooDeep → c ≡ c') → (bl bl' : Reader (Tall Stmt)) → (1 ≤ c → (ts : List Word) → Good n (c, m) K BreakOf bl bl' ts)
        → (ts : List Word) → Good n (suc c, m) K (Loose form) (plain_stmt n c bl) (plain_stmt n' c' bl') ts
    unfolding plain_stmt plain_tail
    plain_in zero zero m m' led deep bl bl' bl_good ts =
        bare_good true (Loose form) loose_of K (1, m) (omega arith) (λ e q p a k. label_far (1, m) q p a k) n (bare true) (by_next true) (λ r k. named_bare true r k) (λ r b. unnamed_bare true r b) (λ s r. refl) (λ q. follow_same true K q) ts
    plain_in zero (suc c') m m' led deep bl bl' bl_good ts =
        let no-deep : K TooDeep → ⊥ = λ s. let e : 0 ≡ suc c' = deep s in omega arith in
        bare_good true (Loose form) loose_of K (1, m) (omega arith) (λ e q p a k. label_far (1, m) q p a k) n (expr n' (suc c') 1 >>= plain_tail n' (suc c') bl') (λ q. (behind_name n' c' q >>= plain_tail n' (suc c') bl'))
        (λ r k. named_tail n' c' (plain_tail n' (suc c') bl') r k) (λ r b. unnamed_tail n' c' (plain_tail n' (suc c') bl') r b) (λ s. absurd (no-deep s)) (λ q. follow_tail true K no-deep n' c' (omega arith) (plain_tail n' (suc c') bl') (tail_plain n' (suc c') bl') q) ts
    plain_in (suc c) zero m m' led deep bl bl' bl_good ts = let l : suc c ≤ 0 = led.0 in absurd (omega arith)
    plain_in (suc c) (suc c') m m' led deep bl bl' bl_good ts =
        let d : Room = (suc (suc c), m) in
        let two = in_two n (suc c) bl (expr n (suc c) 1) ts in
        reread n d K (Loose form) (expr n' (suc c') 1 >>= plain_tail n' (suc c') bl') ((expr n' (suc c') 1 >>= front_of n' (suc c')) >>= label_or n' (suc c') bl') ts _ _ (λ r k. in_two n' (suc c') bl' (expr n' (suc c') 1) r)
        (rw two (seq n d K MarkedIs (Loose form) (expr n' (suc c') 1 >>= front_of n' (suc c')) (label_or n (suc c) bl) (label_or n' (suc c') bl') ts _ _ marked_rises
        (seq n d K (Under AnyExpr) MarkedIs (expr n' (suc c') 1) (front_of n (suc c)) (front_of n' (suc c')) ts _ _ (under_rises AnyExpr) (expr_under K never n n' len (suc c) (suc c') m m' led deep (omega arith) ts)
        (λ x sx r. front_good K never n n' len (suc c) (suc c') m m' led deep bl bl' bl_good x (any_tall sx.0 x sx.1 sx.3) r))
        (λ z _ r. label_or_good K never n n' len (suc c) (suc c') m m' led deep bl bl' bl_good (omega arith) z r)))

    pub plain_good : (d d' : Room) → d ⊑ d' → (K TooDeep → d.0 ≡ d'.0) → 1 ≤ d.0 → (bl bl' : Reader (Tall Stmt)) → (1 ≤ d.0 - 1 → (ts : List Word) → Good n (d.0 - 1, d.1) K BreakOf bl bl' ts) → (ts : List Word) → Good n d K (Loose form) (plain_stmt n (d.0 - 1) bl) (plain_stmt n' (d'.0 - 1) bl') ts
    plain_good (zero, m) d' led deep some bl bl' bl_good ts = absurd (omega arith)
    plain_good (suc c, m) (zero, m') led deep some bl bl' bl_good ts = let l : suc c ≤ 0 = led.0 in absurd (omega arith)
    plain_good (suc c, m) (suc c', m') led deep some bl bl' bl_good ts =
        let one : suc c - 1 ≡ c = omega arith in
        let one' : suc c' - 1 ≡ c' = omega arith in
        rw (one, one') (plain_in c c' m m' (let l : suc c ≤ suc c' = led.0 in omega arith, led.1) (λ s. let f : suc c ≡ suc c' = deep s in omega arith) bl bl' (rw one at bl_good) ts)
