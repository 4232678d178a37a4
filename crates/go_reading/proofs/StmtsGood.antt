-- The readers of statements and blocks are good, if those of their parts are.
use Rattle.std.proofs.Common.{◌≡◌, ◌||◌, ◌&&◌, ◌≢◌, ◌⊎◌, inl, inr, ℕ, zero, suc, ◌+◌, ◌-◌, ◌≤◌, ◌<◌, max, Bool, true, false, cond, List, [], ◌∷◌, ◌++◌, Option, Some, None, refl, sym, ap, subst, ◌∙◌, append_assoc, arith, nat_lt, nat_le, if◌then◌else◌}
use Rattle.std.proofs.lemmas.List.{append-nil}
use Rattle.std.proofs.lemmas.Bool.{leb-true, leb-false}
use Rattle.go_ast.specs.declared.span.Span.{Span}
use Rattle.go_ast.specs.declared.token.TokenKind.{TokenKind}
use Rattle.go_ast.specs.declared.block.Target.{Target}
use Rattle.go_ast.specs.declared.block.Stmt.{Stmt}
use Rattle.go_ast.specs.declared.block.StmtForm.TheVariants as statement
use Rattle.go_grammar.specs.Words.{Word}
use Rattle.go_grammar.specs.Terminals as t
use Rattle.go_grammar.specs.Trees.{target_start, stmt_node, block_node}
use Rattle.go_grammar.specs.Lists.{MayBe}
use Rattle.go_grammar.specs.Simple.{IsTarget, raised}
use Rattle.go_grammar.specs.Blocks.{IsStmt, simple, return_none, braces, IsList, no_stmts, stmts, IsStmts, one_stmt, more_stmts}
use Rattle.go_reading.specs.declared.fault.Fault.{Fault}
use Rattle.go_reading.specs.declared.fault.Fault.TheVariants.{TooDeep, TooMany, Exhausted}
use Rattle.go_reading.specs.declared.header.Braced.{Braced}
use Rattle.go_reading.specs.Kinds.{is, begins, begins_stmt, ends_list}
use Rattle.go_reading.specs.Input.{Reader, take_as, next, Tall, ◌>>=◌, ◌>>◌, pure, fail, refuse, peek, take_span, expect, kind_of, span_of, if_kind, limited}
use Rattle.go_reading.specs.Stmts.{least, begins_clause, next_from, stmts_from, list, block_in}
use Rattle.go_reading.proofs.Good.{Room, ◌⊑◌, up, Form, Good, Filled, Rises, Rest, seq, weaker, fewer, good_pure, good_refuse, good_exhausted, good_far, choice, by_test, take_then, expect_then, IsTaken, a_word, some_is, same_is, is_is}
use Rattle.go_reading.proofs.Full.{Flags, never_full, good_full}
use Rattle.go_reading.proofs.Started.{StartsStmt, empty_block}
use Rattle.go_reading.proofs.Clauses.{list_rises}
use Rattle.go_reading.proofs.BlockForm.{BlockOf}
use Rattle.go_reading.proofs.Loose.{StmtIn, Loose, loose_rises}
use Rattle.go_reading.proofs.StmtForms.{IsBare, target_in}
use Rattle.go_reading.proofs.Opens.{Opens, part_in, stmt_start}
use Rattle.go_reading.proofs.FitGood.{end_of, fit_words, all_words}
use Rattle.go_grammar.specs.Patterns.{Pattern, AllFit}
use Rattle.go_reading.proofs.Alike.{bind_assoc, go_on_eq, if_bind, limited_bind, good_eq}
use Rattle.go_grammar.specs.declared.form.Form.{Form as TextForm}

module _ (form : TextForm) where
  -- ---- short statements

  pub a_return : (b : Room) → 1 ≤ b.0 → Filled b (StmtIn form)
  a_return b some = let k = a_word t.return_word in ((stmt_node k.span.start k.span.end (statement.Return []), 1), k ∷ [], (return_none k refl, some))

  pub loose : (b : Room) (x : Tall Stmt) (w : List Word) → StmtIn form b x w → Loose form b x w
  loose b x w s = (s.0, inl (inl s.1))

  pub or_second : (a b : Bool) → a ≡ false → (a || b) ≡ true → b ≡ true
  or_second true b e f' = absurd cc
  or_second false b e f' = f'

  a_loose : (b : Room) → 1 ≤ b.0 → Filled b (Loose form)
  a_loose b some = let r = a_return b some in (r.0, r.1, loose b r.0 r.1 r.2)

  a_block : (b : Room) → 1 ≤ b.0 → Filled b (BlockOf form)
  a_block b some = let a = a_word t.left_brace in ((record { block = block_node a.span.start (a_word t.right_brace).span.start []; end = (a_word t.right_brace).span.end }, 1), a ∷ a_word t.right_brace ∷ [], (empty_block form a refl b.1, some))

  -- ---- lists of statements

  abbrev pub ListIn : Form (Tall (List Stmt))
  ListIn b y w = IsList form b.1 y.1 y.0 w × (y.1 ≤ b.0)

  list_in_rises : Rises ListIn
  list_in_rises b c le y w s = (list_rises form b.1 c.1 le.1 y.1 y.0 w s.0, let h = s.1 in let l = le.0 in omega arith)

  -- the statements so far, and those in w, with a `;` behind them or not
  pub record StmtsFrom (found : List Stmt) (h : ℕ) (b : Room) (y : Tall (List Stmt)) (w : List Word) : Type 0 where
    pub items : List Stmt
    pub tall : ℕ
    pub text : List Word
    pub last : List Word
    pub value : y ≡ (found ++ items, max h tall)
    pub row : IsStmts form b.1 tall items text
    pub may : MayBe t.semicolon last
    pub both : w ≡ text ++ last
    pub fits : tall ≤ b.0

  stmts_end : (found : List Stmt) (h : ℕ) (b : Room) (x : Tall Stmt) (u c : List Word) → StmtIn form b x u → MayBe t.semicolon c → StmtsFrom found h b (found ++ x.0 ∷ [], max h x.1) (u ++ c)
  stmts_end found h b x u c s may = record { items = x.0 ∷ []; tall = x.1; text = u; last = c; value = refl; row = one_stmt x.1 x.0 u s.0; may = may; both = refl; fits = s.1 }

  stmts_more : (found : List Stmt) (h : ℕ) (b : Room) (x : Tall Stmt) (y : Tall (List Stmt)) (u v : List Word) (s : Word) → StmtIn form b x u → s.kind ≡ t.semicolon → StmtsFrom (found ++ x.0 ∷ []) (max h x.1) b y v → StmtsFrom found h b y (u ++ s ∷ v)
  stmts_more found h b x y u v s i e r =
      let m : max (max h x.1) r.tall ≡ max h (max x.1 r.tall) = omega arith in
      let low = i.1 in
      let low' = r.fits in
      record {
        items = x.0 ∷ r.items;
        tall = max x.1 r.tall;
        text = u ++ s ∷ r.text;
        last = r.last;
        value = r.value ∙ rw (append_assoc, m) refl;
        row = more_stmts s x.1 r.tall x.0 r.items u r.text i.0 e r.row;
        may = r.may;
        both = rw (append_assoc, r.both) refl;
        fits = omega arith;
      }

  list_is : (b : Room) (y : Tall (List Stmt)) (w : List Word) → StmtsFrom [] 0 b y w → ListIn b y w
  list_is b y w r = let m : max 0 r.tall ≡ r.tall = omega arith in rw (r.both, r.value, m) (stmts r.tall r.items r.text r.last r.row r.may, r.fits)

  -- a statement that is followed by a token, in a list of any height
  far_from : (found : List Stmt) (h : ℕ) (b : Room) (x : Tall Stmt) (u : List Word) → Loose form b x u → (s : Word) → s.kind ≡ t.semicolon → StmtsFrom found h (b.0 + x.1, b.1) (found ++ x.0 ∷ [], max h x.1) (u ++ s ∷ [])
  far_from found h b x u i s e = stmts_end found h (b.0 + x.1, b.1) x u (s ∷ []) (i.0, omega arith) (e, refl)

  abbrev pub Clause : Bool → TokenKind → Type 0
  Clause clause k = ends_list clause (Some k) ≡ true

  ends_not_semicolon : (clause : Bool) (o : Option TokenKind) → is o t.semicolon ≡ true → ends_list clause o ≡ false
  unfolding ends_list
  ends_not_semicolon false o e = let s = is_is o t.semicolon e in rw s refl
  ends_not_semicolon true o e = let s = is_is o t.semicolon e in rw s refl

  some_kind_of : (ts : List Word) (clause : Bool) → (is (kind_of ts) t.semicolon || ends_list clause (kind_of ts)) ≡ true → kind_of ts ≢ None
  unfolding ends_list
  some_kind_of [] false e = absurd cc
  some_kind_of [] true e = absurd cc
  some_kind_of (s ∷ ss) clause e = λ n. absurd cc

  -- where a statement is too high there is a target alone, and `++` makes it one that isn't
  some_target : Target → Option Target
  some_target g = Some g

  same_target : (o : Option Target) (g g' : Target) → o ≡ Some g → o ≡ Some g' → g ≡ g'
  same_target o g g' e f = cc

  raised_in : (b : Room) (w : List Word) (g : Target) → IsTarget 0 g w → 1 ≤ b.0 → StmtIn form b (stmt_node (target_start g) (a_word t.increment).span.end (statement.Up g), 1) (w ++ a_word t.increment ∷ [])
  raised_in b w g i some = (simple 1 (stmt_node (target_start g) (a_word t.increment).span.end (statement.Up g)) (w ++ a_word t.increment ∷ []) (raised (a_word t.increment) g w i refl), some)

  no_target : (o : Option Target) (g : Target) → o ≡ Some g → o ≡ None → ⊥
  no_target o g e f = cc

  -- a statement that is too high is a target alone where there is a level for `++`
  target_at : (c : Room) (x : Tall Stmt) (u : List Word) (g : Target) → target_in x.0 ≡ Some g → (((x.1 ≤ c.0) ⊎ IsBare c x.0 u) ⊎ Opens form x.0 u) → c.0 < x.1 → IsTarget 0 g u
  target_at c x u g e (inl (inl le)) lt = absurd (omega arith)
  target_at c x u g e (inl (inr i)) lt = let s : i.target ≡ g = same_target (target_in x.0) i.target g i.is e in subst (λ (z : Target). IsTarget 0 z u) s i.spells
  target_at c x u g e (inr i) lt = i.target g e

  -- or else a counter begins as it
  opens_at : (c : Room) (x : Tall Stmt) (u : List Word) → ((1 ≤ c.0) → target_in x.0 ≡ None) → (((x.1 ≤ c.0) ⊎ IsBare c x.0 u) ⊎ Opens form x.0 u) → c.0 < x.1 → Opens form x.0 u
  opens_at c x u none (inl (inl le)) lt = absurd (omega arith)
  opens_at c x u none (inl (inr i)) lt = absurd (no_target (target_in x.0) i.target i.is (none i.some))
  opens_at c x u none (inr i) lt = i

  some_part : List Pattern × ℕ → Option (List Pattern × ℕ)
  some_part p = Some p

  same_part : (o : Option (List Pattern × ℕ)) (p q : List Pattern × ℕ) → o ≡ some_part p → o ≡ some_part q → p ≡ q
  unfolding some_part
  same_part o p q e f = cc

  no_part : (o : Option (List Pattern × ℕ)) (p : List Pattern × ℕ) → o ≡ Some p → o ≡ None → ⊥
  no_part o p e f = cc

  rest_counts : (z : Stmt) (u : List Word) (i : Opens form z u) (ps : List Pattern) (k : ℕ) → i.rest ≡ ps → i.unit ≡ k → (m : ℕ) → IsStmt form m 0 (stmt_node (stmt_start z) (end_of 0 (fit_words ps)) (statement.Count k)) (u ++ fit_words ps)
  rest_counts z u i ps k e f m = subst (λ (j : ℕ). IsStmt form m 0 (stmt_node (stmt_start z) (end_of 0 (fit_words ps)) (statement.Count j)) (u ++ fit_words ps)) f (i.counts (fit_words ps) (subst (λ (qs : List Pattern). AllFit qs (fit_words ps)) (sym e) (all_words ps)) m)

  -- the rest of the counter completes it
  filled_counter : (found : List Stmt) (h : ℕ) (c : Room) (x : Tall Stmt) → c.0 < x.1 → ((1 ≤ c.0) → target_in x.0 ≡ None) → (o : Option (List Pattern × ℕ)) → part_in form x.0 ≡ o → Filled c (Rest (Loose form) (StmtsFrom found h) x)
  unfolding some_part
  filled_counter found h c x lt none None f = ((found, h), [], λ u iu. let i = opens_at c x u none iu.1 lt in absurd (no_part (part_in form x.0) (i.rest, i.unit) i.part f))
  filled_counter found h c x lt none (Some p) f =
      let v = fit_words p.0 in
      let y = stmt_node (stmt_start x.0) (end_of 0 v) (statement.Count p.1) in (
        (found ++ y ∷ [], max h 0),
        v,
        λ u iu.
            let i = opens_at c x u none iu.1 lt in
            let e : (i.rest, i.unit) ≡ p = same_part (part_in form x.0) (i.rest, i.unit) p i.part f in
            let s : IsStmt form c.1 0 y (u ++ v) = rest_counts x.0 u i p.0 p.1 (ap (λ (z : List Pattern × ℕ). z.0) e) (ap (λ (z : List Pattern × ℕ). z.1) e) c.1 in
            rw (sym (append-nil (u ++ v))) (stmts_end found h c (y, 0) (u ++ v) [] (s, omega arith) tt),
      )

  filled_high : (found : List Stmt) (h : ℕ) (c : Room) (x : Tall Stmt) → c.0 < x.1 → (b : Bool) → nat_le 1 c.0 ≡ b → (o : Option Target) → target_in x.0 ≡ o → Filled c (Rest (Loose form) (StmtsFrom found h) x)
  filled_high found h c x lt true e (Some g) f =
      let y = stmt_node (target_start g) (a_word t.increment).span.end (statement.Up g) in (
        (found ++ y ∷ [], max h 1),
        a_word t.increment ∷ [],
        λ u iu. rw (sym (append-nil (u ++ a_word t.increment ∷ []))) (stmts_end found h c (y, 1) (u ++ a_word t.increment ∷ []) [] (raised_in c u g (target_at c x u g f iu.1 lt) (leb-true 1 c.0 e)) tt),
      )
  filled_high found h c x lt true e None f = filled_counter found h c x lt (λ _. f) (part_in form x.0) refl
  filled_high found h c x lt false e o f = let z = leb-false 1 c.0 e in filled_counter found h c x lt (λ l. absurd (omega arith)) (part_in form x.0) refl

  -- behind a loose statement a list can go on
  filled_by : (found : List Stmt) (h : ℕ) (c : Room) (x : Tall Stmt) (b : Bool) → nat_le x.1 c.0 ≡ b → Filled c (Rest (Loose form) (StmtsFrom found h) x)
  filled_by found h c x true e = ((found ++ x.0 ∷ [], max h x.1), [], λ u iu. stmts_end found h c x u [] (iu.0, leb-true x.1 c.0 e) tt)
  filled_by found h c x false e = filled_high found h c x (leb-false x.1 c.0 e) (nat_le 1 c.0) refl (target_in x.0) refl

  filled_from : (found : List Stmt) (h : ℕ) (c : Room) (x : Tall Stmt) → Filled c (Rest (Loose form) (StmtsFrom found h) x)
  filled_from found h c x = filled_by found h c x (nat_le x.1 c.0) refl

  -- ---- statements, and what closes their list

  next_eq_at : {B : Type 0} (b : Bool) (y : Tall (List Stmt)) (again : Reader (Tall (List Stmt))) (close : Tall (List Stmt) → Reader B) (clause : Bool) (ts : List Word)
      → ((cond b (take_span >> (peek >>= λ kind. if ends_list clause kind then pure y else again)) (pure y)) >>= close) ts ≡ (cond b (take_span >>= λ _. (peek >>= λ kind. if ends_list clause kind then close y else (again >>= close))) (close y)) ts
  unfolding take_as
  next_eq_at true y again close clause ts = if_bind (ends_list clause (kind_of (next ts))) (pure y) again close (next ts)
  next_eq_at false y again close clause ts = refl

  -- what stands behind a statement of a list, and what closes the list
  behind_eq : {B : Type 0} (b full : Bool) (c : ℕ) (h : ℕ) (next : Reader (Tall (List Stmt))) (close : Tall (List Stmt) → Reader B) (ts : List Word)
      → ((cond b (peek >>= λ kind. if full && begins_clause kind then fail TooMany else limited c h next) refuse) >>= close) ts ≡ (cond b (peek >>= λ kind. if full && begins_clause kind then fail TooMany else limited c h (next >>= close)) refuse) ts
  behind_eq true full c h next close ts = by (full && begins_clause (kind_of ts))
    where
      by : (f : Bool) → ((cond f (fail TooMany) (limited c h next)) >>= close) ts ≡ (cond f (fail TooMany) (limited c h (next >>= close))) ts
      by true = refl
      by false = limited_bind (nat_lt c h) next close ts
  behind_eq false full c h next close ts = refl

  module _ {B : Type 0} (clause : Bool) (Close : Tall (List Stmt) → Form B) where
    -- the statements so far, and those in w, and what closes them
    pub record BodyFrom (found : List Stmt) (h : ℕ) (b : Room) (z : B) (w : List Word) : Type 0 where
      pub y : Tall (List Stmt)
      pub front : List Word
      pub back : List Word
      pub from : StmtsFrom found h b y front
      pub both : w ≡ front ++ back
      pub closes : Close y b z back

    module _ (K : Fault → Type 0) (never : K Exhausted → ⊥) (n n' : ℕ) (d d' : Room) (led : d ⊑ d') (deep : K TooDeep → d.0 ≡ d'.0) (some : least form ≤ d.0) (st st' : Reader (Tall Stmt)) (stmt_good : (ts : List Word) → Good n d K (Loose form) st st' ts)
        (full full' : Bool) (flags : Flags K full full') (Nc : ℕ) (close close' : Tall (List Stmt) → Reader B) (rises : (y : Tall (List Stmt)) → Rises (Close y))
        (close_good : (y : Tall (List Stmt)) (r : List Word) → ends_list clause (kind_of r) ≡ true → Good Nc d K (Close y) (close y) (close' y) r)
        (close_far : (y : Tall (List Stmt)) (a : Word) → ends_list clause (Some a.kind) ≡ true → (full && begins_clause (Some a.kind)) ≡ false → (k : ℕ) × (z : B) × (w : List Word) × (d.0 ≤ k) × Close y (k, d.1) z (a ∷ w))
        (close_many : (y : Tall (List Stmt)) (a : Word) → full ≡ true → begins_clause (Some a.kind) ≡ true → (b : Room) × (z : B) × (w : List Word) × (d ⊑ b) × Close y b z (a ∷ w))
        (close_some : (y : Tall (List Stmt)) (c : Room) → d ⊑ c → Filled c (Close y)) where
      body_filled : (found : List Stmt) (h : ℕ) (c : Room) → d ⊑ c → (x : Tall Stmt) → Filled c (Rest (Loose form) (BodyFrom found h) x)
      body_filled found h c dc x =
          let g = filled_from found h c x in
          let e = close_some g.0 c dc in
          (e.0, g.1 ++ e.1, λ u iu. record { y = g.0; front = u ++ g.1; back = e.1; from = g.2 u iu; both = sym (append_assoc u g.1 e.1); closes = e.2 })

      -- a token that ends the list, or goes on with it, in more room
      body_far : (found : List Stmt) (h : ℕ) (x : Tall Stmt) (a : Word) (o : Bool) → is (Some a.kind) t.semicolon ≡ o → (is (Some a.kind) t.semicolon || ends_list clause (Some a.kind)) ≡ true → (full && begins_clause (Some a.kind)) ≡ false
          → (k : ℕ) × (z : B) × (w : List Word) × (d.0 ≤ k) × Rest (Loose form) (BodyFrom found h) x (k, d.1) z (a ∷ w)
      body_far found h x a true e test few =
          let y : Tall (List Stmt) = (found ++ x.0 ∷ [], max h x.1) in
          let k = d.0 + x.1 in
          let g = close_some y (k, d.1) (omega arith, omega arith) in
          (k, g.0, g.1, omega arith, λ u iu. record { y = y; front = u ++ a ∷ []; back = g.1; from = stmts_end found h (k, d.1) x u (a ∷ []) (iu.0, omega arith) (some_is a.kind t.semicolon (is_is (Some a.kind) t.semicolon e), refl); both = sym (append_assoc u (a ∷ []) g.1); closes = g.2 })
      body_far found h x a false e test few =
          let y : Tall (List Stmt) = (found ++ x.0 ∷ [], max h x.1) in
          let ends : ends_list clause (Some a.kind) ≡ true = or_second (is (Some a.kind) t.semicolon) (ends_list clause (Some a.kind)) e test in
          let g = close_far y a ends few in
          let k = g.0 + x.1 in
          let l = g.3 in
          (k, g.1, g.2, omega arith, λ u iu. record { y = y; front = u ++ []; back = a ∷ g.2; from = stmts_end found h (k, d.1) x u [] (iu.0, omega arith) tt; both = rw append-nil refl; closes = rises y (g.0, d.1) (k, d.1) (omega arith, omega arith) g.1 (a ∷ g.2) g.4 })

      -- a clause that may not come, in room for it
      body_many : (found : List Stmt) (h : ℕ) (x : Tall Stmt) (a : Word) → full ≡ true → begins_clause (Some a.kind) ≡ true → (b : Room) × (z : B) × (w : List Word) × (d ⊑ b) × Rest (Loose form) (BodyFrom found h) x b z (a ∷ w)
      body_many found h x a all begins =
          let y : Tall (List Stmt) = (found ++ x.0 ∷ [], max h x.1) in
          let g = close_many y a all begins in
          let b : Room = (g.0.0 + x.1, g.0.1) in
          let l = g.3 in
          (b, g.1, g.2, (let l0 = l.0 in omega arith, l.1), λ u iu. record { y = y; front = u ++ []; back = a ∷ g.2; from = stmts_end found h b x u [] (iu.0, omega arith) tt; both = rw append-nil refl; closes = rises y g.0 b (omega arith, omega arith) g.1 (a ∷ g.2) g.4 })

      next_good : (M : ℕ) → M ≤ Nc → (found : List Stmt) (h : ℕ) (x : Tall Stmt) → x.1 ≤ d.0 → (again again' : Reader (Tall (List Stmt))) (r : List Word) → (is (kind_of r) t.semicolon || ends_list clause (kind_of r)) ≡ true
          → ((ts : List Word) → Good (M - 1) d K (BodyFrom (found ++ x.0 ∷ []) (max h x.1)) (again >>= close) (again' >>= close') ts)
          → Good M d K (Rest (Loose form) (BodyFrom found h) x) (next_from n d.0 st clause (found ++ x.0 ∷ []) (max h x.1) again >>= close) (next_from n' d'.0 st' clause (found ++ x.0 ∷ []) (max h x.1) again' >>= close') r
      unfolding next_from
      next_good M le found h x low again again' r test more =
          let y : Tall (List Stmt) = (found ++ x.0 ∷ [], max h x.1) in
          good_eq M d K (Rest (Loose form) (BodyFrom found h) x)
          (peek >>= if_kind t.semicolon (take_span >>= λ _. (peek >>= λ kind. if ends_list clause kind then close y else (again >>= close))) (close y)) (next_from n d.0 st clause (found ++ x.0 ∷ []) (max h x.1) again >>= close)
          (peek >>= if_kind t.semicolon (take_span >>= λ _. (peek >>= λ kind. if ends_list clause kind then close' y else (again' >>= close'))) (close' y)) (next_from n' d'.0 st' clause (found ++ x.0 ∷ []) (max h x.1) again' >>= close') r
          (next_eq_at (is (kind_of r) t.semicolon) y again close clause r) (λ r'. next_eq_at (is (kind_of r') t.semicolon) y again' close' clause r')
          (choice M d K _ t.semicolon _ _ _ _ r
          (λ here. take_then M (M - 1) d K _ t.semicolon span_of _ _ r (omega arith) here (λ sp r2.
          by_test (M - 1) d K _ (ends_list clause) _ _ _ _ r2
          (λ over. weaker (M - 1) d K (Close y) _ _ _ _ _ (λ b db z w c v iv u iu. rw iv.1 (record { y = y; front = u ++ iv.0 ∷ []; back = w; from = stmts_end found h b x u (iv.0 ∷ []) (iu.0, let l = db.0 in omega arith) (iv.2, refl); both = sym (append_assoc u (iv.0 ∷ []) w); closes = c })) (fewer Nc (M - 1) d K _ _ _ _ _ (omega arith) (close_good y r2 over)))
          (λ other. weaker (M - 1) d K (BodyFrom (found ++ x.0 ∷ []) (max h x.1)) _ _ _ _ _ (λ b db z w a v iv u iu. rw iv.1 (record { y = a.y; front = u ++ iv.0 ∷ a.front; back = a.back; from = stmts_more found h b x a.y u a.front iv.0 (iu.0, let l = db.0 in omega arith) iv.2 a.from; both = rw (append_assoc, a.both) refl; closes = a.closes })) (more r2))))
          (λ other. weaker M d K (Close y) _ _ _ _ _ (λ b db z w c u iu. record { y = y; front = u ++ []; back = w; from = stmts_end found h b x u [] (iu.0, let l = db.0 in omega arith) tt; both = rw append-nil refl; closes = c }) (fewer Nc M d K _ _ _ _ _ le (close_good y r (or_second (is (kind_of r) t.semicolon) (ends_list clause (kind_of r)) other test)))))

      behind : (m c : ℕ) (u : Reader (Tall Stmt)) → Bool → List Stmt → ℕ → Reader (Tall (List Stmt)) → (Tall (List Stmt) → Reader B) → Tall Stmt → Reader B
      behind m c u full found h again close x = peek >>= λ kind. if is kind t.semicolon || ends_list clause kind then (peek >>= λ kind. if full && begins_clause kind then fail TooMany else limited c x.1 (next_from m c u clause (found ++ x.0 ∷ []) (max h x.1) again >>= close)) else refuse

      behind_good : (M : ℕ) → M ≤ Nc → (found : List Stmt) (h : ℕ) (x : Tall Stmt) (again again' : Reader (Tall (List Stmt))) (r : List Word)
          → ((ts : List Word) → Good (M - 1) d K (BodyFrom (found ++ x.0 ∷ []) (max h x.1)) (again >>= close) (again' >>= close') ts)
          → Good M d K (Rest (Loose form) (BodyFrom found h) x) (behind n d.0 st full found h again close x) (behind n' d'.0 st' full' found h again' close' x) r
      unfolding behind
      behind_good M le found h x again again' r more = by_test M d K _ (λ kind. is kind t.semicolon || ends_list clause kind) _ _ _ _ r
          (λ test. good_full M K _ d full full' flags _ _ r (λ c dc. body_filled found h c dc x)
          (λ all a ea begins. body_many found h x a all begins)
          (λ few. good_far M K _ d d' x.1 _ _ r led deep (some_kind_of r clause test) (λ c dc. body_filled found h c dc x)
          (λ a ea.
          let same' : (is (Some a.kind) t.semicolon || ends_list clause (Some a.kind)) ≡ true = ap (λ (o : Option TokenKind). is o t.semicolon || ends_list clause o) ea ∙ test in
          let few' : (full && begins_clause (Some a.kind)) ≡ false = ap (λ (o : Option TokenKind). full && begins_clause o) ea ∙ few in
          body_far found h x a (is (Some a.kind) t.semicolon) refl same' few')
          (λ low. next_good M le found h x low again again' r test more)))
          (λ other. good_refuse M d K _ r (λ c dc. body_filled found h c dc x))

      step : (m c : ℕ) (u : Reader (Tall Stmt)) (full : Bool) (k : ℕ) → List Stmt → ℕ → (Tall (List Stmt) → Reader B) → Tall Stmt → Reader B
      step m c u full k found h close x = behind m c u full found h (stmts_from m c u clause full k (found ++ x.0 ∷ []) (max h x.1)) close x

      step_eq : (m c : ℕ) (u : Reader (Tall Stmt)) (full : Bool) (k : ℕ) (found : List Stmt) (h : ℕ) (close : Tall (List Stmt) → Reader B) (ts : List Word) → (stmts_from m c u clause full (suc k) found h >>= close) ts ≡ (u >>= step m c u full k found h close) ts
      unfolding stmts_from step behind
      step_eq m c u full k found h close ts =
          let g : Tall Stmt → Reader (Tall (List Stmt)) = λ x. peek >>= (λ kind. if is kind t.semicolon || ends_list clause kind then (peek >>= λ kind. if full && begins_clause kind then fail TooMany else limited c x.1 (next_from m c u clause (found ++ x.0 ∷ []) (max h x.1) (stmts_from m c u clause full k (found ++ x.0 ∷ []) (max h x.1)))) else refuse) in
          bind_assoc (u ts).0 (u ts).1 g close
          ∙ go_on_eq (u ts).0 (u ts).1 (λ x. g x >>= close) (step m c u full k found h close) (λ x r. behind_eq (is (kind_of r) t.semicolon || ends_list clause (kind_of r)) full c x.1 (next_from m c u clause (found ++ x.0 ∷ []) (max h x.1) (stmts_from m c u clause full k (found ++ x.0 ∷ []) (max h x.1))) close r)

      none_left : (k' M : ℕ) → M ≤ 0 → (found : List Stmt) (h : ℕ) (ts : List Word) → Good M d K (BodyFrom found h) (stmts_from n d.0 st clause full zero found h >>= close) (stmts_from n' d'.0 st' clause full' k' found h >>= close') ts
      unfolding stmts_from
      none_left k' M mk found h ts = fewer 0 M d K _ _ _ _ _ mk (good_exhausted d K (BodyFrom found h) _ ts never (λ c dc.
          let l = (stmt_good ts).filled c dc in
          let g = body_filled found h c dc l.0 in
          (g.0, l.1 ++ g.1, g.2 l.1 l.2)))

      stmts_then_good : (k k' M : ℕ) → M ≤ k → k ≤ n → k ≤ k' → M ≤ Nc → (found : List Stmt) (h : ℕ) (ts : List Word)
          → Good M d K (BodyFrom found h) (stmts_from n d.0 st clause full k found h >>= close) (stmts_from n' d'.0 st' clause full' k' found h >>= close') ts
      unfolding step
      stmts_then_good zero k' M mk kn kk mc found h ts = none_left k' M mk found h ts
      stmts_then_good (suc k) zero M mk kn kk mc found h ts = absurd (omega arith)
      stmts_then_good (suc k) (suc k') M mk kn kk mc found h ts =
          good_eq M d K (BodyFrom found h)
          (st >>= step n d.0 st full k found h close) (stmts_from n d.0 st clause full (suc k) found h >>= close)
          (st' >>= step n' d'.0 st' full' k' found h close') (stmts_from n' d'.0 st' clause full' (suc k') found h >>= close') ts
          (step_eq n d.0 st full k found h close ts) (λ r. step_eq n' d'.0 st' full' k' found h close' r)
          (seq M d K (Loose form) (BodyFrom found h) st' _ _ ts _ _ (loose_rises form) (fewer n M d K _ _ _ _ _ (omega arith) (stmt_good ts)) (λ x _ r.
          behind_good M mc found h x (stmts_from n d.0 st clause full k (found ++ x.0 ∷ []) (max h x.1)) (stmts_from n' d'.0 st' clause full' k' (found ++ x.0 ∷ []) (max h x.1)) r
          (λ ts'. stmts_then_good k k' (M - 1) (omega arith) (omega arith) (omega arith) (omega arith) (found ++ x.0 ∷ []) (max h x.1) ts')))

  -- ---- a list, and what closes it

  list_eq : {B : Type 0} (n c : ℕ) (u : Reader (Tall Stmt)) (clause full : Bool) (close : Tall (List Stmt) → Reader B) (ts : List Word)
      → (list form n c u clause full >>= close) ts ≡ (peek >>= λ kind. if ends_list clause kind then close ([], 0) else (peek >>= λ kind. if begins_stmt kind then limited c (least form) (stmts_from n c u clause full n [] 0 >>= close) else refuse)) ts
  unfolding list
  list_eq n c u clause full close ts = ends (ends_list clause (kind_of ts))
    where
      starts_at : (b : Bool) → ((cond b (limited c (least form) (stmts_from n c u clause full n [] 0)) refuse) >>= close) ts ≡ (cond b (limited c (least form) (stmts_from n c u clause full n [] 0 >>= close)) refuse) ts
      starts_at true = limited_bind (nat_lt c (least form)) (stmts_from n c u clause full n [] 0) close ts
      starts_at false = refl

      ends : (b : Bool) → ((cond b (pure ([], 0)) (peek >>= λ kind. if begins_stmt kind then limited c (least form) (stmts_from n c u clause full n [] 0) else refuse)) >>= close) ts
          ≡ (cond b (close ([], 0)) (peek >>= λ kind. if begins_stmt kind then limited c (least form) (stmts_from n c u clause full n [] 0 >>= close) else refuse)) ts
      ends true = refl
      ends false = starts_at (begins_stmt (kind_of ts))

  module _ {B : Type 0} (clause : Bool) (Close : Tall (List Stmt) → Form B) where
    -- a list in the room, and what closes it
    pub record BodyOf (b : Room) (z : B) (w : List Word) : Type 0 where
      pub y : Tall (List Stmt)
      pub front : List Word
      pub back : List Word
      pub from : ListIn b y front
      pub both : w ≡ front ++ back
      pub closes : Close y b z back

    pub body_of : (b : Room) (z : B) (w : List Word) → BodyFrom clause Close [] 0 b z w → BodyOf b z w
    body_of b z w a = record { y = a.y; front = a.front; back = a.back; from = list_is b a.y a.front a.from; both = a.both; closes = a.closes }

    module _ (K : Fault → Type 0) (never : K Exhausted → ⊥) (n n' : ℕ) (len : n ≤ n') (d d' : Room) (led : d ⊑ d') (deep : K TooDeep → d.0 ≡ d'.0) (st st' : Reader (Tall Stmt)) (stmt_good : least form ≤ d.0 → (ts : List Word) → Good n d K (Loose form) st st' ts)
        (started_all : (a : Word) → begins_stmt (Some a.kind) ≡ true → StartsStmt form a)
        (full full' : Bool) (flags : Flags K full full') (Nc : ℕ) (fewer_turns : Nc ≤ n) (close close' : Tall (List Stmt) → Reader B) (rises : (y : Tall (List Stmt)) → Rises (Close y))
        (close_good : (y : Tall (List Stmt)) (r : List Word) → ends_list clause (kind_of r) ≡ true → Good Nc d K (Close y) (close y) (close' y) r)
        (close_far : (y : Tall (List Stmt)) (a : Word) → ends_list clause (Some a.kind) ≡ true → (full && begins_clause (Some a.kind)) ≡ false → (k : ℕ) × (z : B) × (w : List Word) × (d.0 ≤ k) × Close y (k, d.1) z (a ∷ w))
        (close_many : (y : Tall (List Stmt)) (a : Word) → full ≡ true → begins_clause (Some a.kind) ≡ true → (b : Room) × (z : B) × (w : List Word) × (d ⊑ b) × Close y b z (a ∷ w))
        (close_some : (y : Tall (List Stmt)) (c : Room) → d ⊑ c → Filled c (Close y)) where
      empty_body : (c : Room) → d ⊑ c → Filled c BodyOf
      empty_body c dc = let e = close_some ([], 0) c dc in (e.0, e.1, record { y = ([], 0); front = []; back = e.1; from = (no_stmts, omega arith); both = refl; closes = e.2 })

      started_body : (a : Word) → StartsStmt form a → (k : ℕ) × (z : B) × (w : List Word) × (d.0 ≤ k) × BodyOf (k, d.1) z (a ∷ w)
      started_body a x =
          let k = d.0 + x.0.1 in
          let y : Tall (List Stmt) = (x.0.0 ∷ [], x.0.1) in
          let e = close_some y (k, d.1) (omega arith, omega arith) in
          (k, e.0, x.1 ++ e.1, omega arith, record { y = y; front = a ∷ x.1; back = e.1; from = (subst (IsList form d.1 x.0.1 (x.0.0 ∷ [])) (append-nil (a ∷ x.1)) (stmts x.0.1 (x.0.0 ∷ []) (a ∷ x.1) [] (one_stmt x.0.1 x.0.0 (a ∷ x.1) (x.2 d.1)) tt), omega arith); both = refl; closes = e.2 })

      some_start : (o : Option TokenKind) → begins_stmt o ≡ true → o ≢ None
      unfolding begins_stmt begins
      some_start None b n = absurd cc
      some_start (Some k) b n = cc

      pub list_then_good : (ts : List Word) → Good Nc d K BodyOf (list form n d.0 st clause full >>= close) (list form n' d'.0 st' clause full' >>= close') ts
      list_then_good ts =
          good_eq Nc d K BodyOf
          (peek >>= λ kind. if ends_list clause kind then close ([], 0) else (peek >>= λ kind. if begins_stmt kind then limited d.0 (least form) (stmts_from n d.0 st clause full n [] 0 >>= close) else refuse)) (list form n d.0 st clause full >>= close)
          (peek >>= λ kind. if ends_list clause kind then close' ([], 0) else (peek >>= λ kind. if begins_stmt kind then limited d'.0 (least form) (stmts_from n' d'.0 st' clause full' n' [] 0 >>= close') else refuse)) (list form n' d'.0 st' clause full' >>= close') ts
          (list_eq n d.0 st clause full close ts) (λ r. list_eq n' d'.0 st' clause full' close' r)
          (by_test Nc d K BodyOf (ends_list clause) _ _ _ _ ts
          (λ over. weaker Nc d K (Close ([], 0)) BodyOf _ _ _ _ (λ b db z w c. record { y = ([], 0); front = []; back = w; from = (no_stmts, omega arith); both = refl; closes = c }) (close_good ([], 0) ts over))
          (λ other. by_test Nc d K BodyOf begins_stmt _ _ _ _ ts
          (λ here. good_far Nc K BodyOf d d' (least form) _ _ ts led deep (some_start (kind_of ts) here) empty_body
          (λ a ea. started_body a (started_all a (ap begins_stmt ea ∙ here)))
          (λ some. weaker Nc d K (BodyFrom clause Close [] 0) BodyOf _ _ _ _ (λ b db. body_of b)
          (stmts_then_good clause Close K never n n' d d' led deep some st st' (stmt_good some) full full' flags Nc close close' rises close_good close_far close_many close_some n n' Nc fewer_turns (omega arith) len (omega arith) [] 0 ts)))
          (λ there. good_refuse Nc d K BodyOf ts empty_body)))

  -- ---- blocks

  -- the brace that closes a block behind a list
  abbrev pub Braces : Span → Tall (List Stmt) → Form (Tall Braced)
  Braces left y b z w = (a : Word) × (w ≡ a ∷ []) × (a.kind ≡ t.right_brace) × (z ≡ (record { block = block_node left.start a.span.start y.0; end = a.span.end }, y.1 + 1))

  close_block : Span → Tall (List Stmt) → Reader (Tall Braced)
  close_block left xs = expect t.right_brace >>= λ right. pure (record { block = block_node left.start right.start xs.0; end = right.end }, xs.1 + 1)

  braces_rise : (left : Span) (y : Tall (List Stmt)) → Rises (Braces left y)
  braces_rise left y b c le z w s = s

  ends_block : (k : TokenKind) → ends_list false (Some k) ≡ true → k ≡ t.right_brace
  unfolding ends_list
  ends_block k e = same_is k t.right_brace e

  close_block_good : (N : ℕ) (d : Room) (K : Fault → Type 0) (left : Span) (y : Tall (List Stmt)) (r : List Word) → Good N d K (Braces left y) (close_block left y) (close_block left y) r
  unfolding close_block
  close_block_good N d K left y r = expect_then N d K _ t.right_brace span_of _ _ r (λ sp r2. good_pure N d K _ _ r2 (λ b db u iu. (iu.0, rw append-nil iu.1, iu.2, rw iu.3 refl)))

  block_close : Span → Tall (List Stmt) → Word → Tall Braced
  block_close left y a = (record { block = block_node left.start a.span.start y.0; end = a.span.end }, y.1 + 1)

  block_is : (b : Room) (left : Span) (z : Tall Braced) (u w : List Word) → IsTaken t.left_brace span_of b left u → BodyOf false (Braces left) b z w → BlockOf form (up b) z (u ++ w)
  block_is b left z u w iu body =
      let c = body.closes in
      let f' = body.from.1 in
      rw (iu.1, body.both, c.1, c.3, iu.3) (braces iu.0 c.0 body.y.1 body.y.0 body.front iu.2 body.from.0 c.2, omega arith)

  module _ (K : Fault → Type 0) (never : K Exhausted → ⊥) (n n' : ℕ) (len : n ≤ n') (d d' : Room) (led : d ⊑ d') (deep : K TooDeep → d.0 ≡ d'.0) (st st' : Reader (Tall Stmt)) (stmt_good : least form ≤ d.0 → (ts : List Word) → Good n d K (Loose form) st st' ts)
      (started_all : (a : Word) → begins_stmt (Some a.kind) ≡ true → StartsStmt form a) where
    pub block_in_good : (ts : List Word) → Good n d K (λ b. BlockOf form (up b)) (block_in form n d.0 st) (block_in form n' d'.0 st') ts
    unfolding block_in close_block block_close
    block_in_good ts = expect_then n d K _ t.left_brace span_of _ _ ts (λ left r.
        weaker n d K (BodyOf false (Braces left)) _ _ _ _ _ (λ b db z w a u iu. block_is b left z u w iu a)
        (list_then_good false (Braces left) K never n n' len d d' led deep st st' stmt_good started_all false false (never_full K) n (omega arith) (close_block left) (close_block left) (braces_rise left)
        (λ y r2 e. close_block_good n d K left y r2)
        (λ y a e few. (d.0, block_close left y a, [], omega arith, (a, refl, ends_block a.kind e, refl)))
        (λ y a all begins. absurd cc)
        (λ y c dc. (block_close left y (a_word t.right_brace), a_word t.right_brace ∷ [], (a_word t.right_brace, refl, refl, refl))) r))
