-- The statements that a counter begins as, where a token that ends statements is behind them.
use Rattle.std.proofs.Common.{◌≡◌, ℕ, ◌≤◌, ◌<◌, ◌^◌, Bool, true, false, List, [], ◌∷◌, ◌++◌, length, Option, Some, None, Ok, Err, refl, sym, ap, subst, ◌∙◌, arith, decimal}
use Rattle.go_ast.specs.declared.token.TokenKind.{TokenKind}
use Rattle.go_ast.specs.declared.token.TokenKind.TheVariants as kind
use Rattle.go_ast.specs.declared.expr.ExprForm.{out-ExprForm}
use Rattle.go_ast.specs.declared.block.Target.{Target}
use Rattle.go_ast.specs.declared.block.Stmt.{Stmt}
use Rattle.go_ast.specs.declared.block.StmtForm.{out-StmtForm}
use Rattle.go_ast.specs.declared.block.StmtForm.TheVariants as statement
use Rattle.go_grammar.specs.declared.form.CounterForm.{CounterForm}
use Rattle.go_grammar.specs.declared.form.CounterForm.TheVariants as counter_form
use Rattle.go_grammar.specs.Words.{Word}
use Rattle.go_grammar.specs.Terminals as t
use Rattle.go_grammar.specs.Patterns.{Pattern, any, Fits, AllFit}
use Rattle.go_grammar.specs.Covering.{number, counter}
use Rattle.go_grammar.specs.Trees.{name_of, stmt_node, expr_node}
use Rattle.go_grammar.specs.Simple.{IsTarget, IsSimple, evaluated}
use Rattle.go_grammar.specs.Blocks.{source, covered, last_end, IsStmt, simple, counted}
use Rattle.go_reading.specs.declared.fault.Fault.TheVariants.{Unexpected}
use Rattle.go_reading.specs.declared.qualified.Qualified.{Qualified}
use Rattle.go_reading.specs.Kinds.{is, begins, ends_list}
use Rattle.go_reading.specs.Types.{expr_of, target_of as target_of_qualified}
use Rattle.go_reading.specs.Simple.{eval_stmt}
use Rattle.go_reading.specs.Counters.{is_stop, before_index, behind_index, first_fit, index_of, alone_of}
use Rattle.go_reading.specs.Stmts.{plain_stmt, no_breakable, high, alone}
use Rattle.go_reading.specs.Input.{Outcome, Tall, kind_of}
use Rattle.go_reading.proofs.Good.{same_is}
use Rattle.go_reading.proofs.RowsRead.{is_other, kind_is}
use Rattle.go_reading.proofs.TypesGood.{IsQualified, alone as one_name, pair, expr_qualified, target_qualified}
use Rattle.go_reading.proofs.Ends.{Ends}
use Rattle.go_reading.proofs.StmtForms.{target_in, target_in_eval}
use Rattle.go_reading.proofs.FitGood.{end_of, index_complete, counter_parts, last_is, end_append}
use Rattle.go_reading.proofs.Opens.{Opens, part_in, stmt_start, behind_member, behind_bracket, ended_at}
use Rattle.go_reading.proofs.Stops.{stop_stops}
use Rattle.go_reading.proofs.PlainRead.{plain_read}
use Rattle.go_reading.proofs.BareGood.{unnamed_tail}
use Rattle.go_reading.proofs.Own.{no_value, tail_of, point_ends, open_ends, number_ends, call_ends, assign_ends, raise_ends, slot_expr, slot_is}

-- ---- a counter with its last tokens

end_any : (v : List Word) → 1 ≤ length v → (e e' : ℕ) → end_of e v ≡ end_of e' v
end_any [] some e e' = absurd (omega arith)
end_any (b ∷ v) some e e' = refl

module _ (var : List ℕ) (mode : CounterForm) (count : ℕ) where
  counted_to : (a : Word) (u v : List Word) (i : ℕ) → 1 ≤ length v → i < count → AllFit (counter var mode i) (a ∷ (u ++ v)) → (m : ℕ) → IsStmt (covered var mode count) m 0 (stmt_node a.span.start (end_of 0 v) (statement.Count i)) (a ∷ (u ++ v))
  counted_to a u v i some lt f m =
      let e : last_end a (u ++ v) ≡ end_of 0 v = last_is a (u ++ v) ∙ end_append a.span.end u v ∙ end_any v some (end_of a.span.end u) 0 in
      subst (λ (j : ℕ). IsStmt (covered var mode count) m 0 (stmt_node a.span.start j (statement.Count i)) (a ∷ (u ++ v))) e (counted a var mode count i (u ++ v) refl lt f)

fit_some : (p : Pattern) (ps : List Pattern) (v : List Word) → AllFit (p ∷ ps) v → 1 ≤ length v
fit_some p ps [] f = absurd f
fit_some p ps (b ∷ v) f = omega arith

fit_behind : (ps qs : List Pattern) (p : Pattern) (v : List Word) → AllFit (ps ++ p ∷ qs) v → 1 ≤ length v
fit_behind [] qs p v f = fit_some p qs v f
fit_behind (o ∷ ps) qs p v f = fit_some o (ps ++ p ∷ qs) v f

-- ---- the trees

start_of : (q : Qualified) → stmt_start (eval_stmt (expr_of q)) ≡ q.name.at
unfolding stmt_node expr_node
start_of q = refl

slot_start : (a b i k : Word) → stmt_start (eval_stmt (slot_expr a b i k)) ≡ a.span.start
unfolding stmt_node expr_node
slot_start a b i k = refl

plain_part : (var : List ℕ) (mode : CounterForm) (count : ℕ) (a : Word) → part_in (covered var mode count) (eval_stmt (expr_of (record { name = name_of a; member = None; end = a.span.end }))) ≡ Some (before_index var mode ++ number 0 ∷ behind_index mode, 0)
unfolding part_in stmt_node expr_node out-StmtForm out-ExprForm denote.Hole.Carrier.out
plain_part var mode count a = refl

member_part : (var : List ℕ) (mode : CounterForm) (count : ℕ) (a b : Word) → part_in (covered var mode count) (eval_stmt (expr_of (record { name = name_of a; member = Some (name_of b); end = b.span.end }))) ≡ Some (behind_member var mode ++ number 0 ∷ behind_index mode, 0)
unfolding part_in stmt_node expr_node out-StmtForm out-ExprForm denote.Hole.Carrier.out
member_part var mode count a b = refl

slot_part : (var : List ℕ) (mode : CounterForm) (count : ℕ) (a b i k : Word) (j : ℕ) → index_of count i.bytes ≡ Some j → part_in (covered var mode count) (eval_stmt (slot_expr a b i k)) ≡ Some (behind_bracket mode, j)
unfolding part_in stmt_node expr_node out-StmtForm out-ExprForm denote.Hole.Carrier.out Rattle.go_ast.specs.declared.expr.ExprForm.TheBlock.shown-the_row-Expr-0 denote.Hole.Carrier.shown denote.Hole.Carrier.hidden
slot_part var mode count a b i k j e = ap (ended_at mode) e

slot_target : (a b i k : Word) → target_in (eval_stmt (slot_expr a b i k)) ≡ None
unfolding target_in stmt_node expr_node out-StmtForm out-ExprForm denote.Hole.Carrier.out
slot_target a b i k = refl

-- ---- what begins as they do

some_of : Target → Option Target
some_of g = Some g

same_of : (g h : Target) → some_of g ≡ some_of h → g ≡ h
unfolding some_of
same_of g h e = cc

module _ (var : List ℕ) (mode : CounterForm) (count : ℕ) (some : 0 < count) (small : count ≤ 2 ^ 32) where
  target_of' : (q : Qualified) (u : List Word) → IsQualified q u → (g : Target) → target_in (eval_stmt (expr_of q)) ≡ Some g → IsTarget 0 g u
  unfolding some_of
  target_of' q u iu g e = subst (λ (z : Target). IsTarget 0 z u) (same_of (target_of_qualified q) g (sym (target_in_eval q) ∙ e)) (target_qualified q u iu)

  first_of : (a : Word) (u : List Word) (i : ℕ) → AllFit (counter var mode i) (a ∷ u) → Fits (first_fit var mode) a
  first_of a u i f = by (subst (λ (ps : List Pattern). AllFit ps (a ∷ u)) (counter_parts var mode i) f)
    where
      by : AllFit (first_fit var mode ∷ (before_index var mode ++ number i ∷ behind_index mode)) (a ∷ u) → Fits (first_fit var mode) a
      by g = g.0

  one_opens : (a : Word) (u : List Word) (i : ℕ) → a.kind ≡ kind.Name → AllFit (counter var mode i) (a ∷ u) → Opens (covered var mode count) (eval_stmt (expr_of (record { name = name_of a; member = None; end = a.span.end }))) (a ∷ [])
  one_opens a u i ka f =
      let q : Qualified = record { name = name_of a; member = None; end = a.span.end } in
      record {
        rest = before_index var mode ++ number 0 ∷ behind_index mode;
        unit = 0;
        part = plain_part var mode count a;
        counts = λ v fv m. rw (start_of q) (counted_to var mode count a [] v 0 (fit_behind (before_index var mode) (behind_index mode) (number 0) v fv) some (rw (counter_parts var mode 0) (first_of a u i f, fv)) m);
        target = target_of' q (a ∷ []) (one_name a ka);
      }

  two_opens : (a p b : Word) (i : ℕ) (ka : a.kind ≡ kind.Name) (kp : p.kind ≡ t.point) (kb : b.kind ≡ kind.Name) → ((v : List Word) → AllFit (behind_member var mode ++ number 0 ∷ behind_index mode) v → AllFit (counter var mode 0) (a ∷ p ∷ b ∷ v))
      → Opens (covered var mode count) (eval_stmt (expr_of (record { name = name_of a; member = Some (name_of b); end = b.span.end }))) (a ∷ p ∷ b ∷ [])
  two_opens a p b i ka kp kb whole =
      let q : Qualified = record { name = name_of a; member = Some (name_of b); end = b.span.end } in
      record {
        rest = behind_member var mode ++ number 0 ∷ behind_index mode;
        unit = 0;
        part = member_part var mode count a b;
        counts = λ v fv m. rw (start_of q) (counted_to var mode count a (p ∷ b ∷ []) v 0 (fit_behind (behind_member var mode) (behind_index mode) (number 0) v fv) some (whole v fv) m);
        target = target_of' q (a ∷ p ∷ b ∷ []) (pair a p b ka kp kb);
      }

  no_target : (o : Option Target) (g : Target) → o ≡ None → o ≡ Some g → ⊥
  no_target o g e f = cc

  slot_opens : (a p b l x k : Word) (i : ℕ) → x.bytes ≡ decimal i → i < count → ((v : List Word) → AllFit (behind_bracket mode) v → (1 ≤ length v) × AllFit (counter var mode i) (a ∷ p ∷ b ∷ l ∷ x ∷ k ∷ v))
      → Opens (covered var mode count) (eval_stmt (slot_expr a b x k)) (a ∷ p ∷ b ∷ l ∷ x ∷ k ∷ [])
  slot_opens a p b l x k i bx lt whole = record {
    rest = behind_bracket mode;
    unit = i;
    part = slot_part var mode count a b x k i (ap (index_of count) bx ∙ index_complete count i lt small);
    counts = λ v fv m. rw (slot_start a b x k) (counted_to var mode count a (p ∷ b ∷ l ∷ x ∷ k ∷ []) v i (whole v fv).0 lt (whole v fv).1 m);
    target = λ g e. absurd (no_target (target_in (eval_stmt (slot_expr a b x k))) g (slot_target a b x k) e);
  }

-- ---- what the reader with levels enough gives

abbrev alone_at : Outcome (Tall Stmt) → Option (Tall Stmt)
alone_at o = alone_of o.0 o.1

no_alone : (w : List Word) (y : Tall Stmt) → alone_of (Err Unexpected) w ≡ Some y → ⊥
no_alone w y e = cc

some_alone : Tall Stmt → Option (Tall Stmt)
some_alone x = Some x

alone_same : (x y : Tall Stmt) → some_alone x ≡ some_alone y → x ≡ y
unfolding some_alone
alone_same x y e = cc

long_alone : (x y : Tall Stmt) (a : Word) (w : List Word) → 1 ≤ length w → alone_of (Ok x) (a ∷ w) ≡ Some y → ⊥
long_alone x y a [] some e = absurd (omega arith)
long_alone x y a (b ∷ w) some e = cc

unnamed_plain : (r : List Word) → begins (kind_of r) ≡ false → plain_stmt 16 2 no_breakable r ≡ (Err Unexpected, r)
unfolding plain_stmt tail_of
unnamed_plain r b = unnamed_tail 16 1 (tail_of 16 2 no_breakable) r b

-- a statement before a token that ends it
module _ (a : Word) (stop : is_stop (Some a.kind) ≡ true) where
  stop_not : (k : TokenKind) → is_stop (Some k) ≡ false → is (Some a.kind) k ≡ false
  stop_not k f = go (is (Some a.kind) k) refl
    where
      go : (b : Bool) → is (Some a.kind) k ≡ b → b ≡ false
      go false e = refl
      go true e = let s : a.kind ≡ k = same_is a.kind k e in let g : is_stop (Some a.kind) ≡ false = ap (λ (z : TokenKind). is_stop (Some z)) s ∙ f in absurd cc

  read_alone : (h : ℕ) (x : Stmt) (w : List Word) → IsSimple h x w → h ≤ 3 → length w < 16 → (y : Tall Stmt) → alone (w ++ a ∷ []) ≡ Some y → (x, h) ≡ y
  unfolding alone high some_alone
  read_alone h x w i le long y e =
      let o : plain_stmt 16 2 no_breakable (w ++ a ∷ []) ≡ (Ok (x, h), a ∷ []) = plain_read 16 2 no_breakable h x w i le long (a ∷ []) (stop_stops source a [] stop).ends in
      alone_same (x, h) y (sym (ap alone_at o) ∙ e)

  not_alone : (w : List Word) (o : Outcome (Tall Stmt)) → plain_stmt 16 2 no_breakable w ≡ o → (y : Tall Stmt) → alone w ≡ Some y → alone_at o ≡ Some y
  unfolding alone high
  not_alone w o e y f = sym (ap alone_at e) ∙ f

  -- no more than the tokens of a counter, and only where they are a statement
  value_of_stop : (k : TokenKind) → k ≡ a.kind → begins (Some k) ≡ false
  value_of_stop k e = ap (λ (z : TokenKind). begins (Some z)) e ∙ (stop_stops source a [] stop).no_value

  none_at : (y : Tall Stmt) → alone (a ∷ []) ≡ Some y → ⊥
  none_at y f = no_alone (a ∷ []) y (not_alone (a ∷ []) (Err Unexpected, a ∷ []) (unnamed_plain (a ∷ []) (value_of_stop a.kind refl)) y f)

  ends_at : Ends 1 (a ∷ [])
  ends_at = (stop_stops source a [] stop).ends.ends

  point_at : (x p : Word) → x.kind ≡ kind.Name → p.kind ≡ t.point → (y : Tall Stmt) → alone (x ∷ p ∷ a ∷ []) ≡ Some y → ⊥
  unfolding ends_list
  point_at x p kx kp y f = no_alone (a ∷ []) y (not_alone (x ∷ p ∷ a ∷ []) (Err Unexpected, a ∷ []) (point_ends 16 1 no_breakable x p (a ∷ []) kx kp (stop_not kind.Name refl)) y f)

  open_at : (x p b l : Word) → x.kind ≡ kind.Name → p.kind ≡ t.point → b.kind ≡ kind.Name → l.kind ≡ t.left_bracket → (y : Tall Stmt) → alone (x ∷ p ∷ b ∷ l ∷ a ∷ []) ≡ Some y → ⊥
  unfolding ends_list
  open_at x p b l kx kp kb kl y f = no_alone (a ∷ []) y (not_alone (x ∷ p ∷ b ∷ l ∷ a ∷ []) (Err Unexpected, a ∷ []) (open_ends 15 0 no_breakable x p b l (a ∷ []) kx kp kb kl (value_of_stop a.kind refl) (stop_not t.colon refl)) y f)

  number_at : (x p b l i : Word) → x.kind ≡ kind.Name → p.kind ≡ t.point → b.kind ≡ kind.Name → l.kind ≡ t.left_bracket → i.kind ≡ kind.Int → (y : Tall Stmt) → alone (x ∷ p ∷ b ∷ l ∷ i ∷ a ∷ []) ≡ Some y → ⊥
  unfolding ends_list
  number_at x p b l i kx kp kb kl ki y f =
      no_alone (a ∷ []) y (not_alone (x ∷ p ∷ b ∷ l ∷ i ∷ a ∷ []) (Err Unexpected, a ∷ []) (number_ends 15 0 no_breakable x p b l i (a ∷ []) (omega arith) kx kp kb kl ki ends_at (stop_not t.right_bracket refl) (stop_not t.colon refl)) y f)

  call_at : (x p b l : Word) → x.kind ≡ kind.Name → p.kind ≡ t.point → b.kind ≡ kind.Name → l.kind ≡ t.left_parenthesis → (y : Tall Stmt) → alone (x ∷ p ∷ b ∷ l ∷ a ∷ []) ≡ Some y → ⊥
  unfolding ends_list
  call_at x p b l kx kp kb kl y f = no_alone (a ∷ []) y (not_alone (x ∷ p ∷ b ∷ l ∷ a ∷ []) (Err Unexpected, a ∷ []) (call_ends 15 0 no_breakable x p b l (a ∷ []) kx kp kb kl (value_of_stop a.kind refl) (stop_not t.right_parenthesis refl)) y f)

  -- ---- what a counter begins as, in its form

  -- the statement is in the form, and opens a counter
  abbrev pub StandsIn : List ℕ → CounterForm → ℕ → Tall Stmt → List Word → Type 0
  StandsIn var mode count x w = ((m : ℕ) → IsStmt (covered var mode count) m x.1 x.0 w) × Opens (covered var mode count) x.0 w

  module _ (var : List ℕ) (count : ℕ) (some : 0 < count) (small : count ≤ 2 ^ 32) where
    stand_at : (mode : CounterForm) (h : ℕ) (x : Stmt) (w : List Word) → IsSimple h x w → h ≤ 3 → length w < 16 → Opens (covered var mode count) x w → (y : Tall Stmt) → alone (w ++ a ∷ []) ≡ Some y → StandsIn var mode count y w
    stand_at mode h x w i le long o y e = subst (λ (z : Tall Stmt). StandsIn var mode count z w) (read_alone h x w i le long y e) (λ m. simple h x w i, o)

    one_stands : (mode : CounterForm) (x : Word) (u : List Word) (i : ℕ) → x.kind ≡ kind.Name → AllFit (counter var mode i) (x ∷ u) → (y : Tall Stmt) → alone (x ∷ a ∷ []) ≡ Some y → StandsIn var mode count y (x ∷ [])
    one_stands mode x u i kx f y e =
        let q : Qualified = record { name = name_of x; member = None; end = x.span.end } in
        stand_at mode 2 (eval_stmt (expr_of q)) (x ∷ []) (evaluated 7 1 (expr_of q) (x ∷ []) (expr_qualified q (x ∷ []) (one_name x kx))) (omega arith) (omega arith) (one_opens var mode count some small x u i kx f) y e

    two_stand : (mode : CounterForm) (x p b : Word) (i : ℕ) → x.kind ≡ kind.Name → p.kind ≡ t.point → b.kind ≡ kind.Name → ((v : List Word) → AllFit (behind_member var mode ++ number 0 ∷ behind_index mode) v → AllFit (counter var mode 0) (x ∷ p ∷ b ∷ v))
        → (y : Tall Stmt) → alone (x ∷ p ∷ b ∷ a ∷ []) ≡ Some y → StandsIn var mode count y (x ∷ p ∷ b ∷ [])
    two_stand mode x p b i kx kp kb whole y e =
        let q : Qualified = record { name = name_of x; member = Some (name_of b); end = b.span.end } in
        stand_at mode 2 (eval_stmt (expr_of q)) (x ∷ p ∷ b ∷ []) (evaluated 7 1 (expr_of q) (x ∷ p ∷ b ∷ []) (expr_qualified q (x ∷ p ∷ b ∷ []) (pair x p b kx kp kb))) (omega arith) (omega arith) (two_opens var mode count some small x p b i kx kp kb whole) y e

    slot_stands : (mode : CounterForm) (x p b l n k : Word) (i : ℕ) → x.kind ≡ kind.Name → p.kind ≡ t.point → b.kind ≡ kind.Name → l.kind ≡ t.left_bracket → n.kind ≡ kind.Int → k.kind ≡ t.right_bracket → n.bytes ≡ decimal i → i < count
        → ((v : List Word) → AllFit (behind_bracket mode) v → (1 ≤ length v) × AllFit (counter var mode i) (x ∷ p ∷ b ∷ l ∷ n ∷ k ∷ v)) → (y : Tall Stmt) → alone (x ∷ p ∷ b ∷ l ∷ n ∷ k ∷ a ∷ []) ≡ Some y → StandsIn var mode count y (x ∷ p ∷ b ∷ l ∷ n ∷ k ∷ [])
    slot_stands mode x p b l n k i kx kp kb kl kn kk bn lt whole y e =
        stand_at mode 3 (eval_stmt (slot_expr x b n k)) (x ∷ p ∷ b ∷ l ∷ n ∷ k ∷ []) (evaluated 7 2 (slot_expr x b n k) (x ∷ p ∷ b ∷ l ∷ n ∷ k ∷ []) (slot_is x p b l n k kx kp kb kl kn kk)) (omega arith) (omega arith) (slot_opens var mode count some small x p b l n k i bn lt whole) y e

    behind_some : (x : Word) (w : List Word) (y z : Tall Stmt) (o : Word) → alone_of (Ok y) (o ∷ (w ++ a ∷ [])) ≡ Some z → ⊥
    behind_some x [] y z o f = cc
    behind_some x (b ∷ w) y z o f = cc

    pub stands : (mode : CounterForm) (i : ℕ) → i < count → (w u : List Word) → AllFit (counter var mode i) (w ++ u) → (y : Tall Stmt) → alone (w ++ a ∷ []) ≡ Some y → StandsIn var mode count y w
    stands mode i lt [] u f y e = absurd (none_at y e)
    stands counter_form.SetForm i lt (x ∷ []) u f y e = one_stands counter_form.SetForm x u i f.0.0 f y e
    stands counter_form.SetForm i lt (x ∷ (p ∷ [])) u f y e = absurd (point_at x p f.0.0 f.1.0.0 y e)
    stands counter_form.SetForm i lt (x ∷ (p ∷ (b ∷ []))) u f y e = two_stand counter_form.SetForm x p b i f.0.0 f.1.0.0 f.1.1.0.0 (λ v fv. (f.0, (f.1.0, (f.1.1.0, fv)))) y e
    stands counter_form.SetForm i lt (x ∷ (p ∷ (b ∷ (l ∷ [])))) u f y e = absurd (open_at x p b l f.0.0 f.1.0.0 f.1.1.0.0 f.1.1.1.0.0 y e)
    stands counter_form.SetForm i lt (x ∷ (p ∷ (b ∷ (l ∷ (n ∷ []))))) u f y e = absurd (number_at x p b l n f.0.0 f.1.0.0 f.1.1.0.0 f.1.1.1.0.0 f.1.1.1.1.0.0 y e)
    stands counter_form.SetForm i lt (x ∷ (p ∷ (b ∷ (l ∷ (n ∷ (k ∷ [])))))) u f y e =
        slot_stands counter_form.SetForm x p b l n k i f.0.0 f.1.0.0 f.1.1.0.0 f.1.1.1.0.0 f.1.1.1.1.0.0 f.1.1.1.1.1.0.0 f.1.1.1.1.0.1 lt (λ v fv. (fit_some (any t.assign) (number 1 ∷ []) v fv, (f.0, (f.1.0, (f.1.1.0, (f.1.1.1.0, (f.1.1.1.1.0, (f.1.1.1.1.1.0, fv)))))))) y e
    stands counter_form.SetForm i lt (x ∷ (p ∷ (b ∷ (l ∷ (n ∷ (k ∷ (o ∷ w))))))) u f y e =
        absurd (behind_some x w _ y o (not_alone (x ∷ p ∷ b ∷ l ∷ n ∷ k ∷ o ∷ (w ++ a ∷ [])) _ (assign_ends 16 0 no_breakable x p b l n k o (w ++ a ∷ []) (omega arith) f.0.0 f.1.0.0 f.1.1.0.0 f.1.1.1.0.0 f.1.1.1.1.0.0 f.1.1.1.1.1.0.0 f.1.1.1.1.1.1.0.0) y e))
    stands counter_form.CountForm i lt (x ∷ []) u f y e = one_stands counter_form.CountForm x u i f.0.0 f y e
    stands counter_form.CountForm i lt (x ∷ (p ∷ [])) u f y e = absurd (point_at x p f.0.0 f.1.0.0 y e)
    stands counter_form.CountForm i lt (x ∷ (p ∷ (b ∷ []))) u f y e = two_stand counter_form.CountForm x p b i f.0.0 f.1.0.0 f.1.1.0.0 (λ v fv. (f.0, (f.1.0, (f.1.1.0, fv)))) y e
    stands counter_form.CountForm i lt (x ∷ (p ∷ (b ∷ (l ∷ [])))) u f y e = absurd (open_at x p b l f.0.0 f.1.0.0 f.1.1.0.0 f.1.1.1.0.0 y e)
    stands counter_form.CountForm i lt (x ∷ (p ∷ (b ∷ (l ∷ (n ∷ []))))) u f y e = absurd (number_at x p b l n f.0.0 f.1.0.0 f.1.1.0.0 f.1.1.1.0.0 f.1.1.1.1.0.0 y e)
    stands counter_form.CountForm i lt (x ∷ (p ∷ (b ∷ (l ∷ (n ∷ (k ∷ [])))))) u f y e =
        slot_stands counter_form.CountForm x p b l n k i f.0.0 f.1.0.0 f.1.1.0.0 f.1.1.1.0.0 f.1.1.1.1.0.0 f.1.1.1.1.1.0.0 f.1.1.1.1.0.1 lt (λ v fv. (fit_some (any t.increment) [] v fv, (f.0, (f.1.0, (f.1.1.0, (f.1.1.1.0, (f.1.1.1.1.0, (f.1.1.1.1.1.0, fv)))))))) y e
    stands counter_form.CountForm i lt (x ∷ (p ∷ (b ∷ (l ∷ (n ∷ (k ∷ (o ∷ w))))))) u f y e =
        absurd (behind_some x w _ y o (not_alone (x ∷ p ∷ b ∷ l ∷ n ∷ k ∷ o ∷ (w ++ a ∷ [])) _ (raise_ends 16 0 no_breakable x p b l n k o (w ++ a ∷ []) (omega arith) f.0.0 f.1.0.0 f.1.1.0.0 f.1.1.1.0.0 f.1.1.1.1.0.0 f.1.1.1.1.1.0.0 f.1.1.1.1.1.1.0.0) y e))
    stands counter_form.AtomicForm i lt (x ∷ []) u f y e = one_stands counter_form.AtomicForm x u i f.0.0 f y e
    stands counter_form.AtomicForm i lt (x ∷ (p ∷ [])) u f y e = absurd (point_at x p f.0.0 f.1.0.0 y e)
    stands counter_form.AtomicForm i lt (x ∷ (p ∷ (b ∷ []))) u f y e = two_stand counter_form.AtomicForm x p b i f.0.0 f.1.0.0 f.1.1.0.0 (λ v fv. (f.0, (f.1.0, (f.1.1.0, fv)))) y e
    stands counter_form.AtomicForm i lt (x ∷ (p ∷ (b ∷ (l ∷ [])))) u f y e = absurd (call_at x p b l f.0.0 f.1.0.0 f.1.1.0.0 f.1.1.1.0.0 y e)
    stands counter_form.AtomicForm i lt (x ∷ (p ∷ (b ∷ (l ∷ (o ∷ w))))) u f y e =
        absurd (no_alone (o ∷ (w ++ a ∷ [])) y (not_alone (x ∷ p ∷ b ∷ l ∷ o ∷ (w ++ a ∷ [])) (Err Unexpected, o ∷ (w ++ a ∷ [])) (call_ends 15 0 no_breakable x p b l (o ∷ (w ++ a ∷ [])) f.0.0 f.1.0.0 f.1.1.0.0 f.1.1.1.0.0 (no_value o (w ++ a ∷ []) f.1.1.1.1.0.0) (is_other (kind_of (o ∷ (w ++ a ∷ []))) t.ampersand t.right_parenthesis (kind_is o (w ++ a ∷ []) t.ampersand f.1.1.1.1.0.0) refl)) y e))
