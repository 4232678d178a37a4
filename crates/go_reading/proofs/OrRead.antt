-- Counters, and statements that begin as counters, are read.
use Rattle.std.proofs.Common.{◌≡◌, ◌⊎◌, inl, inr, ◌&&◌, ℕ, zero, suc, ◌+◌, ◌≤◌, ◌<◌, ◌^◌, Bool, true, false, List, [], ◌∷◌, ◌++◌, length, Option, Some, None, Result, Ok, Err, refl, sym, ap, subst, ◌∙◌, append_assoc, arith, nat_le, nat_lt, if◌then◌else◌}
use Rattle.std.proofs.lemmas.List.{length-append, append-nil}
use Rattle.std.proofs.lemmas.Bool.{lt-ltb, le-leb, leb-true, leb-false}
use Rattle.go_ast.specs.declared.token.TokenKind.{TokenKind}
use Rattle.go_ast.specs.declared.token.TokenKind.TheVariants as kind
use Rattle.go_ast.specs.declared.block.Stmt.{Stmt}
use Rattle.go_ast.specs.declared.block.StmtForm.TheVariants as statement
use Rattle.go_grammar.specs.declared.form.CounterForm.{CounterForm}
use Rattle.go_grammar.specs.declared.form.CounterForm.TheVariants as counter_form
use Rattle.go_grammar.specs.declared.form.Form.{Form as TextForm}
use Rattle.go_grammar.specs.declared.form.Form.TheVariants as text_form
use Rattle.go_grammar.specs.Words.{Word}
use Rattle.go_grammar.specs.Terminals as t
use Rattle.go_grammar.specs.Patterns.{Pattern, AllFit}
use Rattle.go_grammar.specs.Covering.{number, counter}
use Rattle.go_grammar.specs.Trees.{name_of, stmt_node}
use Rattle.go_grammar.specs.Simple.{IsSimple}
use Rattle.go_grammar.specs.Blocks.{source, covered, last_end}
use Rattle.go_reading.specs.declared.fault.Fault.{Fault}
use Rattle.go_reading.specs.declared.fault.Fault.TheVariants.{Unexpected, TooDeep, TooMany, Exhausted}
use Rattle.go_reading.specs.declared.qualified.Qualified.{Qualified}
use Rattle.go_reading.specs.Kinds.{is, ends_list}
use Rattle.go_reading.specs.Types.{expr_of}
use Rattle.go_reading.specs.Exprs.{expr}
use Rattle.go_reading.specs.Counters.{Small, fits, first_fit, before_index, behind_index, expect_fit, expect_all, counter_stmt, counted_or, is_stop, by_alone, alone_of, far_of}
use Rattle.go_reading.specs.Stmts.{plain_stmt, no_breakable, high, alone, far, or_counter}
use Rattle.go_reading.specs.Input.{Outcome, Reader, Tall, kind_of, take_as}
use Rattle.go_reading.proofs.Good.{At, Good, Stable}
use Rattle.go_reading.proofs.OverGood.{heads, tails, front_is, later_cut}
use Rattle.go_reading.proofs.FitGood.{CounterOf, counter_good, counter_parts}
use Rattle.go_reading.proofs.FitRead.{fits_is, counter_read}
use Rattle.go_reading.proofs.RowsRead.{sees, kind_is}
use Rattle.go_reading.proofs.TypesGood.{alone as one_name, expr_qualified}
use Rattle.go_reading.proofs.Ends.{ends_by, plain_colon}
use Rattle.go_reading.proofs.ExprsRead.{expr_read}
use Rattle.go_reading.proofs.SimpleGood.{target_is_name}
use Rattle.go_reading.proofs.PlainRead.{plain_read}
use Rattle.go_reading.proofs.PlainGood.{plain_in}
use Rattle.go_reading.proofs.Loose.{Loose}
use Rattle.go_reading.proofs.Stops.{Stops}
use Rattle.go_reading.proofs.Own.{Own, own}
use Rattle.go_reading.proofs.OrGood.{Lasting, no_breakable_good, high_good, counter_at}

-- ---- no token of a counter ends a statement

abbrev Calm : List Pattern → Type 0
Calm [] = Unit {0}
Calm (p ∷ ps) = (is_stop (Some p.kind) ≡ false) × Calm ps

calm_counter : (var : List ℕ) (mode : CounterForm) (i : ℕ) → Calm (counter var mode i)
unfolding ends_list
calm_counter var counter_form.SetForm i = (refl, (refl, (refl, (refl, (refl, (refl, (refl, (refl, tt))))))))
calm_counter var counter_form.CountForm i = (refl, (refl, (refl, (refl, (refl, (refl, (refl, tt)))))))
calm_counter var counter_form.AtomicForm i = (refl, (refl, (refl, (refl, (refl, (refl, (refl, (refl, (refl, (refl, (refl, (refl, (refl, (refl, tt))))))))))))))

calm_at : (ps : List Pattern) (w : List Word) → Calm ps → AllFit ps w → (f g : List Word) (b : Word) → w ≡ f ++ b ∷ g → is_stop (Some b.kind) ≡ false
calm_at [] [] c i f g b e = absurd (no_cons f g b e)
  where
    no_cons : (f g : List Word) (b : Word) → [] ≡ f ++ b ∷ g → ⊥
    no_cons [] g b e = cc
    no_cons (x ∷ f) g b e = cc
calm_at [] (a ∷ w) c i f g b e = absurd i
calm_at (p ∷ ps) [] c i f g b e = absurd i
calm_at (p ∷ ps) (a ∷ w) c i [] g b e = let h : a ≡ b = heads a b w g e in ap (λ (z : Word). is_stop (Some z.kind)) (sym h) ∙ ap (λ (k : TokenKind). is_stop (Some k)) i.0.0 ∙ c.0
calm_at (p ∷ ps) (a ∷ w) c i (x ∷ f) g b e = calm_at ps w c.1 i.1 f g b (tails a x w (f ++ b ∷ g) e)

fit_length : (ps : List Pattern) (w : List Word) → AllFit ps w → length w ≡ length ps
fit_length [] [] f = refl
fit_length [] (a ∷ w) f = absurd f
fit_length (p ∷ ps) [] f = absurd f
fit_length (p ∷ ps) (a ∷ w) f = let l = fit_length ps w f.1 in omega arith

counter_short : (var : List ℕ) (mode : CounterForm) (i : ℕ) → length (counter var mode i) ≤ 14
counter_short var counter_form.SetForm i = omega arith
counter_short var counter_form.CountForm i = omega arith
counter_short var counter_form.AtomicForm i = omega arith

no_stop_in : (var : List ℕ) (mode : CounterForm) (i : ℕ) (w : List Word) → AllFit (counter var mode i) w → (f g : List Word) (b : Word) → w ≡ f ++ b ∷ g → is_stop (Some b.kind) ≡ true → ⊥
no_stop_in var mode i w fit f g b e s = let n = calm_at (counter var mode i) w (calm_counter var mode i) fit f g b e in cc

-- a list of tokens up to where a statement may end
stop_first : (rest : List Word) → is_stop (kind_of rest) ≡ true → (b : Word) × (r : List Word) × (rest ≡ b ∷ r) × (is_stop (Some b.kind) ≡ true)
unfolding ends_list
stop_first [] s = absurd cc
stop_first (b ∷ r) s = (b, r, refl, s)

-- ---- outcomes

okay : Tall Stmt → Result (Tall Stmt) Fault
okay x = Ok x

abbrev both_of : Result (Tall Stmt) Fault → List Word → Outcome (Tall Stmt)
both_of v r = (v, r)

okay_same : (x y : Tall Stmt) → okay x ≡ okay y → x ≡ y
unfolding okay
okay_same x y e = cc

-- faults that stay with more levels and turns, where clauses are as many
Shallow : Fault → Type 0
Shallow Unexpected = Unit {0}
Shallow TooDeep = ⊥
Shallow TooMany = Unit {0}
Shallow Exhausted = ⊥

-- the simple statements that the reader with levels enough reads, with more
above_good : (n c : ℕ) → 16 ≤ n → 2 ≤ c → (ts : List Word) → Good 16 (3, 0) Shallow (Loose source) high (plain_stmt n c no_breakable) ts
unfolding high Shallow
above_good n c long some ts = plain_in source Shallow (λ s. s) 16 n long (omega arith) 2 c 0 0 (some, omega arith) (λ s. absurd s) no_breakable no_breakable (λ _ r. no_breakable_good source 16 0 Shallow r) ts

-- ---- the reader of both, where the counter breaks off

some_tall : Tall Stmt → Option (Tall Stmt)
some_tall x = Some x

not_both : (v : Result (Tall Stmt) Fault) (r : List Word) (x : Tall Stmt) → alone_of v r ≡ Some x → (far_of v r).1 ≡ [] → ⊥
not_both (Ok y) [] x e f = cc
not_both (Ok y) (a ∷ r) x e f = cc
not_both (Err g) r x e f = cc

-- tokens up to one that is the last of a list, or before
inside : (front f r : List Word) (a b : Word) → front ++ a ∷ [] ≡ f ++ b ∷ r → ((b ≡ a) × (r ≡ [])) ⊎ ((ys : List Word) × (front ≡ f ++ b ∷ ys))
inside front f r a b e =
    let l = length-append front (a ∷ []) in
    let m = length-append f (b ∷ r) in
    let z = later_cut f front (b ∷ r) (a ∷ []) (sym e) (omega arith) in
    by z.0 z.1 z.2
  where
    by : (z : List Word) → front ≡ f ++ z → b ∷ r ≡ z ++ a ∷ [] → ((b ≡ a) × (r ≡ [])) ⊎ ((ys : List Word) × (front ≡ f ++ b ∷ ys))
    by [] g h = inl (heads b a r [] h, tails b a r [] h)
    by (y ∷ ys) g h = inr (ys, g ∙ ap (λ (c : Word). f ++ c ∷ ys) (sym (heads b y r (ys ++ a ∷ []) h)))

module _ (var : List ℕ) (mode : CounterForm) (count : ℕ) (some : 0 < count) where
  c : Reader Stmt
  c = counter_stmt var mode count

  at_break : (o : Reader (Tall Stmt)) (ts front : List Word) (e : Fault) (a : Word) (r : List Word) → counter_stmt var mode count ts ≡ (Err e, a ∷ r) → ts ≡ front ++ a ∷ r
      → counted_or (counter_stmt var mode count) alone far o ts ≡ by_alone (counter_stmt var mode count) alone far o ts front a r (if is_stop (Some a.kind) then alone (front ++ a ∷ []) else None)
  unfolding counted_or
  at_break o ts front e a r is cut = rw (is, front_is ts front (a ∷ r) cut) refl

  -- where another statement goes on
  by_far : (o : Reader (Tall Stmt)) (ts front : List Word) (e : Fault) (a : Word) (r : List Word) → counter_stmt var mode count ts ≡ (Err e, a ∷ r) → ts ≡ front ++ a ∷ r → (far (front ++ a ∷ [])).1 ≡ []
      → (x : Tall Stmt) (rest : List Word) → o ts ≡ (Ok x, rest) → length rest ≤ length (a ∷ r) → counted_or (counter_stmt var mode count) alone far o ts ≡ (Ok x, rest)
  unfolding far alone
  by_far o ts front e a r is cut goes x rest reads le = at_break o ts front e a r is cut ∙ by (is_stop (Some a.kind)) (alone (front ++ a ∷ [])) refl
    where
      by : (b : Bool) (z : Option (Tall Stmt)) → alone (front ++ a ∷ []) ≡ z → by_alone (counter_stmt var mode count) alone far o ts front a r (if b then z else None) ≡ (Ok x, rest)
      by true (Some z) al = absurd (not_both (high (front ++ a ∷ [])).0 (high (front ++ a ∷ [])).1 z al goes)
      by true None al = rw (goes, reads, le-leb (length rest) (length (a ∷ r)) le) refl
      by false z al = rw (goes, reads, le-leb (length rest) (length (a ∷ r)) le) refl

  by_stand : (o : Reader (Tall Stmt)) (ts front : List Word) (e : Fault) (a : Word) (r : List Word) → counter_stmt var mode count ts ≡ (Err e, a ∷ r) → ts ≡ front ++ a ∷ r → is_stop (Some a.kind) ≡ true → (x : Tall Stmt) → alone (front ++ a ∷ []) ≡ Some x
      → counted_or (counter_stmt var mode count) alone far o ts ≡ (Ok x, a ∷ r)
  by_stand o ts front e a r is cut stop x al = at_break o ts front e a r is cut ∙ rw (stop, al) refl

  -- ---- a simple statement

  module _ (h : ℕ) (x : Stmt) (w : List Word) (i : IsSimple h x w) (rest : List Word) (st : Stops source rest) where
    above : Reader (Tall Stmt)
    above = plain_stmt (suc (length w + 15)) (suc (suc h)) no_breakable

    above_reads : above (w ++ rest) ≡ (Ok (x, h), rest)
    unfolding above
    above_reads = plain_read (suc (length w + 15)) (suc (suc h)) no_breakable h x w i (omega arith) (omega arith) rest st.ends

    above_parts : (ts : List Word) → Good 16 (3, 0) Shallow (Loose source) high above ts
    unfolding above
    above_parts ts = above_good (suc (length w + 15)) (suc (suc h)) (omega arith) (omega arith) ts

    -- it isn't a counter
    not_counted : (y : Stmt) (r : List Word) → counter_stmt var mode count (w ++ rest) ≡ (Ok y, r) → ⊥
    unfolding above okay
    not_counted y r is =
        let P : Outcome Stmt → Type 0 = λ o. At 0 (0, 0) (λ _. Unit {0}) (CounterOf var mode count) (counter_stmt var mode count) (w ++ rest) o.0 o.1 in
        let f : At 0 (0, 0) (λ _. Unit {0}) (CounterOf var mode count) (counter_stmt var mode count) (w ++ rest) (Ok y) r = subst P is (counter_good 0 (0, 0) (λ _. Unit {0}) var mode count some (w ++ rest)) in
        let k = f.means in
        let o : Own f.front = own var mode k.2 f.front (subst (AllFit (counter var mode k.2)) (sym k.3) k.5) in
        let cut : w ++ rest ≡ o.front ++ o.token ∷ (o.back ++ r) = f.cut ∙ ap (λ (z : List Word). z ++ r) o.both ∙ append_assoc o.front (o.token ∷ o.back) r in
        let g = o.high (length w + 15) h no_breakable (o.back ++ r) (omega arith) in
        let both : (okay (x, h), rest) ≡ (g.0, o.token ∷ (o.back ++ r)) = sym above_reads ∙ ap above cut ∙ g.1 in
        let re : rest ≡ o.token ∷ (o.back ++ r) = ap (λ (z : Outcome (Tall Stmt)). z.1) both in
        let stop : is_stop (Some o.token.kind) ≡ true = sym (ap (λ (z : List Word). is_stop (kind_of z)) re) ∙ st.stop in
        let calm = o.no_stop in
        cc

    -- nor does one break off at the end
    not_ended : (e : Fault) → counter_stmt var mode count (w ++ rest) ≡ (Err e, []) → ⊥
    not_ended e is =
        let P : Outcome Stmt → Type 0 = λ o. At 0 (0, 0) (λ _. Unit {0}) (CounterOf var mode count) (counter_stmt var mode count) (w ++ rest) o.0 o.1 in
        let f : At 0 (0, 0) (λ _. Unit {0}) (CounterOf var mode count) (counter_stmt var mode count) (w ++ rest) (Err e) [] = subst P is (counter_good 0 (0, 0) (λ _. Unit {0}) var mode count some (w ++ rest)) in
        let g = f.means in
        let k = g.2 in
        let b = stop_first rest st.stop in
        let whole : w ++ b.0 ∷ b.1 ≡ f.front = ap (λ (z : List Word). w ++ z) (sym b.2) ∙ f.cut ∙ append-nil f.front in
        no_stop_in var mode k.2 (f.front ++ g.0) (subst (AllFit (counter var mode k.2)) (sym k.3) k.5) w (b.1 ++ g.0) b.0 (ap (λ (z : List Word). z ++ g.0) (sym whole) ∙ append_assoc w (b.0 ∷ b.1) g.0) b.3

    module _ (e : Fault) (a : Word) (r front : List Word) (is : counter_stmt var mode count (w ++ rest) ≡ (Err e, a ∷ r)) (cut : w ++ rest ≡ front ++ a ∷ r) where
      -- the tokens before the break don't end the statement
      long_enough : length rest ≤ length (a ∷ r)
      long_enough = by (nat_le (length rest) (length (a ∷ r))) refl
        where
          none : (z : List Word) → front ≡ w ++ z → rest ≡ z ++ a ∷ r → length (a ∷ r) < length rest → ⊥
          none [] f g lt = let l : length rest ≡ length (a ∷ r) = ap length g in omega arith
          none (y ∷ ys) f g lt =
              let k = counter_at var mode count some (w ++ rest) e a r front is cut in
              no_stop_in var mode k.0 (front ++ k.1) k.3 w (ys ++ k.1) y (ap (λ (z : List Word). z ++ k.1) f ∙ append_assoc w (y ∷ ys) k.1) (sym (ap (λ (z : List Word). is_stop (kind_of z)) g) ∙ st.stop)

          by : (b : Bool) → nat_le (length rest) (length (a ∷ r)) ≡ b → length rest ≤ length (a ∷ r)
          by true l = leb-true (length rest) (length (a ∷ r)) l
          by false l =
              let lt = leb-false (length rest) (length (a ∷ r)) l in
              let z = later_cut w front rest (a ∷ r) cut (omega arith) in
              absurd (none z.0 z.1 z.2 lt)

      AtBreak : Type 0
      AtBreak = ((far (front ++ a ∷ [])).1 ≡ []) ⊎ ((is_stop (Some a.kind) ≡ true) × (alone (front ++ a ∷ []) ≡ Some (x, h)) × (rest ≡ a ∷ r))

      -- no token before the break passes a limit
      never_deep : (ys : List Word) (b : Word) (r1 s : List Word) (g : At 16 (3, 0) Lasting (Loose source) high s (Err TooDeep) (b ∷ r1)) → front ≡ g.front ++ b ∷ ys → ⊥
      unfolding high
      never_deep ys b r1 s g fe =
          let k = counter_at var mode count some (w ++ rest) e a r front is cut in
          let o : Own (front ++ k.1) = own var mode k.0 (front ++ k.1) k.3 in
          let text : front ++ k.1 ≡ g.front ++ b ∷ (ys ++ k.1) = ap (λ (z : List Word). z ++ k.1) fe ∙ append_assoc g.front (b ∷ ys) k.1 in
          let h = o.high 15 0 no_breakable o.back (omega arith) in
          let one : plain_stmt 16 2 no_breakable (front ++ k.1) ≡ (Err TooDeep, b ∷ (ys ++ k.1)) = ap (plain_stmt 16 2 no_breakable) text ∙ g.same tt (b ∷ (ys ++ k.1)) refl in
          let two : plain_stmt 16 2 no_breakable (front ++ k.1) ≡ (h.0, o.token ∷ o.back) = ap (plain_stmt 16 2 no_breakable) o.both ∙ h.1 in
          clear h.0 h.2 (ap (λ (z : Outcome (Tall Stmt)). z.0) (sym one ∙ two))
        where
          clear : (v : Result (Tall Stmt) Fault) → ((v ≡ Err Unexpected) ⊎ ((y : Tall Stmt) × (v ≡ Ok y))) → Err TooDeep ≡ v → ⊥
          clear v (inl i) e = cc
          clear v (inr i) e = let z = i.1 in cc

      short_text : length (front ++ a ∷ []) < 16
      short_text =
          let k = counter_at var mode count some (w ++ rest) e a r front is cut in
          let l = fit_length (counter var mode k.0) (front ++ k.1) k.3 in
          let m = counter_short var mode k.0 in
          let n = length-append front k.1 in
          let o = length-append front (a ∷ []) in
          omega arith

      -- the whole text behind what was read up to the token behind the break
      whole_text : (f : List Word) (b : Word) (r1 : List Word) → front ++ a ∷ [] ≡ f ++ b ∷ r1 → w ++ rest ≡ f ++ (b ∷ (r1 ++ r))
      whole_text f b r1 g = cut ∙ sym (append_assoc front (a ∷ []) r) ∙ ap (λ (z : List Word). z ++ r) g ∙ append_assoc f (b ∷ r1) r

      read_there : (v : Result (Tall Stmt) Fault) (b : Word) (r1 : List Word) (g : At 16 (3, 0) Shallow (Loose source) above (front ++ a ∷ []) v (b ∷ r1)) → Stable Shallow v → both_of (okay (x, h)) rest ≡ both_of v (b ∷ (r1 ++ r))
      unfolding okay
      read_there v b r1 g s = sym (above_reads) ∙ ap above (whole_text g.front b r1 g.cut) ∙ g.same s (b ∷ (r1 ++ r)) refl

      stands_there : (y : Tall Stmt) (b : Word) (r1 : List Word) → high (front ++ a ∷ []) ≡ (Ok y, b ∷ r1) → (f : List Word) → front ++ a ∷ [] ≡ f ++ b ∷ r1 → both_of (okay (x, h)) rest ≡ both_of (okay y) (b ∷ (r1 ++ r)) → AtBreak
      unfolding alone okay some_tall AtBreak
      stands_there y b r1 o f g both = by (inside front f r1 a b g)
        where
          ye : (x, h) ≡ y
          ye = okay_same (x, h) y (ap (λ (z : Outcome (Tall Stmt)). z.0) both)

          re : rest ≡ b ∷ (r1 ++ r)
          re = ap (λ (z : Outcome (Tall Stmt)). z.1) both

          stop : is_stop (Some b.kind) ≡ true
          stop = sym (ap (λ (z : List Word). is_stop (kind_of z)) re) ∙ st.stop

          by : ((b ≡ a) × (r1 ≡ [])) ⊎ ((ys : List Word) × (front ≡ f ++ b ∷ ys)) → AtBreak
          by (inl k) =
              let o2 : high (front ++ a ∷ []) ≡ (Ok y, b ∷ []) = o ∙ ap (λ (z : List Word). (Ok y, b ∷ z)) k.1 in
              inr (ap (λ (z : Word). is_stop (Some z.kind)) (sym k.0) ∙ stop, ap (λ (z : Outcome (Tall Stmt)). alone_of z.0 z.1) o2 ∙ ap some_tall (sym ye), re ∙ ap (λ (z : List Word). b ∷ (z ++ r)) k.1 ∙ ap (λ (z : Word). z ∷ r) k.0)
          by (inr k) =
              let m = counter_at var mode count some (w ++ rest) e a r front is cut in
              absurd (no_stop_in var mode m.0 (front ++ m.1) m.3 f (k.0 ++ m.1) b (ap (λ (z : List Word). z ++ m.1) k.1 ∙ append_assoc f (b ∷ k.0) m.1) stop)

      goes_there : (v : Result (Tall Stmt) Fault) (r1 : List Word) → high (front ++ a ∷ []) ≡ (v, r1) → (far_of v r1).1 ≡ [] → AtBreak
      unfolding far AtBreak
      goes_there v r1 o g = inl (ap (λ (z : Outcome (Tall Stmt)). (far_of z.0 z.1).1) o ∙ g)

      other_fault : (f : Fault) (u : List Word) → both_of (okay (x, h)) rest ≡ both_of (Err f) u → ⊥
      unfolding okay
      other_fault f u e = no_ok (ap (λ (z : Outcome (Tall Stmt)). z.0) e)
        where
          no_ok : okay (x, h) ≡ Err f → ⊥
          no_ok e = cc

      break_by : (v : Result (Tall Stmt) Fault) (r1 : List Word) → high (front ++ a ∷ []) ≡ (v, r1) → At 16 (3, 0) Shallow (Loose source) above (front ++ a ∷ []) v r1 → At 16 (3, 0) Lasting (Loose source) high (front ++ a ∷ []) v r1 → AtBreak
      unfolding okay Shallow
      break_by (Ok y) [] o g k = goes_there (Ok y) [] o refl
      break_by (Ok y) (b ∷ r1) o g k = stands_there y b r1 o g.front g.cut (read_there (Ok y) b r1 g tt)
      break_by (Err Unexpected) [] o g k = goes_there (Err Unexpected) [] o refl
      break_by (Err Unexpected) (b ∷ r1) o g k = absurd (other_fault Unexpected (b ∷ (r1 ++ r)) (read_there (Err Unexpected) b r1 g tt))
      break_by (Err TooMany) [] o g k = goes_there (Err TooMany) [] o refl
      break_by (Err TooMany) (b ∷ r1) o g k = absurd (other_fault TooMany (b ∷ (r1 ++ r)) (read_there (Err TooMany) b r1 g tt))
      break_by (Err Exhausted) r1 o g k = absurd (g.enough short_text refl)
      break_by (Err TooDeep) [] o g k = goes_there (Err TooDeep) [] o refl
      break_by (Err TooDeep) (b ∷ []) o g k = goes_there (Err TooDeep) (b ∷ []) o refl
      break_by (Err TooDeep) (b ∷ (b2 ∷ r1)) o g k = by (inside front k.front (b2 ∷ r1) a b k.cut)
        where
          by : ((b ≡ a) × (b2 ∷ r1 ≡ [])) ⊎ ((ys : List Word) × (front ≡ k.front ++ b ∷ ys)) → AtBreak
          by (inl z) = let q = z.1 in absurd cc
          by (inr z) = absurd (never_deep z.0 b (b2 ∷ r1) (front ++ a ∷ []) k z.1)

      at_simple : AtBreak
      at_simple = break_by (high (front ++ a ∷ [])).0 (high (front ++ a ∷ [])).1 refl (above_parts (front ++ a ∷ [])) (high_good source 0 Lasting (λ s. s) (front ++ a ∷ []))

    -- the reader of both reads it, if the other one does
    pub simple_counted : (o : Reader (Tall Stmt)) → o (w ++ rest) ≡ (Ok (x, h), rest) → counted_or (counter_stmt var mode count) alone far o (w ++ rest) ≡ (Ok (x, h), rest)
    unfolding AtBreak
    simple_counted o reads =
        let f = counter_good 0 (0, 0) (λ _. Unit {0}) var mode count some (w ++ rest) in
        by (counter_stmt var mode count (w ++ rest)).0 (counter_stmt var mode count (w ++ rest)).1 refl f.front f.cut
      where
        by : (v : Result Stmt Fault) (r : List Word) → counter_stmt var mode count (w ++ rest) ≡ (v, r) → (front : List Word) → w ++ rest ≡ front ++ r → counted_or (counter_stmt var mode count) alone far o (w ++ rest) ≡ (Ok (x, h), rest)
        by (Ok y) r is front cut = absurd (not_counted y r is)
        by (Err e) [] is front cut = absurd (not_ended e is)
        by (Err e) (a ∷ r) is front cut = go (at_simple e a r front is cut)
          where
            go : AtBreak e a r front is cut → counted_or (counter_stmt var mode count) alone far o (w ++ rest) ≡ (Ok (x, h), rest)
            go (inl g) = by_far o (w ++ rest) front e a r is cut g (x, h) rest reads (long_enough e a r front is cut)
            go (inr g) = by_stand o (w ++ rest) front e a r is cut g.0 (x, h) g.1 ∙ ap (λ (z : List Word). (Ok (x, h), z)) (sym g.2)

-- ---- a label

label_far : (a b : Word) → a.kind ≡ kind.Name → b.kind ≡ t.colon → high (a ∷ b ∷ []) ≡ (Err Unexpected, [])
unfolding high plain_stmt take_as no_breakable
label_far a b ka kb =
    let q : Qualified = record { name = name_of a; member = None; end = a.span.end } in
    let i : expr 16 2 1 (a ∷ (b ∷ [])) ≡ (Ok (expr_of q, 1), b ∷ []) = expr_read 16 2 7 1 (expr_of q) (a ∷ []) (expr_qualified q (a ∷ []) (one_name a ka)) (omega arith) (omega arith) 1 (omega arith) (omega arith) (b ∷ []) (ends_by 1 (b ∷ []) t.colon (kind_is b [] t.colon kb) plain_colon) in
    rw (i, sees b [] t.colon kb, target_is_name q) refl

label_break : (var : List ℕ) (mode : CounterForm) (count : ℕ) (a b : Word) (z : List Word) → fits (first_fit var mode) (a ∷ b ∷ z) ≡ true → b.kind ≡ t.colon → counter_stmt var mode count (a ∷ b ∷ z) ≡ (Err Unexpected, b ∷ z)
unfolding counter_stmt expect_fit expect_all
label_break var counter_form.SetForm count a b z e kb = rw (e, kb) refl
label_break var counter_form.CountForm count a b z e kb = rw (e, kb) refl
label_break var counter_form.AtomicForm count a b z e kb = rw (e, kb) refl

pub label_counted : (var : List ℕ) (mode : CounterForm) (count : ℕ) → 0 < count → (a b : Word) (z : List Word) → fits (first_fit var mode) (a ∷ b ∷ z) ≡ true → a.kind ≡ kind.Name → b.kind ≡ t.colon → (o : Reader (Tall Stmt)) (x : Tall Stmt) (rest : List Word)
    → o (a ∷ b ∷ z) ≡ (Ok x, rest) → length rest ≤ length (b ∷ z) → counted_or (counter_stmt var mode count) alone far o (a ∷ b ∷ z) ≡ (Ok x, rest)
unfolding far
label_counted var mode count some a b z e ka kb o x rest reads le =
    by_far var mode count some o (a ∷ b ∷ z) (a ∷ []) Unexpected b z (label_break var mode count a b z e kb) refl (ap (λ (w : Outcome (Tall Stmt)). (far_of w.0 w.1).1) (label_far a b ka kb)) x rest reads le

-- ---- the form

first_named : (var : List ℕ) (mode : CounterForm) → (first_fit var mode).kind ≡ kind.Name
first_named var counter_form.SetForm = refl
first_named var counter_form.CountForm = refl
first_named var counter_form.AtomicForm = refl

or_at : (var : List ℕ) (mode : CounterForm) (count : ℕ) (o : Reader (Tall Stmt)) (ts : List Word) (out : Outcome (Tall Stmt)) → o ts ≡ out → (fits (first_fit var mode) ts ≡ true → counted_or (counter_stmt var mode count) alone far o ts ≡ out)
    → (b b' : Bool) → nat_lt 0 count ≡ b → fits (first_fit var mode) ts ≡ b' → (if b && b' then counted_or (counter_stmt var mode count) alone far o ts else o ts) ≡ out
or_at var mode count o ts out plain counts true true e f = counts f
or_at var mode count o ts out plain counts true false e f = plain
or_at var mode count o ts out plain counts false b' e f = plain

-- a text that another reader reads, and that is no counter
pub or_reads : (form : TextForm) (o : Reader (Tall Stmt)) (ts : List Word) (out : Outcome (Tall Stmt)) → o ts ≡ out
    → ((var : List ℕ) (mode : CounterForm) (count : ℕ) → 0 < count → fits (first_fit var mode) ts ≡ true → counted_or (counter_stmt var mode count) alone far o ts ≡ out) → or_counter form o ts ≡ out
unfolding or_counter
or_reads text_form.Source o ts out plain counts = plain
or_reads (text_form.Covered var mode zero) o ts out plain counts = plain
or_reads (text_form.Covered var mode (suc count)) o ts out plain counts = or_at var mode (suc count) o ts out plain (λ f. counts var mode (suc count) (omega arith) f) (nat_lt 0 (suc count)) (fits (first_fit var mode) ts) refl refl

-- nothing but a name begins a counter
pub or_unnamed : (form : TextForm) (o : Reader (Tall Stmt)) (ts : List Word) (out : Outcome (Tall Stmt)) → is (kind_of ts) kind.Name ≡ false → o ts ≡ out → or_counter form o ts ≡ out
or_unnamed form o ts out no' reads = or_reads form o ts out reads (λ var mode count some f. absurd (no_fit (first_fit var mode) (first_named var mode) f))
  where
    no_fit : (p : Pattern) → p.kind ≡ kind.Name → fits p ts ≡ true → ⊥
    no_fit p k f = let g : is (kind_of ts) p.kind ≡ false = rw k no' in let h : fits p ts ≡ false = rw g refl in cc

pub or_simple : (form : TextForm) (o : Reader (Tall Stmt)) (h : ℕ) (x : Stmt) (w : List Word) → IsSimple h x w → (rest : List Word) → Stops source rest → o (w ++ rest) ≡ (Ok (x, h), rest) → or_counter form o (w ++ rest) ≡ (Ok (x, h), rest)
or_simple form o h x w i rest st reads = or_reads form o (w ++ rest) (Ok (x, h), rest) reads (λ var mode count some f. simple_counted var mode count some h x w i rest st o reads)

pub or_label : (form : TextForm) (o : Reader (Tall Stmt)) (a b : Word) (w rest : List Word) (x : Tall Stmt) → a.kind ≡ kind.Name → b.kind ≡ t.colon → o (a ∷ b ∷ (w ++ rest)) ≡ (Ok x, rest) → or_counter form o (a ∷ b ∷ (w ++ rest)) ≡ (Ok x, rest)
or_label form o a b w rest x ka kb reads =
    let l = length-append w rest in
    or_reads form o (a ∷ b ∷ (w ++ rest)) (Ok x, rest) reads (λ var mode count some f. label_counted var mode count some a b (w ++ rest) f ka kb o x rest reads (omega arith))

counter_first : (var : List ℕ) (mode : CounterForm) (count i : ℕ) → i < count → count ≤ 2 ^ 32 → (a : Word) (w rest : List Word) → AllFit (counter var mode i) (a ∷ w) → (o : Reader (Tall Stmt)) → fits (first_fit var mode) (a ∷ (w ++ rest)) ≡ true
    → or_counter (covered var mode count) o (a ∷ (w ++ rest)) ≡ (Ok (stmt_node a.span.start (last_end a w) (statement.Count i), 0), rest)
unfolding or_counter counted_or
counter_first var mode count i lt le a w rest fit o first = rw (lt-ltb 0 count (omega arith), first, counter_read var mode count i lt le a w rest fit) refl

-- a counter is read
pub or_counted : (form : TextForm) → Small form → (var : List ℕ) (mode : CounterForm) (count i : ℕ) → form ≡ covered var mode count → i < count → (a : Word) (w rest : List Word) → AllFit (counter var mode i) (a ∷ w) → (o : Reader (Tall Stmt))
    → or_counter form o (a ∷ (w ++ rest)) ≡ (Ok (stmt_node a.span.start (last_end a w) (statement.Count i), 0), rest)
or_counted form small var mode count i e lt a w rest fit o = subst (λ (f : TextForm). Small f → or_counter f o (a ∷ (w ++ rest)) ≡ (Ok (stmt_node a.span.start (last_end a w) (statement.Count i), 0), rest)) (sym e) direct small
  where
    first : fits (first_fit var mode) (a ∷ (w ++ rest)) ≡ true
    first = go (subst (λ (ps : List Pattern). AllFit ps (a ∷ w)) (counter_parts var mode i) fit)
      where
        go : AllFit (first_fit var mode ∷ (before_index var mode ++ number i ∷ behind_index mode)) (a ∷ w) → fits (first_fit var mode) (a ∷ (w ++ rest)) ≡ true
        go f = fits_is (first_fit var mode) a (w ++ rest) f.0

    direct : Small (covered var mode count) → or_counter (covered var mode count) o (a ∷ (w ++ rest)) ≡ (Ok (stmt_node a.span.start (last_end a w) (statement.Count i), 0), rest)
    direct small = counter_first var mode count i lt small a w rest fit o first
