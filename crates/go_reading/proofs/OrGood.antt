-- The reader of a counter of the form, or of a statement that begins as one, is good.
use Rattle.std.proofs.Common.{◌≡◌, ◌≢◌, ◌⊎◌, inl, inr, ◌||◌, ℕ, zero, suc, ◌+◌, ◌≤◌, ◌<◌, ◌^◌, max, Bool, true, false, List, [], ◌∷◌, ◌++◌, length, Option, Some, None, Result, Ok, Err, refl, sym, ap, subst, ◌∙◌, append_assoc, arith, if◌then◌else◌}
use Rattle.std.proofs.lemmas.List.{append-nil}
use Rattle.std.proofs.lemmas.Bool.{lt-ltb}
use Rattle.go_ast.specs.declared.token.TokenKind.{TokenKind}
use Rattle.go_ast.specs.declared.block.Stmt.{Stmt}
use Rattle.go_ast.specs.declared.block.StmtForm.TheVariants as statement
use Rattle.go_grammar.specs.declared.form.CounterForm.{CounterForm}
use Rattle.go_grammar.specs.declared.form.Form.{Form as TextForm}
use Rattle.go_grammar.specs.declared.form.Form.TheVariants as text_form
use Rattle.go_grammar.specs.Words.{Word}
use Rattle.go_grammar.specs.Terminals as t
use Rattle.go_grammar.specs.Patterns.{Pattern, AllFit}
use Rattle.go_grammar.specs.Covering.{counter}
use Rattle.go_grammar.specs.Trees.{stmt_node}
use Rattle.go_grammar.specs.Exprs.{no_expr}
use Rattle.go_grammar.specs.Blocks.{covered, counted, no_first, for_test, switch, select, no_cases, no_comms}
use Rattle.go_reading.specs.declared.fault.Fault.{Fault}
use Rattle.go_reading.specs.declared.fault.Fault.TheVariants.{Unexpected, TooDeep, TooMany, Exhausted}
use Rattle.go_reading.specs.Kinds.{is}
use Rattle.go_reading.specs.Counters.{Small, fits, first_fit, counter_stmt, counted_or, far_of}
use Rattle.go_reading.specs.Stmts.{least, plain_stmt, begins_breakable, no_breakable, high, alone, far, or_counter}
use Rattle.go_reading.specs.Input.{Outcome, Reader, Tall, too_deep, refuse, kind_of}
use Rattle.go_reading.proofs.Good.{Stable, Room, ◌⊑◌, Form, At, Good, Filled, first, first_append, good_refuse, by_test, a_word, some_is, is_is}
use Rattle.go_reading.proofs.OverGood.{heads, front_is, later_cut, joined, counted_or_good}
use Rattle.go_reading.proofs.FitGood.{CounterOf, counter_good, fits_first}
use Rattle.go_reading.proofs.BareGood.{good_deep}
use Rattle.go_reading.proofs.Alike.{good_eq}
use Rattle.go_reading.proofs.Loose.{Loose, loose_rises}
use Rattle.go_reading.proofs.PlainGood.{BreakOf, plain_in}
use Rattle.go_reading.proofs.Started.{some_block, some_block_is}
use Rattle.go_reading.proofs.Own.{Own, own}
use Rattle.go_reading.proofs.Shapes.{stands}

-- all faults but the want of turns
abbrev pub Lasting : Fault → Type 0
Lasting Unexpected = Unit {0}
Lasting TooDeep = Unit {0}
Lasting TooMany = Unit {0}
Lasting Exhausted = ⊥

-- ---- a choice by the next token

fit_if : {A : Type 0} (N : ℕ) (d : Room) (K : Fault → Type 0) (R : Form A) (b : Bool) (p p' q q' : Reader A) (ts : List Word)
    → (b ≡ true → Good N d K R p q ts) → (b ≡ false → Good N d K R p' q' ts) → At N d K R (λ r. if b then q r else q' r) ts (if b then p ts else p' ts).0 (if b then p ts else p' ts).1
fit_if N d K R true p p' q q' ts here there = here refl
fit_if N d K R false p p' q q' ts here there = there refl

pub by_fit : {A : Type 0} (N : ℕ) (d : Room) (K : Fault → Type 0) (R : Form A) (o : Pattern) (p p' q q' : Reader A) (ts : List Word)
    → (fits o ts ≡ true → Good N d K R p q ts) → (fits o ts ≡ false → Good N d K R p' q' ts) → Good N d K R (λ r. if fits o r then p r else p' r) (λ r. if fits o r then q r else q' r) ts
by_fit N d K R o p p' q q' ts here there =
    let a = fit_if N d K R (fits o ts) p p' q q' ts here there in
    record {
      front = a.front;
      cut = a.cut;
      same = λ s r e.
          let k : fits o (a.front ++ r) ≡ fits o ts = fits_first o (a.front ++ r) ts (first_append a.front r (if fits o ts then p ts else p' ts).1 e ∙ ap first (sym a.cut)) in
          rw k (a.same s r e);
      means = a.means;
      filled = a.filled;
      enough = a.enough;
    }

-- ---- statements without others in them, with levels enough

module _ (form : TextForm) where
  a_breakable : (a : Word) → begins_breakable (Some a.kind) ≡ true → (b : Room) → 2 ≤ b.0 → (y : Tall Stmt) × (w : List Word) × BreakOf form b y (a ∷ w)
  a_breakable a e b some = pick (is (Some a.kind) t.for_word) (is (Some a.kind) t.switch_word) (is (Some a.kind) t.select_word) refl refl refl e
    where
      l : Word
      l = a_word t.left_brace

      r : Word
      r = a_word t.right_brace

      pick : (u v w : Bool) → is (Some a.kind) t.for_word ≡ u → is (Some a.kind) t.switch_word ≡ v → is (Some a.kind) t.select_word ≡ w → (u || (v || w)) ≡ true → (y : Tall Stmt) × (w : List Word) × BreakOf form b y (a ∷ w)
      pick true v w f g h e = ((stmt_node a.span.start (a_word t.right_brace).span.end (statement.For None None None (some_block form)), max 0 1 + 1), a_word t.left_brace ∷ a_word t.right_brace ∷ [], (for_test a 0 1 (a_word t.right_brace).span.end None (some_block form) [] (a_word t.left_brace ∷ a_word t.right_brace ∷ []) (some_is a.kind t.for_word (is_is (Some a.kind) t.for_word f)) no_expr (some_block_is form b.1), omega arith))
      pick false true w f g h e = ((stmt_node a.span.start r.span.end (statement.Switch None None l.span.start []), 1), l ∷ r ∷ [], (switch a l r 0 0 0 None None [] [] [] [] (some_is a.kind t.switch_word (is_is (Some a.kind) t.switch_word g)) no_first no_expr refl no_cases refl, omega arith))
      pick false false true f g h e = ((stmt_node a.span.start r.span.end (statement.Select l.span.start []), 1), l ∷ r ∷ [], (select a l r 0 [] [] (some_is a.kind t.select_word (is_is (Some a.kind) t.select_word h)) refl no_comms (omega arith) refl, omega arith))
      pick false false false f g h e = absurd cc

  some_breakable : (o : Option TokenKind) → begins_breakable o ≡ true → o ≢ None
  some_breakable None e n = cc
  some_breakable (Some k) e n = cc

  -- where a label has its own level, what it labels has one
  pub no_breakable_good : (N m : ℕ) (K : Fault → Type 0) (ts : List Word) → Good N (2, m) K (BreakOf form) no_breakable no_breakable ts
  unfolding no_breakable
  no_breakable_good N m K ts =
      let fill : (c : Room) → (2, m) ⊑ c → Filled c (BreakOf form) = λ c dc. let g = a_breakable (a_word t.for_word) refl c dc.0 in (g.0, a_word t.for_word ∷ g.1, g.2) in
      by_test N (2, m) K (BreakOf form) begins_breakable too_deep refuse too_deep refuse ts
      (λ here. good_deep N (2, m) K (BreakOf form) too_deep ts (some_breakable (kind_of ts) here) (λ s r k. refl) fill
      (λ a e. let g = a_breakable a (ap begins_breakable e ∙ here) (2, m) (omega arith) in (2, g.0, g.1, omega arith, g.2)))
      (λ there. good_refuse N (2, m) K (BreakOf form) ts fill)

  pub lasting_never : Lasting Exhausted → ⊥
  lasting_never s = s

  pub high_good : (m : ℕ) (K : Fault → Type 0) → (K Exhausted → ⊥) → (ts : List Word) → Good 16 (3, m) K (Loose form) high high ts
  unfolding high
  high_good m K never ts = plain_in form K never 16 16 (omega arith) (omega arith) 2 2 m m (omega arith, omega arith) (λ s. refl) no_breakable no_breakable (λ some r. no_breakable_good 16 m K r) ts

  -- what is read up to the end, or up to a last token that only passes the limit, some statement goes on with
  goes_by : (low m : ℕ) (s : List Word) (v : Result (Tall Stmt) Fault) (rest : List Word) → At 16 (3, m) Lasting (Loose form) high s v rest → (far_of v rest).1 ≡ [] → (b : ℕ) × (x : Tall Stmt) × (more : List Word) × (low ≤ b) × Loose form (b, m) x (s ++ more)
  goes_by low m s (Ok x) [] a e = (low + 3, x, [], omega arith, rw append-nil (rw (a.cut, append-nil) (loose_rises form (3, m) (low + 3, m) (omega arith, omega arith) x a.front a.means)))
  goes_by low m s (Err f) [] a e = let g = a.means in (low + 3, g.1, g.0, omega arith, rw (a.cut, append-nil) (loose_rises form (3, m) (low + 3, m) (omega arith, omega arith) g.1 (a.front ++ g.0) g.2))
  goes_by low m s (Err TooDeep) (b ∷ []) a e =
      let g = a.means.3 in
      let same : b ≡ g.1 = heads b g.1 [] g.3 g.6 in
      let is : s ++ g.2 ≡ a.front ++ g.1 ∷ g.2 = ap (λ (w : List Word). w ++ g.2) (a.cut ∙ ap (λ (c : Word). a.front ++ c ∷ []) same) ∙ append_assoc a.front (g.1 ∷ []) g.2 in
      (low + g.0, g.4, g.2, omega arith, rw is (loose_rises form (g.0, m) (low + g.0, m) (omega arith, omega arith) g.4 (a.front ++ g.1 ∷ g.2) g.7))
  goes_by low m s (Err Unexpected) (b ∷ []) a e = absurd cc
  goes_by low m s (Err TooMany) (b ∷ []) a e = absurd cc
  goes_by low m s (Err Exhausted) (b ∷ []) a e = absurd cc
  goes_by low m s (Ok x) (b ∷ r) a e = absurd cc
  goes_by low m s (Err Unexpected) (b ∷ (c ∷ r)) a e = absurd cc
  goes_by low m s (Err TooDeep) (b ∷ (c ∷ r)) a e = absurd cc
  goes_by low m s (Err TooMany) (b ∷ (c ∷ r)) a e = absurd cc
  goes_by low m s (Err Exhausted) (b ∷ (c ∷ r)) a e = absurd cc

  pub far_goes : (low m : ℕ) (s : List Word) → (far s).1 ≡ [] → (b : ℕ) × (x : Tall Stmt) × (more : List Word) × (low ≤ b) × Loose form (b, m) x (s ++ more)
  unfolding far
  far_goes low m s e = goes_by low m s (high s).0 (high s).1 (high_good m Lasting lasting_never s) e

-- ---- where a counter breaks off

pub same_front : (f g r : List Word) → f ++ r ≡ g ++ r → f ≡ g
same_front f g r e = sym (front_is (f ++ r) f r refl) ∙ front_is (f ++ r) g r e

pub not_far : (v : Result (Tall Stmt) Fault) (b : Word) (r : List Word) → ((v ≡ Err Unexpected) ⊎ ((y : Tall Stmt) × (v ≡ Ok y))) → (far_of v (b ∷ r)).1 ≡ [] → ⊥
not_far v b r (inl i) e = go (subst (λ (w : Result (Tall Stmt) Fault). (far_of w (b ∷ r)).1 ≡ []) i e)
  where
    go : (far_of (Err Unexpected) (b ∷ r)).1 ≡ [] → ⊥
    go e = cc
not_far v b r (inr i) e = go (subst (λ (w : Result (Tall Stmt) Fault). (far_of w (b ∷ r)).1 ≡ []) i.1 e)
  where
    go : (far_of (Ok i.0) (b ∷ r)).1 ≡ [] → ⊥
    go e = cc

-- what a counter's tokens are read as by another reader
abbrev pub Parts : Reader (Tall Stmt) → Type 0
Parts big = (text : List Word) (o : Own text) → (v : Result (Tall Stmt) Fault) × (rest : List Word) × (big text ≡ (v, rest)) × ((v ≡ Err TooDeep) ⊎ (rest ≡ o.token ∷ o.back))

module _ (var : List ℕ) (mode : CounterForm) (count : ℕ) (some : 0 < count) where
  -- the tokens before it and others are a counter
  pub counter_at : (ts : List Word) (e : Fault) (a : Word) (r front : List Word) → counter_stmt var mode count ts ≡ (Err e, a ∷ r) → ts ≡ front ++ a ∷ r → (i : ℕ) × (more : List Word) × (i < count) × AllFit (counter var mode i) (front ++ more)
  counter_at ts e a r front is cut =
      let P : Outcome Stmt → Type 0 = λ o. At 0 (0, 0) (λ _. Unit {0}) (CounterOf var mode count) (counter_stmt var mode count) ts o.0 o.1 in
      let f : At 0 (0, 0) (λ _. Unit {0}) (CounterOf var mode count) (counter_stmt var mode count) ts (Err e) (a ∷ r) = subst P is (counter_good 0 (0, 0) (λ _. Unit {0}) var mode count some ts) in
      let fe : f.front ≡ front = sym (front_is ts f.front (a ∷ r) f.cut) ∙ front_is ts front (a ∷ r) cut in
      let g = f.means in
      let c = g.2 in
      (c.2, g.0, c.4, subst (λ (z : List Word). AllFit (counter var mode c.2) (z ++ g.0)) fe (subst (AllFit (counter var mode c.2)) (sym c.3) c.5))

  module _ (n : ℕ) (d : Room) (big : Reader (Tall Stmt)) (parts : Parts big) where
    -- another reader that stops before it has too few levels, if some statement goes on
    clash : (ts : List Word) (e : Fault) (a : Word) (r front : List Word) → counter_stmt var mode count ts ≡ (Err e, a ∷ r) → ts ≡ front ++ a ∷ r → (far (front ++ a ∷ [])).1 ≡ []
        → (v : Result (Tall Stmt) Fault) (behind : List Word) → Stable Lasting v → (v ≡ Err TooDeep → ⊥) → At n d Lasting (Loose (covered var mode count)) big ts v behind → length (a ∷ r) < length behind → ⊥
    unfolding far high
    clash ts e a r front is cut goes v behind st other g lt =
        let z = later_cut g.front front behind (a ∷ r) (sym g.cut ∙ cut) (omega arith) in
        by z.0 z.1 z.2
      where
        by : (z : List Word) → front ≡ g.front ++ z → behind ≡ z ++ a ∷ r → ⊥
        by [] fe be = let l : length behind ≡ length (a ∷ r) = ap length be in absurd (omega arith)
        by (y ∷ ys) fe be =
            let k = counter_at ts e a r front is cut in
            let more = k.1 in
            let o : Own (front ++ more) = own var mode k.0 (front ++ more) k.3 in
            let whole : front ++ more ≡ g.front ++ (y ∷ (ys ++ more)) = joined front g.front (y ∷ ys) more (y ∷ (ys ++ more)) fe refl in
            let fst : first (y ∷ (ys ++ more)) ≡ first behind = sym (ap first be) in
            let b1 : big (front ++ more) ≡ (v, y ∷ (ys ++ more)) = ap big whole ∙ g.same st (y ∷ (ys ++ more)) fst in
            let b2 = parts (front ++ more) o in
            let both : (v, y ∷ (ys ++ more)) ≡ (b2.0, b2.1) = sym b1 ∙ b2.2 in
            at_part o (ap (λ (w : Outcome (Tall Stmt)). w.0) both) (ap (λ (w : Outcome (Tall Stmt)). w.1) both) whole b2.3
          where
            at_part : {v2 : Result (Tall Stmt) Fault} {rest2 : List Word} (o : Own (front ++ (counter_at ts e a r front is cut).1)) → v ≡ v2 → y ∷ (ys ++ (counter_at ts e a r front is cut).1) ≡ rest2 → front ++ (counter_at ts e a r front is cut).1 ≡ g.front ++ (y ∷ (ys ++ (counter_at ts e a r front is cut).1)) → ((v2 ≡ Err TooDeep) ⊎ (rest2 ≡ o.token ∷ o.back)) → ⊥
            at_part o ve re whole (inl i) = other (ve ∙ i)
            at_part o ve re whole (inr i) =
                let more = (counter_at ts e a r front is cut).1 in
                let same : y ∷ (ys ++ more) ≡ o.token ∷ o.back = re ∙ i in
                let ye : y ≡ o.token = heads y o.token (ys ++ more) o.back same in
                let fe2 : g.front ≡ o.front = same_front g.front o.front (o.token ∷ o.back) (ap (λ (w : List Word). g.front ++ w) (sym same) ∙ sym whole ∙ o.both) in
                let fe3 : front ++ a ∷ [] ≡ o.front ++ o.token ∷ (ys ++ a ∷ []) = ap (λ (w : List Word). w ++ a ∷ []) (fe ∙ ap (λ (w : List Word). w ++ y ∷ ys) fe2 ∙ ap (λ (c : Word). o.front ++ c ∷ ys) ye) ∙ append_assoc o.front (o.token ∷ ys) (a ∷ []) in
                let h = o.high 15 0 no_breakable (ys ++ a ∷ []) (omega arith) in
                let there : plain_stmt 16 2 no_breakable (front ++ a ∷ []) ≡ (h.0, o.token ∷ (ys ++ a ∷ [])) = ap (plain_stmt 16 2 no_breakable) fe3 ∙ h.1 in
                not_far h.0 o.token (ys ++ a ∷ []) h.2 (sym (ap (λ (w : Outcome (Tall Stmt)). (far_of w.0 w.1).1) there) ∙ goes)

    short_by : (ts : List Word) (e : Fault) (a : Word) (r front : List Word) → counter_stmt var mode count ts ≡ (Err e, a ∷ r) → ts ≡ front ++ a ∷ r → (far (front ++ a ∷ [])).1 ≡ []
        → (v : Result (Tall Stmt) Fault) (behind : List Word) → At n d Lasting (Loose (covered var mode count)) big ts v behind → length (a ∷ r) < length behind → (v ≡ Err TooDeep) ⊎ (v ≡ Err Exhausted)
    short_by ts e a r front is cut goes (Ok x) behind g lt = absurd (clash ts e a r front is cut goes (Ok x) behind tt (λ i. cc) g lt)
    short_by ts e a r front is cut goes (Err Unexpected) behind g lt = absurd (clash ts e a r front is cut goes (Err Unexpected) behind tt (λ i. cc) g lt)
    short_by ts e a r front is cut goes (Err TooDeep) behind g lt = inl refl
    short_by ts e a r front is cut goes (Err TooMany) behind g lt = absurd (clash ts e a r front is cut goes (Err TooMany) behind tt (λ i. cc) g lt)
    short_by ts e a r front is cut goes (Err Exhausted) behind g lt = inr refl

  module _ (small : count ≤ 2 ^ 32) (K : Fault → Type 0) (never : K Exhausted → ⊥) (n : ℕ) (d : Room) (p q big : Reader (Tall Stmt)) (parts : Parts big)
      (other_good : (ts : List Word) → Good n d K (Loose (covered var mode count)) p q ts) (big_good : (ts : List Word) → Good n d Lasting (Loose (covered var mode count)) p big ts) where
    counts : (b : Room) (x : Stmt) (w : List Word) → CounterOf var mode count b x w → (Loose (covered var mode count)) b (x, 0) w
    counts b x w (a, u, i, we, lt, f, xe) = rw (we, xe) (counted a var mode count i u refl lt f, inl (inl (omega arith)))

    counted_good : (ts : List Word) → Good n d K (Loose (covered var mode count)) (counted_or (counter_stmt var mode count) alone far p) (counted_or (counter_stmt var mode count) alone far q) ts
    counted_good ts = counted_or_good n K never d d (Loose (covered var mode count)) (CounterOf var mode count) (counter_stmt var mode count) (λ r. counter_good n d (λ _. Unit {0}) var mode count some r)
        (λ b le x w i. counts b x w i) alone
        (λ r e a s front is cut x stop al. let k = counter_at r e a s front is cut in let g = stands a stop var count some small mode k.0 k.2 front k.1 k.3 x al in (g.0 d.1, inr g.1))
        far (λ s e. (far_goes (covered var mode count)) d.0 d.1 s e) p q other_good
        (λ r e a s front is cut goes lt. short_by n d big parts r e a s front is cut goes (p r).0 (p r).1 (big_good r) lt) ts

    parted : Reader (Tall Stmt) → Reader (Tall Stmt)
    parted o = λ r. if fits (first_fit var mode) r then counted_or (counter_stmt var mode count) alone far o r else o r

    parted_is : (o : Reader (Tall Stmt)) (r : List Word) → or_counter (covered var mode count) o r ≡ parted o r
    unfolding or_counter parted
    parted_is o r = rw (lt-ltb 0 count some) refl

    pub or_counter_good : (ts : List Word) → Good n d K (Loose (covered var mode count)) (or_counter (covered var mode count) p) (or_counter (covered var mode count) q) ts
    unfolding parted
    or_counter_good ts =
        good_eq n d K (Loose (covered var mode count)) (parted p) (or_counter (covered var mode count) p) (parted q) (or_counter (covered var mode count) q) ts (parted_is p ts) (parted_is q)
        (by_fit n d K (Loose (covered var mode count)) (first_fit var mode) (counted_or (counter_stmt var mode count) alone far p) p (counted_or (counter_stmt var mode count) alone far q) q ts
        (λ here. counted_good ts) (λ there. other_good ts))

-- ---- whether the form has counters

pub data Counting : TextForm → Type 0 where
  counting : (var : List ℕ) (mode : CounterForm) (count : ℕ) → 0 < count → Counting (covered var mode count)

pub counting_or_not : (form : TextForm) → Counting form ⊎ ((least form ≡ 1) × ((o : Reader (Tall Stmt)) (r : List Word) → or_counter form o r ≡ o r))
unfolding or_counter
counting_or_not text_form.Source = inr (refl, λ o r. refl)
counting_or_not (text_form.Covered var mode zero) = inr (refl, λ o r. refl)
counting_or_not (text_form.Covered var mode (suc count)) = inl (counting var mode (suc count) (omega arith))

pub counting_least : (form : TextForm) → Counting form → least form ≡ 0
counting_least _ (counting var mode count some) = rw (lt-ltb 0 count some) refl

module _ (form : TextForm) (small : Small form) (K : Fault → Type 0) (never : K Exhausted → ⊥) (n : ℕ) (d : Room) (p q big : Reader (Tall Stmt)) (parts : Parts big) where
  pub or_good : (other_good : (ts : List Word) → Good n d K (Loose form) p q ts) (big_good : (ts : List Word) → Good n d Lasting (Loose form) p big ts) → (ts : List Word) → Good n d K (Loose form) (or_counter form p) (or_counter form q) ts
  or_good other_good big_good ts = by form small (counting_or_not form) other_good big_good
    where
      by : (f : TextForm) → Small f → Counting f ⊎ ((least f ≡ 1) × ((o : Reader (Tall Stmt)) (r : List Word) → or_counter f o r ≡ o r)) → ((ts : List Word) → Good n d K (Loose f) p q ts) → ((ts : List Word) → Good n d Lasting (Loose f) p big ts) → Good n d K (Loose f) (or_counter f p) (or_counter f q) ts
      by f sm (inl (counting var mode count some)) og bg = or_counter_good var mode count some sm K never n d p q big parts og bg ts
      by f sm (inr i) og bg = good_eq n d K (Loose f) p (or_counter f p) q (or_counter f q) ts (i.1 p ts) (i.1 q) (og ts)

-- where a text has counters, a statement needs no level
pub a_counter : (form : TextForm) → Counting form → (b : Room) → Filled b (Loose form)
a_counter _ (counting var mode count some) b =
    let g = (counter_good 0 (0, 0) (λ _. Unit {0}) var mode count some []).filled b (omega arith, omega arith) in
    let c = g.2 in
    ((g.0, 0), g.1, rw (c.3, c.6) (counted c.0 var mode count c.2 c.1 refl c.4 c.5, inl (inl (omega arith))))
