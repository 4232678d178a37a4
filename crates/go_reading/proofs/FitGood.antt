-- The readers of tokens that are known one by one, and of counters, are good.
use Rattle.std.proofs.Common.{◌≡◌, ◌&&◌, ℕ, ◌≤◌, ◌<◌, ◌^◌, Bool, true, false, List, [], ◌∷◌, ◌++◌, Option, Some, None, Ok, Err, refl, sym, subst, ◌∙◌, arith, nat_lt, decimal, if◌then◌else◌}
use Rattle.std.proofs.lemmas.List.{append-nil}
use Rattle.std.proofs.lemmas.Bool.{ltb-true, lt-ltb}
use Rattle.std.proofs.lemmas.Slice.Eq.{bytes_eq-Decides}
use Rattle.std.proofs.lemmas.Fmt.{decimal_is_IsNumeral}
use Rattle.std.specs.Str.{bytes_eq}
use Rattle.std.specs.Str.Parse.{digits_value}
use Rattle.go_ast.specs.declared.token.TokenKind.TheVariants as kind
use Rattle.go_ast.specs.declared.block.Stmt.{Stmt}
use Rattle.go_ast.specs.declared.block.StmtForm.TheVariants as statement
use Rattle.go_grammar.specs.declared.form.CounterForm.{CounterForm}
use Rattle.go_grammar.specs.declared.form.CounterForm.TheVariants as counter_form
use Rattle.go_grammar.specs.Words.{Word}
use Rattle.go_grammar.specs.Patterns.{Pattern, IsSpelled, Fits, AllFit}
use Rattle.go_grammar.specs.Covering.{number, counter}
use Rattle.go_grammar.specs.Blocks.{last_end}
use Rattle.go_grammar.specs.Trees.{stmt_node}
use Rattle.go_reading.specs.declared.fault.Fault.{Fault}
use Rattle.go_reading.specs.declared.fault.Fault.TheVariants.{Unexpected}
use Rattle.go_reading.specs.Kinds.{is}
use Rattle.go_reading.specs.Input.{Outcome, head, next, kind_of}
use Rattle.go_reading.specs.Counters.{is_spelled, fits, expect_fit, expect_all, index_of, index_by, expect_index, first_fit, before_index, behind_index, counter_stmt}
use Rattle.go_reading.proofs.Good.{Room, Form, At, Good, Rises, first, seq, weaker, good_pure, same_is}
use Rattle.go_reading.proofs.OverGood.{same_first, no_first}

-- ---- one token

abbrev pub FitOf : Pattern → Form Word
FitOf p b w u = (u ≡ w ∷ []) × Fits p w

fit_rises : (p : Pattern) → Rises (FitOf p)
fit_rises p b c le w u i = i

abbrev bytes_of : Option (List ℕ) → List ℕ
bytes_of None = []
bytes_of (Some bytes) = bytes

fit_word : Pattern → Word
fit_word p = record { kind = p.kind; bytes = bytes_of p.bytes; span = record { start = 0; end = 0 } }

spelled_self : (o : Option (List ℕ)) → IsSpelled o (bytes_of o)
spelled_self None = tt
spelled_self (Some bytes) = refl

a_fit : (p : Pattern) → Fits p (fit_word p)
unfolding fit_word
a_fit p = (refl, spelled_self p.bytes)

-- words that fit
pub fit_words : List Pattern → List Word
fit_words [] = []
fit_words (p ∷ ps) = fit_word p ∷ fit_words ps

pub all_words : (ps : List Pattern) → AllFit ps (fit_words ps)
unfolding fit_words
all_words [] = tt
all_words (p ∷ ps) = (a_fit p, all_words ps)

pub spelled_is : (o : Option (List ℕ)) (bytes : List ℕ) → is_spelled o bytes ≡ true → IsSpelled o bytes
spelled_is None bytes e = tt
spelled_is (Some wanted) bytes e = (bytes_eq-Decides bytes wanted).0 e

pub is_spelled_self : (o : Option (List ℕ)) (bytes : List ℕ) → IsSpelled o bytes → is_spelled o bytes ≡ true
is_spelled_self None bytes i = refl
is_spelled_self (Some wanted) bytes i = (bytes_eq-Decides bytes wanted).1 i

both_true : (a b : Bool) → (a && b) ≡ true → (a ≡ true) × (b ≡ true)
both_true true b e = (refl, e)
both_true false b e = absurd cc

pub fits_word : (p : Pattern) (w : Word) (ws : List Word) → fits p (w ∷ ws) ≡ true → Fits p w
fits_word p w ws e = let b = both_true (is (Some w.kind) p.kind) (is_spelled p.bytes w.bytes) e in (same_is w.kind p.kind b.0, spelled_is p.bytes w.bytes b.1)

-- the first token decides
pub fits_first : (p : Pattern) (r ts : List Word) → first r ≡ first ts → fits p r ≡ fits p ts
fits_first p [] [] e = refl
fits_first p [] (w ∷ ws) e = absurd cc
fits_first p (w ∷ ws) [] e = absurd cc
fits_first p (v ∷ vs) (w ∷ ws) e = let i : v ≡ w = some_word v w e in rw i refl
  where
    some_word : (v w : Word) → Some v ≡ Some w → v ≡ w
    some_word v w e = cc

abbrev fit_if : Bool → List Word → Outcome Word
fit_if b ts = if b then (Ok (head ts), next ts) else (Err Unexpected, ts)

fit_at : (N : ℕ) (d : Room) (K : Fault → Type 0) (p : Pattern) (ts : List Word) (b : Bool) → fits p ts ≡ b → At N d K (FitOf p) (expect_fit p) ts (fit_if b ts).0 (fit_if b ts).1
unfolding expect_fit
fit_at N d K p ts false e = record {
  front = [];
  cut = refl;
  same = λ s r k. rw (fits_first p r ts k, e) refl;
  means = (fit_word p ∷ [], fit_word p, (refl, a_fit p), tt);
  filled = λ b le. (fit_word p, fit_word p ∷ [], (refl, a_fit p));
  enough = λ lt x. cc;
}
fit_at N d K p [] true e = absurd cc
fit_at N d K p (w ∷ ws) true e = record {
  front = w ∷ [];
  cut = refl;
  same = λ s r k. rw e refl;
  means = (refl, fits_word p w ws e);
  filled = λ b le. (fit_word p, fit_word p ∷ [], (refl, a_fit p));
  enough = λ lt x. cc;
}

pub expect_fit_good : (N : ℕ) (d : Room) (K : Fault → Type 0) (p : Pattern) (ts : List Word) → Good N d K (FitOf p) (expect_fit p) (expect_fit p) ts
unfolding expect_fit
expect_fit_good N d K p ts = fit_at N d K p ts (fits p ts) refl

-- ---- some tokens

abbrev pub end_of : ℕ → List Word → ℕ
end_of end [] = end
end_of end (w ∷ ws) = end_of w.span.end ws

-- tokens that fit, and where they end
abbrev pub AllOf : List Pattern → ℕ → Form ℕ
AllOf ps end b e u = AllFit ps u × (e ≡ end_of end u)

pub all_rise : (ps : List Pattern) (end : ℕ) → Rises (AllOf ps end)
all_rise ps end b c le e u i = i

pub expect_all_good : (N : ℕ) (d : Room) (K : Fault → Type 0) (ps : List Pattern) (end : ℕ) (ts : List Word) → Good N d K (AllOf ps end) (expect_all ps end) (expect_all ps end) ts
unfolding expect_all
expect_all_good N d K [] end ts = good_pure N d K (AllOf [] end) end ts (λ b le. (tt, refl))
expect_all_good N d K (p ∷ ps) end ts = seq N d K (FitOf p) (AllOf (p ∷ ps) end) (expect_fit p) _ _ ts _ _ (fit_rises p) (expect_fit_good N d K p ts) (λ w _ r.
    weaker N d K (AllOf ps w.span.end) _ _ _ _ _ (λ b db e v iv u iu. rw iu.0 ((iu.1, iv.0), iv.1)) (expect_all_good N d K ps w.span.end r))

-- ---- the number of a unit

abbrev pub IndexOf : ℕ → Form ℕ
IndexOf count b i u = (w : Word) × (u ≡ w ∷ []) × (w.kind ≡ kind.Int) × (w.bytes ≡ decimal i) × (i < count)

index_rises : (count : ℕ) → Rises (IndexOf count)
index_rises count b c le i u x = x

abbrev some_number : ℕ → Option ℕ
some_number n = Some n

number_is : (a b : ℕ) → some_number a ≡ some_number b → a ≡ b
number_is a b e = cc

pub index_sound : (count : ℕ) (bytes : List ℕ) (i : ℕ) → index_of count bytes ≡ Some i → (bytes ≡ decimal i) × (i < count)
unfolding index_of
index_sound count bytes i e = by (digits_value 10 bytes) (nat_lt (digits_value 10 bytes) count) (bytes_eq bytes (decimal (digits_value 10 bytes))) refl refl e
  where
    by : (v : ℕ) (a b : Bool) → nat_lt v count ≡ a → bytes_eq bytes (decimal v) ≡ b → (if a && b then Some v else None) ≡ Some i → (bytes ≡ decimal i) × (i < count)
    by v true true p q e = let n = number_is v i e in (rw (sym n) ((bytes_eq-Decides bytes (decimal v)).0 q), rw (sym n) (ltb-true v count p))
    by v true false p q e = absurd cc
    by v false b p q e = absurd cc

pub index_complete : (count i : ℕ) → i < count → count ≤ 2 ^ 32 → index_of count (decimal i) ≡ Some i
unfolding index_of
index_complete count i lt le =
    let v : digits_value 10 (decimal i) ≡ i = (decimal_is_IsNumeral i (omega arith)).1 in
    rw (v, lt-ltb i count lt, (bytes_eq-Decides (decimal i) (decimal i)).1 refl) refl

abbrev index_at_kind : Bool → Option ℕ → List Word → Outcome ℕ
index_at_kind false o ts = (Err Unexpected, ts)
index_at_kind true None ts = (Err Unexpected, ts)
index_at_kind true (Some i) ts = (Ok i, next ts)

index_is : (count : ℕ) (ts : List Word) → expect_index count ts ≡ index_at_kind (is (kind_of ts) kind.Int) (index_of count (head ts).bytes) ts
unfolding expect_index
index_is count ts = by (is (kind_of ts) kind.Int) (index_of count (head ts).bytes)
  where
    by : (b : Bool) (o : Option ℕ) → (if b then index_by o ts else (Err Unexpected, ts)) ≡ index_at_kind b o ts
    by false o = refl
    by true None = refl
    by true (Some i) = refl

index_word : ℕ → Word
index_word i = record { kind = kind.Int; bytes = decimal i; span = record { start = 0; end = 0 } }

an_index : (count : ℕ) → 0 < count → (b : Room) → IndexOf count b 0 (index_word 0 ∷ [])
unfolding index_word
an_index count some b = (index_word 0, refl, refl, refl, some)

index_at : (N : ℕ) (d : Room) (K : Fault → Type 0) (count : ℕ) → 0 < count → (ts : List Word) (b : Bool) (o : Option ℕ) → is (kind_of ts) kind.Int ≡ b → index_of count (head ts).bytes ≡ o
    → At N d K (IndexOf count) (expect_index count) ts (index_at_kind b o ts).0 (index_at_kind b o ts).1
index_at N d K count some [] false o e f = record {
  front = [];
  cut = refl;
  same = λ s r k. let n = no_first r k in rw n (index_is count [] ∙ refl);
  means = (index_word 0 ∷ [], 0, an_index count some d, tt);
  filled = λ b le. (0, index_word 0 ∷ [], an_index count some b);
  enough = λ lt x. cc;
}
index_at N d K count some (w ∷ ws) false o e f = record {
  front = [];
  cut = refl;
  same = λ s r k. let p = same_first w r ws k in rw p.1 (index_is count (w ∷ p.0) ∙ rw e refl);
  means = (index_word 0 ∷ [], 0, an_index count some d, tt);
  filled = λ b le. (0, index_word 0 ∷ [], an_index count some b);
  enough = λ lt x. cc;
}
index_at N d K count some [] true o e f = absurd cc
index_at N d K count some (w ∷ ws) true None e f = record {
  front = [];
  cut = refl;
  same = λ s r k. let p = same_first w r ws k in rw p.1 (index_is count (w ∷ p.0) ∙ rw (e, f) refl);
  means = (index_word 0 ∷ [], 0, an_index count some d, tt);
  filled = λ b le. (0, index_word 0 ∷ [], an_index count some b);
  enough = λ lt x. cc;
}
index_at N d K count some (w ∷ ws) true (Some i) e f =
    let j = index_sound count w.bytes i f in
    record {
      front = w ∷ [];
      cut = refl;
      same = λ s r k. index_is count (w ∷ r) ∙ rw (e, f) refl;
      means = (w, refl, same_is w.kind kind.Int e, j.0, j.1);
      filled = λ b le. (0, index_word 0 ∷ [], an_index count some b);
      enough = λ lt x. cc;
    }

pub expect_index_good : (N : ℕ) (d : Room) (K : Fault → Type 0) (count : ℕ) → 0 < count → (ts : List Word) → Good N d K (IndexOf count) (expect_index count) (expect_index count) ts
expect_index_good N d K count some ts =
    let P : Outcome ℕ → Type 0 = λ o. At N d K (IndexOf count) (expect_index count) ts o.0 o.1 in
    subst P (sym (index_is count ts)) (index_at N d K count some ts (is (kind_of ts) kind.Int) (index_of count (head ts).bytes) refl refl)

-- ---- a counter

-- the counter of a unit below count
abbrev pub CounterOf : List ℕ → CounterForm → ℕ → Form Stmt
CounterOf var mode count b x w = (a : Word) × (u : List Word) × (i : ℕ) × (w ≡ a ∷ u) × (i < count) × AllFit (counter var mode i) (a ∷ u) × (x ≡ stmt_node a.span.start (last_end a u) (statement.Count i))

pub fit_append : (ps qs : List Pattern) (u v : List Word) → AllFit ps u → AllFit qs v → AllFit (ps ++ qs) (u ++ v)
fit_append [] qs [] v i j = j
fit_append [] qs (w ∷ ws) v i j = absurd i
fit_append (p ∷ ps) qs [] v i j = absurd i
fit_append (p ∷ ps) qs (w ∷ ws) v i j = (i.0, fit_append ps qs ws v i.1 j)

pub counter_parts : (var : List ℕ) (mode : CounterForm) (i : ℕ) → counter var mode i ≡ first_fit var mode ∷ (before_index var mode ++ number i ∷ behind_index mode)
counter_parts var counter_form.SetForm i = refl
counter_parts var counter_form.CountForm i = refl
counter_parts var counter_form.AtomicForm i = refl

pub last_is : (a : Word) (u : List Word) → last_end a u ≡ end_of a.span.end u
last_is a [] = refl
last_is a (b ∷ u) = last_is b u

pub end_append : (end : ℕ) (u v : List Word) → end_of end (u ++ v) ≡ end_of (end_of end u) v
end_append end [] v = refl
end_append end (w ∷ u) v = end_append w.span.end u v

pub behind_end : (mode : CounterForm) (v : List Word) → AllFit (behind_index mode) v → (e e' : ℕ) → end_of e v ≡ end_of e' v
behind_end counter_form.SetForm [] i e e' = absurd i
behind_end counter_form.CountForm [] i e e' = absurd i
behind_end counter_form.AtomicForm [] i e e' = absurd i
behind_end mode (w ∷ v) i e e' = refl

counter_is : (var : List ℕ) (mode : CounterForm) (count : ℕ) (b : Room) (a n : Word) (u v : List Word) (i : ℕ) → Fits (first_fit var mode) a → AllFit (before_index var mode) u → n.kind ≡ kind.Int → n.bytes ≡ decimal i → i < count → AllFit (behind_index mode) v
    → CounterOf var mode count b (stmt_node a.span.start (end_of 0 v) (statement.Count i)) (a ∷ (u ++ n ∷ v))
counter_is var mode count b a n u v i fa fu kn bn lt fv =
    let e : last_end a (u ++ n ∷ v) ≡ end_of 0 v = last_is a (u ++ n ∷ v) ∙ end_append a.span.end u (n ∷ v) ∙ behind_end mode v fv n.span.end 0 in
    (a, u ++ n ∷ v, i, refl, lt, rw (counter_parts var mode i) (fa, fit_append (before_index var mode) (number i ∷ behind_index mode) u (n ∷ v) fu ((kn, bn), fv)), rw e refl)

pub counter_good : (N : ℕ) (d : Room) (K : Fault → Type 0) (var : List ℕ) (mode : CounterForm) (count : ℕ) → 0 < count → (ts : List Word) → Good N d K (CounterOf var mode count) (counter_stmt var mode count) (counter_stmt var mode count) ts
unfolding counter_stmt
counter_good N d K var mode count some ts = seq N d K (FitOf (first_fit var mode)) _ (expect_fit (first_fit var mode)) _ _ ts _ _ (fit_rises (first_fit var mode)) (expect_fit_good N d K (first_fit var mode) ts) (λ a _ r1.
    seq N d K (AllOf (before_index var mode) 0) _ (expect_all (before_index var mode) 0) _ _ r1 _ _ (all_rise (before_index var mode) 0) (expect_all_good N d K (before_index var mode) 0 r1) (λ e1 _ r2.
    seq N d K (IndexOf count) _ (expect_index count) _ _ r2 _ _ (index_rises count) (expect_index_good N d K count some r2) (λ i _ r3.
    seq N d K (AllOf (behind_index mode) 0) _ (expect_all (behind_index mode) 0) _ _ r3 _ _ (all_rise (behind_index mode) 0) (expect_all_good N d K (behind_index mode) 0 r3) (λ e _ r4.
    good_pure N d K _ _ r4 (λ b le v iv n iz u iu a' ia. rw (append-nil, iv.1, ia.0, iz.1) (counter_is var mode count b a iz.0 u v i ia.1 iu.0 iz.2 iz.3 iz.4 iv.0))))))

-- it begins with a name
pub counter_named : (var : List ℕ) (mode : CounterForm) (i : ℕ) (a : Word) (u : List Word) → AllFit (counter var mode i) (a ∷ u) → a.kind ≡ kind.Name
counter_named var counter_form.SetForm i a u f = f.0.0
counter_named var counter_form.CountForm i a u f = f.0.0
counter_named var counter_form.AtomicForm i a u f = f.0.0
