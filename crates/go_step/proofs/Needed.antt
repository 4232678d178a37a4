-- An item has a move exactly where what it needs is there.
use Rattle.std.proofs.Common.{◌≡◌, ℕ, zero, suc, ◌+◌, ◌≤◌, Bool, true, false, cond, List, [], ◌∷◌, ◌++◌, Option, Some, None, Result, Ok, Err, refl, ap, ◌∙◌, length, reverse, take, arith, ℤ, pos, negsuc}
use Rattle.std.specs.Prelude.{◌&&◌, codes, nat_le, nat_lt, drop, slice_range, is_some, slice_get, option_map, option_and_then}
use Rattle.std.specs.Option.{option_flatten}
use Rattle.std.proofs.lemmas.Bool.{leb-true}
use Rattle.std.proofs.lemmas.List.{length-reverse, length-take-le}
use Rattle.go_value.specs.declared.int.Int.{Int}
use Rattle.go_value.specs.declared.fault.ValueFault.{ValueFault}
use Rattle.go_value.specs.declared.fault.ValueFault.TheVariants.{DivideByZero, NegativeShift}
use Rattle.go_value.specs.declared.fault.TextFault.TheVariants as faults
use Rattle.go_value.specs.declared.fault.OutOfRange.{OutOfRange}
use Rattle.go_value.specs.Integers.{value_of}
use Rattle.go_value.specs.Texts.{within_limit, cut, joined}
use Rattle.go_meaning.specs.declared.value.Value.{Value}
use Rattle.go_meaning.specs.declared.value.Value.TheVariants as value
use Rattle.go_meaning.specs.declared.value.Channel.{Channel}
use Rattle.go_meaning.specs.declared.expr.Variable.TheVariants.{Slot, Global}
use Rattle.go_meaning.specs.declared.expr.Relation.{Relation}
use Rattle.go_meaning.specs.declared.expr.Target.{Target}
use Rattle.go_meaning.specs.declared.expr.Op.{Op}
use Rattle.go_meaning.specs.declared.expr.Op.TheVariants as op
use Rattle.go_meaning.specs.declared.expr.Expr.{Expr, out-Expr}
use Rattle.go_meaning.specs.declared.expr.Expr.TheOpen.{Expr-F}
use Rattle.go_meaning.specs.declared.node.NodeForm.{NodeForm}
use Rattle.go_meaning.specs.declared.node.NodeForm.TheVariants as node
use Rattle.go_meaning.specs.declared.node.Deferral.{Deferral}
use Rattle.go_meaning.specs.declared.node.Deferral.TheVariants as deferral
use Rattle.go_meaning.specs.declared.item.Item.{Item}
use Rattle.go_meaning.specs.declared.item.Item.TheVariants.{Run, Eval, Drop, Assign, Do, And, Or, Branch, Loop, Test, Next, Each, Pull, Match, Compare, Pick, Leave, Send, Recv, RecvOk, Spawn, Defer, Call, Return, Unwind}
use Rattle.go_meaning.specs.declared.event.End.TheVariants as ends
use Rattle.go_meaning.specs.declared.act.Act.{Act}
use Rattle.go_meaning.specs.declared.act.Act.TheVariants as act
use Rattle.go_meaning.specs.declared.config.Frame.{Frame}
use Rattle.go_meaning.specs.declared.config.Config.{Config}
use Rattle.go_meaning.specs.Programs.{Parts, function_at, form_at}
use Rattle.go_meaning.specs.Values as values
use Rattle.go_meaning.specs.Operations as operations
use Rattle.go_meaning.specs.Operations.{on_value, on_flag, on_number, on_text, on_channel, top, apply, calculated, compared, indexed, a_text, cut_text, channel_at, measured, made, closed_by, closed, written, printed, locked, unlocked, set_number, added, waited}
use Rattle.go_meaning.specs.Acts.{Slots, run, constant, pushed, eval, loop, decided, next, each, advance, branch, cases, matched, match_case, compare, compare_case, has, assign, act_of}
use Rattle.go_meaning.specs.Moves.{Taken, taken, operands_of, deferred_call, defer, put}
use Rattle.go_step.specs.Needs.{is_flag, is_number, is_text, is_channel, is_measured, can_compare, can_close, is_unlocked, is_zero, can_cut, can_apply, can_run, is_for, is_range, is_switch, has_case, can_eval, can_assign, can_act, has_move}

module _ (P : Parts) (st : List Value) where
  has_if : (b : Bool) (x y : Act) → has_move P x st ≡ true → has_move P y st ≡ true → has_move P (cond b x y) st ≡ true
  has_if true x y h k = h
  has_if false x y h k = k

  or_stuck : (b : Bool) (x : Act) → has_move P x st ≡ true → has_move P (cond b x act.Stuck) st ≡ b
  or_stuck true x h = h
  or_stuck false x h = refl

  -- ---- operands by their kinds

  has_number : (o : Option Value) (f : Int → Act) (b : Bool) → ((i : Int) → has_move P (f i) st ≡ b) → has_move P (on_number o f) st ≡ (is_number o && b)
  unfolding on_number
  has_number (Some (value.Number i)) f b h = h i
  has_number o f b h = refl

  has_text : (o : Option Value) (f : List ℕ → Act) (b : Bool) → ((s : List ℕ) → has_move P (f s) st ≡ b) → has_move P (on_text o f) st ≡ (is_text o && b)
  unfolding on_text
  has_text (Some (value.Text s)) f b h = h s
  has_text o f b h = refl

  has_flag : (o : Option Value) (f : Bool → Act) (b : Bool) → ((x : Bool) → has_move P (f x) st ≡ b) → has_move P (on_flag o f) st ≡ (is_flag o && b)
  unfolding on_flag
  has_flag (Some (value.Flag x)) f b h = h x
  has_flag o f b h = refl

  has_value : (o : Option Value) (f : Value → Act) (b : Bool) → ((v : Value) → has_move P (f v) st ≡ b) → has_move P (on_value o f) st ≡ (is_some o && b)
  unfolding on_value
  has_value (Some v) f b h = h v
  has_value None f b h = refl

  and_true : (b : Bool) → (b && true) ≡ b
  and_true true = refl
  and_true false = refl

  a_number : (o : Option Value) (f : Int → Act) → ((i : Int) → has_move P (f i) st ≡ true) → has_move P (on_number o f) st ≡ is_number o
  a_number o f h = has_number o f true h ∙ and_true (is_number o)

  a_text' : (o : Option Value) (f : List ℕ → Act) → ((s : List ℕ) → has_move P (f s) st ≡ true) → has_move P (on_text o f) st ≡ is_text o
  a_text' o f h = has_text o f true h ∙ and_true (is_text o)

  a_flag : (o : Option Value) (f : Bool → Act) → ((x : Bool) → has_move P (f x) st ≡ true) → has_move P (on_flag o f) st ≡ is_flag o
  a_flag o f h = has_flag o f true h ∙ and_true (is_flag o)

  a_value : (o : Option Value) (f : Value → Act) → ((v : Value) → has_move P (f v) st ≡ true) → has_move P (on_value o f) st ≡ is_some o
  a_value o f h = has_value o f true h ∙ and_true (is_some o)

  -- ---- operations

  of_calculated : (r : Result Int ValueFault) → has_move P (calculated r) st ≡ true
  unfolding calculated
  of_calculated (Ok i) = refl
  of_calculated (Err DivideByZero) = refl
  of_calculated (Err NegativeShift) = refl

  of_indexed : (r : Result ℕ OutOfRange) → has_move P (indexed r) st ≡ true
  unfolding indexed
  of_indexed (Ok b) = refl
  of_indexed (Err e) = refl

  of_compared : (o : Option Bool) → has_move P (compared o) st ≡ is_some o
  unfolding compared
  of_compared None = refl
  of_compared (Some b) = refl

  within : (n : ℕ) (b : Bool) (s : List ℕ) → has_move P (a_text n (cond b (Ok s) (Err faults.StringLimit))) st ≡ true
  unfolding a_text
  within n true s = refl
  within n false s = refl

  of_joined : (n : ℕ) (a b : List ℕ) → has_move P (a_text n (joined a b)) st ≡ true
  of_joined n a b = within n (nat_le (length (a ++ b)) 1048576) (a ++ b)

  of_cut : (n : ℕ) (s : List ℕ) (i j : ℤ) → has_move P (a_text n (cut s i j)) st ≡ true
  unfolding a_text
  of_cut n s (pos i) (pos j) = by (nat_le i j && nat_le j (length s))
    where
      by : (b : Bool) → has_move P (a_text n (cond b (within_limit (slice_range s i j)) (Err faults.OutOfRange))) st ≡ true
      by true = within n (nat_le (length (slice_range s i j)) 1048576) (slice_range s i j)
      by false = refl
  of_cut n s (pos i) (negsuc j) = refl
  of_cut n s (negsuc i) j = refl

  of_cut_text : (low high : Bool) → has_move P (cut_text low high st) st ≡ can_cut low high st
  unfolding cut_text
  of_cut_text true true = has_number (top 0 st) _ (is_number (top 1 st) && is_text (top 2 st)) (λ j. has_number (top 1 st) _ (is_text (top 2 st)) (λ i. a_text' (top 2 st) _ (λ s. of_cut 3 s (value_of i) (value_of j))))
  of_cut_text true false = has_number (top 0 st) _ (is_text (top 1 st)) (λ i. a_text' (top 1 st) _ (λ s. of_cut 2 s (value_of i) (pos (length s))))
  of_cut_text false true = has_number (top 0 st) _ (is_text (top 1 st)) (λ j. a_text' (top 1 st) _ (λ s. of_cut 2 s (pos 0) (value_of j)))
  of_cut_text false false = a_text' (top 0 st) _ (λ s. of_cut 1 s (pos 0) (pos (length s)))

  of_measured : (c : Config) (o : Option Value) → has_move P (on_value o (measured c)) st ≡ is_measured o
  unfolding on_value measured
  of_measured c None = refl
  of_measured c (Some (value.Text s)) = refl
  of_measured c (Some (value.Channel k)) = refl
  of_measured c (Some (value.Flag b)) = refl
  of_measured c (Some (value.Number i)) = refl

  of_made : (v : Value) (z : ℤ) → has_move P (made v z) st ≡ true
  unfolding made
  of_made v (pos n) = refl
  of_made v (negsuc n) = refl

  of_closed : (c : Config) (o : Option Value) → has_move P (on_channel o (closed c)) st ≡ can_close c o
  unfolding on_channel closed closed_by
  of_closed c None = refl
  of_closed c (Some (value.Channel None)) = refl
  of_closed c (Some (value.Channel (Some k))) = by (slice_get c.channels k)
    where
      by : (o : Option Channel) → has_move P (closed_by k o) st ≡ is_some o
      by None = refl
      by (Some ch) = has_if ch.closed (act.Panics (codes "close of closed channel")) (act.Closes k) refl refl
  of_closed c (Some (value.Flag b)) = refl
  of_closed c (Some (value.Number i)) = refl
  of_closed c (Some (value.Text s)) = refl

  of_cap : (c : Config) (o : Option Value) → has_move P (on_channel o (λ k. act.Pushes 1 (operations.number (pos (operations.of_channel c k (λ ch. ch.capacity)))))) st ≡ is_channel o
  unfolding on_channel
  of_cap c None = refl
  of_cap c (Some (value.Channel k)) = refl
  of_cap c (Some (value.Flag b)) = refl
  of_cap c (Some (value.Number i)) = refl
  of_cap c (Some (value.Text s)) = refl

  of_written : (c : Config) (n : ℕ) (s : List ℕ) → has_move P (written c n s) st ≡ true
  unfolding written
  of_written c n s = has_if (nat_le (length c.output + length s) operations.output_limit) (act.Prints n s) (act.Stops ends.OutputLimit) refl refl

  of_printed : (c : Config) (n : ℕ) → has_move P (printed c n st) st ≡ nat_le n (length st)
  unfolding printed
  of_printed c n = or_stuck (nat_le n (length st)) (written c n (values.line_of (reverse (take n st)))) (of_written c n (values.line_of (reverse (take n st))))

  of_locked : (m : ℕ) (o : Option Bool) → has_move P (locked m o) st ≡ is_unlocked o
  unfolding locked
  of_locked m None = refl
  of_locked m (Some true) = refl
  of_locked m (Some false) = refl

  of_unlocked : (m : ℕ) (o : Option Bool) → has_move P (unlocked m o) st ≡ is_some o
  unfolding unlocked
  of_unlocked m None = refl
  of_unlocked m (Some true) = refl
  of_unlocked m (Some false) = refl

  of_number : (n g : ℕ) (z : ℤ) → has_move P (set_number n g z) st ≡ true
  unfolding set_number
  of_number n g (negsuc k) = refl
  of_number n g (pos k) = has_if (nat_le k 2147483647) (act.Sets n g k) (act.Panics (codes "sync: negative WaitGroup counter")) refl refl

  of_added : (n g : ℕ) (o : Option ℕ) (z : ℤ) → has_move P (added n g o z) st ≡ is_some o
  unfolding added
  of_added n g None z = refl
  of_added n g (Some k) z = of_number n g _

  of_waited : (o : Option ℕ) → has_move P (waited o) st ≡ is_zero o
  unfolding waited
  of_waited None = refl
  of_waited (Some zero) = refl
  of_waited (Some (suc n)) = refl

  of_compare : (r : Relation) (o p : Option Value) → has_move P (on_value o (λ b. on_value p (λ a. compared (values.compare r a b)))) st ≡ can_compare r o p
  unfolding on_value
  of_compare r None p = refl
  of_compare r (Some b) None = refl
  of_compare r (Some b) (Some a) = of_compared (values.compare r a b)

  pub of_applied : (c : Config) (o : Op) → has_move P (apply c o st) st ≡ can_apply c o st
  unfolding apply can_apply
  of_applied c (op.Arithmetic o) = has_number (top 0 st) _ (is_number (top 1 st)) (λ b. a_number (top 1 st) _ (λ a. of_calculated _))
  of_applied c op.Join = has_text (top 0 st) _ (is_text (top 1 st)) (λ b. a_text' (top 1 st) _ (λ a. of_joined 2 a b))
  of_applied c (op.Compare r) = of_compare r (top 0 st) (top 1 st)
  of_applied c op.Not = a_flag (top 0 st) _ (λ b. refl)
  of_applied c op.Plus = a_number (top 0 st) _ (λ b. refl)
  of_applied c op.Minus = a_number (top 0 st) _ (λ b. refl)
  of_applied c op.Flip = a_number (top 0 st) _ (λ b. refl)
  of_applied c (op.Convert kind) = a_number (top 0 st) _ (λ b. refl)
  of_applied c op.Spell = a_number (top 0 st) _ (λ b. refl)
  of_applied c op.Keep = a_value (top 0 st) _ (λ b. refl)
  of_applied c op.Index = has_number (top 0 st) _ (is_text (top 1 st)) (λ i. a_text' (top 1 st) _ (λ s. of_indexed _))
  of_applied c (op.Cut low high) = of_cut_text low high
  of_applied c op.Len = of_measured c (top 0 st)
  of_applied c op.Cap = of_cap c (top 0 st)
  of_applied c (op.Make v true) = a_number (top 0 st) _ (λ n. of_made v _)
  of_applied c (op.Make v false) = refl
  of_applied c op.Close = of_closed c (top 0 st)
  of_applied c (op.Println n) = of_printed c n
  of_applied c op.Panic = a_value (top 0 st) _ (λ v. refl)
  of_applied c op.Exit = a_number (top 0 st) _ (λ v. refl)
  of_applied c op.Itoa = a_number (top 0 st) _ (λ v. refl)
  of_applied c (op.Lock m) = of_locked m (slice_get c.mutexes m)
  of_applied c (op.Unlock m) = of_unlocked m (slice_get c.mutexes m)
  of_applied c (op.Add g) = has_number (top 0 st) _ (is_some (slice_get c.groups g)) (λ n. of_added 1 g (slice_get c.groups g) _)
  of_applied c (op.Done g) = of_added 0 g (slice_get c.groups g) (negsuc 0)
  of_applied c (op.Wait g) = of_waited (slice_get c.groups g)

  -- ---- items

  of_run : (n i : ℕ) (o : Option NodeForm) → has_move P (run n i o) st ≡ can_run o
  of_run n i None = refl
  of_run n i (Some (node.Count u)) = refl
  of_run n i (Some form) = refl

  of_constant : (v : Value) → has_move P (constant v) st ≡ true
  unfolding constant
  of_constant (value.Text s) = has_if (nat_le (length s) 1048576) (act.Pushes 0 (value.Text s)) (act.Stops ends.StringLimit) refl refl
  of_constant v = refl

  of_pushed : (o : Option Value) → has_move P (pushed o) st ≡ is_some o
  unfolding pushed
  of_pushed None = refl
  of_pushed (Some v) = refl

  of_eval : (c : Config) (slots : Slots) (e : Expr-F Expr) → has_move P (eval c slots e) st ≡ can_eval c slots e
  of_eval c slots (Expr-F.Value v) = of_constant v
  of_eval c slots (Expr-F.Variable (Slot s)) = of_pushed (option_flatten (slice_get slots s))
  of_eval c slots (Expr-F.Variable (Global g)) = of_pushed (slice_get c.globals g)
  of_eval c slots e = refl

  of_loop : (n i : ℕ) (o : Option NodeForm) → has_move P (loop n i o) st ≡ is_for o
  of_loop n i (Some (node.For first (Some e) last l)) = refl
  of_loop n i (Some (node.For first None last l)) = refl
  of_loop n i o = refl

  of_decided : (n i : ℕ) (o : Option NodeForm) (b : Bool) → has_move P (decided n i o b) st ≡ is_for o
  unfolding decided
  of_decided n i (Some (node.For first e last l)) true = refl
  of_decided n i (Some (node.For first e last l)) false = refl
  of_decided n i o b = refl

  of_next : (n i : ℕ) (o : Option NodeForm) → has_move P (next n i o) st ≡ is_for o
  of_next n i (Some (node.For first e last l)) = refl
  of_next n i o = refl

  of_each : (n i : ℕ) (o : Option NodeForm) (at : Int) (s : List ℕ) → has_move P (each n i o at s) st ≡ is_range o
  unfolding each
  of_each n i (Some (node.RangeText o r e l)) at s = has_if (nat_lt at.bits (length s)) (advance n i o r l at (values.first_rune (drop at.bits s))) (act.Replaces 2 []) refl refl
  of_each n i o at s = refl

  of_branch : (a : ℕ) (o : Option ℕ) (b : Bool) → has_move P (branch a o b) st ≡ true
  unfolding branch
  of_branch a o true = refl
  of_branch a None false = refl
  of_branch a (Some b) false = refl

  of_matched : (n i k : ℕ) (o : Option NodeForm) → has_move P (matched n i k o) st ≡ is_switch o
  unfolding matched
  of_matched n i k (Some (node.Switch first e cs)) = by (slice_get (cases cs) k)
    where
      by : (p : Option (Expr × ℕ)) → has_move P (match_case n i k cs p) st ≡ true
      by None = refl
      by (Some p) = refl
  of_matched n i k o = refl

  of_compared_case : (n i k : ℕ) (o : Option NodeForm) (b : Bool) → has_move P (compare n i k o b) st ≡ has_case o k
  unfolding compare
  of_compared_case n i k (Some (node.Switch first e cs)) b = by b (slice_get (cases cs) k)
    where
      by : (x : Bool) (p : Option (Expr × ℕ)) → has_move P (compare_case n i k x p) st ≡ is_some p
      by true None = refl
      by false None = refl
      by true (Some p) = refl
      by false (Some p) = refl
  of_compared_case n i k o b = refl

  of_has : (n : ℕ) (a : Act) → has_move P a st ≡ true → has_move P (has n st a) st ≡ nat_le n (length st)
  unfolding has
  of_has n a h = or_stuck (nat_le n (length st)) a h

  of_assign : (ts : List Target) → has_move P (assign ts st) st ≡ can_assign ts st
  unfolding assign on_value
  of_assign [] = refl
  of_assign (t ∷ ts) = by (top (length ts) st) refl
    where
      by : (o : Option Value) → top (length ts) st ≡ o → has_move P (on_value o (λ v. act.Assigns t ts)) st ≡ is_some o
      by None e = refl
      by (Some v) e = ap is_some e

  pub of_item : (c : Config) (item : Item) (slots : Slots) → has_move P (act_of P c item slots st) st ≡ can_act P c item slots st
  unfolding act_of can_act
  of_item c (Run n i) slots = of_run n i (form_at P n i)
  of_item c (Eval e) slots = of_eval c slots (out-Expr e)
  of_item c (Drop n) slots = of_has n (act.Replaces n []) refl
  of_item c (Assign ts) slots = of_assign ts
  of_item c (Do o) slots = of_applied c o
  of_item c (And e) slots = a_flag (top 0 st) _ flags
    where
      flags : (b : Bool) → has_move P (cond b (act.Replaces 1 (Eval e ∷ [])) (act.Pushes 1 (value.Flag false))) st ≡ true
      flags true = refl
      flags false = refl
  of_item c (Or e) slots = a_flag (top 0 st) _ flags
    where
      flags : (b : Bool) → has_move P (cond b (act.Pushes 1 (value.Flag true)) (act.Replaces 1 (Eval e ∷ []))) st ≡ true
      flags true = refl
      flags false = refl
  of_item c (Branch a o) slots = a_flag (top 0 st) _ (of_branch a o)
  of_item c (Loop n i) slots = of_loop n i (form_at P n i)
  of_item c (Test n i) slots = has_flag (top 0 st) _ (is_for (form_at P n i)) (of_decided n i (form_at P n i))
  of_item c (Next n i) slots = of_next n i (form_at P n i)
  of_item c (Each n i) slots = has_number (top 0 st) _ (is_text (top 1 st) && is_range (form_at P n i)) (λ at. has_text (top 1 st) _ (is_range (form_at P n i)) (of_each n i (form_at P n i) at))
  of_item c (Match n i k) slots = has_value (top 0 st) _ (is_switch (form_at P n i)) (λ tag. of_matched n i k (form_at P n i))
  of_item c (Compare n i k) slots = has_value (top 0 st) _ (is_some (top 1 st) && has_case (form_at P n i) k) (λ v. has_value (top 1 st) _ (has_case (form_at P n i) k) (λ tag. of_compared_case n i k (form_at P n i) _))
  of_item c Leave slots = refl
  of_item c (Spawn f) slots = refl
  of_item c (Defer d) slots = refl
  of_item c (Call f) slots = refl
  of_item c (Return n) slots = of_has n (act.Returns n) refl
  of_item c (Unwind m) slots = refl
  of_item c (Pull n i) slots = refl
  of_item c (Pick n i) slots = refl
  of_item c Send slots = refl
  of_item c Recv slots = refl
  of_item c RecvOk slots = refl

-- ---- an act has a move exactly where this says so

some_map : {A B : Type 0} (f : A → B) (o : Option A) → is_some (option_map f o) ≡ is_some o
some_map f None = refl
some_map f (Some x) = refl

some_taken : (n : ℕ) (st : List Value) → is_some (taken n st) ≡ nat_le n (length st)
some_taken n st = by (nat_le n (length st))
  where
    by : (b : Bool) → is_some {T = Taken} (cond b (Some (record { values = reverse (take n st); stack = drop n st })) None) ≡ b
    by true = refl
    by false = refl

pub of_put : (P : Parts) (c : Config) (i : ℕ) (f : Frame) (fs : List Frame) (rest : List Item) (a : Act) → is_some (put P c i f fs rest a) ≡ has_move P a f.stack
unfolding put
of_put P c i f fs rest act.Stuck = refl
of_put P c i f fs rest act.Waits = refl
of_put P c i f fs rest (act.Assigns t ts) = some_map _ (slice_get f.stack (length ts))
of_put P c i f fs rest (act.Calls g) = some_map _ (taken (function_at P g).params f.stack) ∙ some_taken (function_at P g).params f.stack
of_put P c i f fs rest (act.Spawns g) = some_map _ (taken (function_at P g).params f.stack) ∙ some_taken (function_at P g).params f.stack
of_put P c i f fs rest (act.Defers d) = deferring d
  where
    -- the operands that are taken are as many as are kept
    kept : (x : Deferral) (vs : List Value) → length vs ≡ operands_of P x → is_some (deferred_call x vs) ≡ true
    kept (deferral.Call g) vs e = refl
    kept (deferral.Done g) vs e = refl
    kept (deferral.Unlock m) vs e = refl
    kept deferral.Close (v ∷ vs) e = refl
    kept deferral.Close [] e = absurd (omega (arith, e))
    kept (deferral.Println n) vs e = refl

    deferring : (x : Deferral) → is_some (option_and_then (defer c f fs rest x) (taken (operands_of P x) f.stack)) ≡ nat_le (operands_of P x) (length f.stack)
    deferring x = by (nat_le (operands_of P x) (length f.stack)) (leb-true (operands_of P x) (length f.stack))
      where
        by : (b : Bool) → (b ≡ true → operands_of P x ≤ length f.stack) → is_some (option_and_then (defer c f fs rest x) (cond b (Some (record { values = reverse (take (operands_of P x) f.stack); stack = drop (operands_of P x) f.stack })) None)) ≡ b
        by true h = some_map _ (deferred_call x (reverse (take (operands_of P x) f.stack))) ∙ kept x (reverse (take (operands_of P x) f.stack)) (length-reverse (take (operands_of P x) f.stack) ∙ length-take-le (operands_of P x) f.stack (h refl))
        by false h = refl
of_put P c i f fs rest a = refl
