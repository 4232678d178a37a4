-- Each act fits the stack that it was made for.
use Rattle.std.proofs.Common.{◌≡◌, ℕ, zero, suc, ◌+◌, ◌<◌, ◌≤◌, Bool, true, false, cond, List, [], ◌∷◌, Option, Some, None, refl, length, arith}
use Rattle.std.specs.Prelude.{codes, slice_get, nat_lt, nat_le, ℤ, pos, negsuc, ◌+ℤ◌, Result, Ok, Err, reverse, take, drop}
use Rattle.std.proofs.lemmas.Option.{none-some}
use Rattle.std.proofs.lemmas.Bool.{leb-true}
use Rattle.go_value.specs.declared.int.Int.{Int}
use Rattle.go_value.specs.declared.fault.ValueFault.{ValueFault}
use Rattle.go_value.specs.declared.fault.ValueFault.TheVariants.{DivideByZero, NegativeShift}
use Rattle.go_value.specs.declared.fault.TextFault.{TextFault}
use Rattle.go_value.specs.declared.fault.TextFault.TheVariants as faults
use Rattle.go_value.specs.declared.fault.OutOfRange.{OutOfRange}
use Rattle.go_meaning.specs.declared.value.Value.{Value}
use Rattle.go_meaning.specs.declared.value.Value.TheVariants as value
use Rattle.go_meaning.specs.declared.value.Channel.{Channel}
use Rattle.go_meaning.specs.declared.expr.Variable.{Variable}
use Rattle.go_meaning.specs.declared.expr.Variable.TheVariants.{Slot, Global}
use Rattle.go_meaning.specs.declared.expr.Target.{Target}
use Rattle.go_meaning.specs.declared.expr.Expr.{Expr, out-Expr}
use Rattle.go_meaning.specs.declared.expr.Expr.TheOpen.{Expr-F}
use Rattle.go_meaning.specs.declared.expr.Op.{Op}
use Rattle.go_meaning.specs.declared.expr.Op.TheVariants as op
use Rattle.go_meaning.specs.declared.node.CaseClause.{CaseClause}
use Rattle.go_meaning.specs.declared.node.NodeForm.{NodeForm}
use Rattle.go_meaning.specs.declared.node.NodeForm.TheVariants as node
use Rattle.go_meaning.specs.declared.item.Item.{Item}
use Rattle.go_meaning.specs.declared.item.Item.TheVariants.{Run, Eval, Drop, Assign, Do, And, Or, Branch, Loop, Test, Next, Each, Pull, Match, Compare, Pick, Leave, Send, Recv, RecvOk, Spawn, Defer, Call, Return, Unwind}
use Rattle.go_meaning.specs.declared.event.End.TheVariants as ends
use Rattle.go_meaning.specs.declared.act.Act.{Act}
use Rattle.go_meaning.specs.declared.act.Act.TheVariants as act
use Rattle.go_meaning.specs.declared.config.Config.{Config}
use Rattle.go_meaning.specs.Programs.{Parts, form_at}
use Rattle.go_meaning.specs.Values.{first_rune, line_of}
use Rattle.go_meaning.specs.Operations.{top, on_value, on_flag, on_number, on_text, on_channel, calculated, compared, indexed, a_text, cut_text, measured, made, closed_by, closed, written, output_limit, printed, locked, unlocked, set_number, added, waited, apply}
use Rattle.go_meaning.specs.Acts.{Slots, statement, run, constant, string_limit, pushed, variable, eval, loop, decided, next, advance, each, branch, match_case, matched, compare_case, has, assign, act_of, default_of, enter}
use Rattle.go_meaning.specs.Acts as acts
use Rattle.go_meaning.specs.Fitting.{IsFitting, ActsFit}

within_list : {A : Type 0} (xs : List A) (n : ℕ) (x : A) → slice_get xs n ≡ Some x → n < length xs
within_list [] zero x e = absurd (none-some x e)
within_list [] (suc n) x e = absurd (none-some x e)
within_list (y ∷ ys) zero x e = omega arith
within_list (y ∷ ys) (suc n) x e = let h = within_list ys n x e in omega (arith, h)

module _ (c : Config) (st : List Value) where
  abbrev Fits : Act → Type 0
  Fits a = IsFitting a c st

  fits_some : (o : Option Value) (f : Value → Act) → ((v : Value) → o ≡ Some v → Fits (f v)) → Fits (on_value o f)
  unfolding on_value IsFitting
  fits_some None f h = tt
  fits_some (Some v) f h = h v refl

  -- operands that are there lie within the stack
  fits_value : (n : ℕ) (f : Value → Act) → ((v : Value) → n < length st → Fits (f v)) → Fits (on_value (top n st) f)
  fits_value n f h = fits_some (slice_get st n) f (λ v e. h v (within_list st n v e))

  fits_flag : (n : ℕ) (f : Bool → Act) → ((b : Bool) → n < length st → Fits (f b)) → Fits (on_flag (top n st) f)
  unfolding on_flag IsFitting
  fits_flag n f h = by (slice_get st n) (within_list st n)
    where
      by : (o : Option Value) → ((v : Value) → o ≡ Some v → n < length st) → Fits (on_flag o f)
      by (Some (value.Flag b)) k = h b (k _ refl)
      by o k = tt

  fits_number : (n : ℕ) (f : Int → Act) → ((i : Int) → n < length st → Fits (f i)) → Fits (on_number (top n st) f)
  unfolding on_number IsFitting
  fits_number n f h = by (slice_get st n) (within_list st n)
    where
      by : (o : Option Value) → ((v : Value) → o ≡ Some v → n < length st) → Fits (on_number o f)
      by (Some (value.Number i)) k = h i (k _ refl)
      by o k = tt

  fits_text : (n : ℕ) (f : List ℕ → Act) → ((s : List ℕ) → n < length st → Fits (f s)) → Fits (on_text (top n st) f)
  unfolding on_text IsFitting
  fits_text n f h = by (slice_get st n) (within_list st n)
    where
      by : (o : Option Value) → ((v : Value) → o ≡ Some v → n < length st) → Fits (on_text o f)
      by (Some (value.Text s)) k = h s (k _ refl)
      by o k = tt

  fits_channel : (n : ℕ) (f : Option ℕ → Act) → ((o : Option ℕ) → n < length st → Fits (f o)) → Fits (on_channel (top n st) f)
  unfolding on_channel IsFitting
  fits_channel n f h = by (slice_get st n) (within_list st n)
    where
      by : (o : Option Value) → ((v : Value) → o ≡ Some v → n < length st) → Fits (on_channel o f)
      by (Some (value.Channel k')) k = h k' (k _ refl)
      by o k = tt

  fits_if : (b : Bool) (x y : Act) → (b ≡ true → Fits x) → Fits y → Fits (cond b x y)
  fits_if true x y h k = h refl
  fits_if false x y h k = k

  -- ---- operations

  fits_calculated : (r : Result Int ValueFault) → 2 ≤ length st → Fits (calculated r)
  unfolding calculated IsFitting
  fits_calculated (Ok i) h = h
  fits_calculated (Err DivideByZero) h = tt
  fits_calculated (Err NegativeShift) h = tt

  fits_compared : (o : Option Bool) → 2 ≤ length st → Fits (compared o)
  unfolding compared IsFitting
  fits_compared None h = tt
  fits_compared (Some b) h = h

  fits_indexed : (r : Result ℕ OutOfRange) → 2 ≤ length st → Fits (indexed r)
  unfolding indexed IsFitting
  fits_indexed (Ok b) h = h
  fits_indexed (Err e) h = tt

  fits_a_text : (n : ℕ) (r : Result (List ℕ) TextFault) → n ≤ length st → Fits (a_text n r)
  unfolding a_text IsFitting
  fits_a_text n (Ok s) h = h
  fits_a_text n (Err faults.OutOfRange) h = tt
  fits_a_text n (Err faults.StringLimit) h = tt
  fits_a_text n (Err faults.NoMemory) h = tt

  fits_cut : (low high : Bool) → Fits (cut_text low high st)
  unfolding cut_text
  fits_cut true true = fits_number 0 _ (λ j x. fits_number 1 _ (λ i y. fits_text 2 _ (λ s z. fits_a_text 3 _ (omega (arith, z)))))
  fits_cut true false = fits_number 0 _ (λ i x. fits_text 1 _ (λ s z. fits_a_text 2 _ (omega (arith, z))))
  fits_cut false true = fits_number 0 _ (λ j x. fits_text 1 _ (λ s z. fits_a_text 2 _ (omega (arith, z))))
  fits_cut false false = fits_text 0 _ (λ s z. fits_a_text 1 _ (omega (arith, z)))

  fits_measured : (v : Value) → 1 ≤ length st → Fits (measured c v)
  unfolding measured IsFitting
  fits_measured (value.Text s) h = h
  fits_measured (value.Channel o) h = h
  fits_measured (value.Flag b) h = tt
  fits_measured (value.Number i) h = tt

  fits_made : (v : Value) (z : ℤ) → 1 ≤ length st → Fits (made v z)
  unfolding made IsFitting
  fits_made v (pos n) h = h
  fits_made v (negsuc n) h = tt

  fits_closed_by : (k : ℕ) (o : Option Channel) → ((ch : Channel) → o ≡ Some ch → k < length c.channels) → 1 ≤ length st → Fits (closed_by k o)
  unfolding closed_by IsFitting
  fits_closed_by k None w h = tt
  fits_closed_by k (Some ch) w h = by ch.closed
    where
      by : (b : Bool) → Fits (cond b (act.Panics (codes "close of closed channel")) (act.Closes k))
      by true = tt
      by false = (h, w ch refl)

  fits_closed : (o : Option ℕ) → 1 ≤ length st → Fits (closed c o)
  unfolding closed IsFitting
  fits_closed None h = tt
  fits_closed (Some k) h = fits_closed_by k (slice_get c.channels k) (within_list c.channels k) h

  fits_written : (n : ℕ) (text : List ℕ) → n ≤ length st → Fits (written c n text)
  unfolding written IsFitting
  fits_written n text h = fits_if (nat_le (length c.output + length text) output_limit) (act.Prints n text) (act.Stops ends.OutputLimit) (λ e. (h, leb-true (length c.output + length text) output_limit e)) tt

  fits_printed : (n : ℕ) → Fits (printed c n st)
  unfolding printed IsFitting
  fits_printed n = fits_if (nat_le n (length st)) (written c n (line_of (reverse (take n st)))) act.Stuck (λ e. fits_written n (line_of (reverse (take n st))) (leb-true n (length st) e)) tt

  fits_locked : (m : ℕ) (o : Option Bool) → ((b : Bool) → o ≡ Some b → m < length c.mutexes) → Fits (locked m o)
  unfolding locked IsFitting
  fits_locked m None w = tt
  fits_locked m (Some true) w = tt
  fits_locked m (Some false) w = w false refl

  fits_unlocked : (m : ℕ) (o : Option Bool) → ((b : Bool) → o ≡ Some b → m < length c.mutexes) → Fits (unlocked m o)
  unfolding unlocked IsFitting
  fits_unlocked m None w = tt
  fits_unlocked m (Some true) w = w true refl
  fits_unlocked m (Some false) w = omega arith

  fits_set : (n g : ℕ) (z : ℤ) → n ≤ length st → g < length c.groups → Fits (set_number n g z)
  unfolding set_number IsFitting
  fits_set n g (pos k) h w = fits_if (nat_le k 2147483647) (act.Sets n g k) (act.Panics (codes "sync: negative WaitGroup counter")) (λ e. (h, w, leb-true k 2147483647 e)) tt
  fits_set n g (negsuc k) h w = tt

  fits_added : (n g : ℕ) (o : Option ℕ) (z : ℤ) → n ≤ length st → ((k : ℕ) → o ≡ Some k → g < length c.groups) → Fits (added n g o z)
  unfolding added IsFitting
  fits_added n g None z h w = tt
  fits_added n g (Some k) z h w = fits_set n g (pos k +ℤ z) h (w k refl)

  fits_waited : (o : Option ℕ) → Fits (waited o)
  unfolding waited IsFitting
  fits_waited None = tt
  fits_waited (Some zero) = omega arith
  fits_waited (Some (suc n)) = tt

  one : 0 < length st → 1 ≤ length st
  one h = omega (arith, h)

  two : 1 < length st → 2 ≤ length st
  two h = omega (arith, h)

  fits_apply : (o : Op) → Fits (apply c o st)
  unfolding apply IsFitting
  fits_apply (op.Arithmetic o) = fits_number 0 _ (λ b x. fits_number 1 _ (λ a y. fits_calculated _ (two y)))
  fits_apply op.Join = fits_text 0 _ (λ b x. fits_text 1 _ (λ a y. fits_a_text 2 _ (two y)))
  fits_apply (op.Compare r) = fits_value 0 _ (λ b x. fits_value 1 _ (λ a y. fits_compared _ (two y)))
  fits_apply op.Not = fits_flag 0 _ (λ b x. one x)
  fits_apply op.Plus = fits_number 0 _ (λ a x. one x)
  fits_apply op.Minus = fits_number 0 _ (λ a x. one x)
  fits_apply op.Flip = fits_number 0 _ (λ a x. one x)
  fits_apply (op.Convert kind) = fits_number 0 _ (λ a x. one x)
  fits_apply op.Spell = fits_number 0 _ (λ a x. one x)
  fits_apply op.Keep = fits_value 0 _ (λ v x. one x)
  fits_apply op.Index = fits_number 0 _ (λ i x. fits_text 1 _ (λ s y. fits_indexed _ (two y)))
  fits_apply (op.Cut low high) = fits_cut low high
  fits_apply op.Len = fits_value 0 _ (λ v x. fits_measured v (one x))
  fits_apply op.Cap = fits_channel 0 _ (λ o x. one x)
  fits_apply (op.Make v true) = fits_number 0 _ (λ n x. fits_made v _ (one x))
  fits_apply (op.Make v false) = omega arith
  fits_apply op.Close = fits_channel 0 _ (λ o x. fits_closed o (one x))
  fits_apply (op.Println n) = fits_printed n
  fits_apply op.Panic = fits_value 0 _ (λ v x. tt)
  fits_apply op.Exit = fits_number 0 _ (λ n x. one x)
  fits_apply op.Itoa = fits_number 0 _ (λ n x. one x)
  fits_apply (op.Lock m) = fits_locked m (slice_get c.mutexes m) (within_list c.mutexes m)
  fits_apply (op.Unlock m) = fits_unlocked m (slice_get c.mutexes m) (within_list c.mutexes m)
  fits_apply (op.Add g) = fits_number 0 _ (λ n x. fits_added 1 g (slice_get c.groups g) _ (one x) (within_list c.groups g))
  fits_apply (op.Done g) = fits_added 0 g (slice_get c.groups g) _ (omega arith) (within_list c.groups g)
  fits_apply (op.Wait g) = fits_waited _

  -- ---- the other items

  none : 0 ≤ length st
  none = omega arith

  fits_statement : (n i : ℕ) (form : NodeForm) → Fits (statement n i form)
  unfolding IsFitting
  fits_statement n i (node.Break k) = tt
  fits_statement n i (node.Continue k) = tt
  fits_statement n i (node.Fallthrough l) = tt
  fits_statement n i (node.Count u) = tt
  fits_statement n i form = none

  fits_run : (n i : ℕ) (o : Option NodeForm) → Fits (run n i o)
  unfolding IsFitting
  fits_run n i None = none
  fits_run n i (Some form) = fits_statement n i form

  fits_constant : (v : Value) → Fits (constant v)
  unfolding constant IsFitting
  fits_constant (value.Text s) = fits_if (nat_le (length s) string_limit) (act.Pushes 0 (value.Text s)) (act.Stops ends.StringLimit) (λ e. none) tt
  fits_constant (value.Flag b) = none
  fits_constant (value.Number i) = none
  fits_constant (value.Channel o) = none

  fits_pushed : (o : Option Value) → Fits (pushed o)
  unfolding pushed IsFitting
  fits_pushed None = tt
  fits_pushed (Some v) = none

  fits_variable : (slots : Slots) (x : Variable) → Fits (variable c slots x)
  fits_variable slots (Slot s) = fits_pushed _
  fits_variable slots (Global g) = fits_pushed _

  fits_eval : (slots : Slots) (e : Expr-F Expr) → Fits (eval c slots e)
  unfolding IsFitting
  fits_eval slots (Expr-F.Value v) = fits_constant v
  fits_eval slots (Expr-F.Variable x) = fits_variable slots x
  fits_eval slots (Expr-F.And a b) = none
  fits_eval slots (Expr-F.Or a b) = none
  fits_eval slots (Expr-F.Apply o es) = none
  fits_eval slots (Expr-F.Receive a) = none
  fits_eval slots (Expr-F.ReceiveOk a) = none
  fits_eval slots (Expr-F.Call f es) = none

  fits_loop : (n i : ℕ) (o : Option NodeForm) → Fits (loop n i o)
  unfolding IsFitting
  fits_loop n i (Some (node.For first (Some e) last l)) = none
  fits_loop n i (Some (node.For first None last l)) = none
  fits_loop n i o = tt

  fits_test : (n i : ℕ) (o : Option NodeForm) (b : Bool) → 1 ≤ length st → Fits (decided n i o b)
  unfolding decided IsFitting
  fits_test n i (Some (node.For first e last l)) true h = h
  fits_test n i (Some (node.For first e last l)) false h = h
  fits_test n i o b h = tt

  fits_next : (n i : ℕ) (o : Option NodeForm) → Fits (next n i o)
  unfolding IsFitting
  fits_next n i (Some (node.For first e last l)) = none
  fits_next n i o = tt

  fits_each : (n i : ℕ) (o : Option NodeForm) (at : Int) (s : List ℕ) → 2 ≤ length st → Fits (each n i o at s)
  unfolding each IsFitting
  fits_each n i (Some (node.RangeText o r e l)) at s h = fits_if (nat_lt at.bits (length s)) (advance n i o r l at (first_rune (drop at.bits s))) (act.Replaces 2 []) (λ x. h) h
  fits_each n i o at s h = tt

  fits_branch : (a : ℕ) (o : Option ℕ) (b : Bool) → 1 ≤ length st → Fits (branch a o b)
  unfolding branch IsFitting
  fits_branch a o true h = h
  fits_branch a None false h = h
  fits_branch a (Some l) false h = h

  fits_match_case : (n i k : ℕ) (cs : List CaseClause) (o : Option (Expr × ℕ)) → 1 ≤ length st → Fits (match_case n i k cs o)
  unfolding IsFitting
  fits_match_case n i k cs None h = h
  fits_match_case n i k cs (Some p) h = none

  fits_match : (n i k : ℕ) (o : Option NodeForm) → 1 ≤ length st → Fits (matched n i k o)
  unfolding matched IsFitting
  fits_match n i k (Some (node.Switch first e cs)) h = fits_match_case n i k cs _ h
  fits_match n i k o h = tt

  fits_compare_case : (n i k : ℕ) (b : Bool) (o : Option (Expr × ℕ)) → 2 ≤ length st → Fits (compare_case n i k b o)
  unfolding IsFitting
  fits_compare_case n i k true (Some p) h = h
  fits_compare_case n i k false (Some p) h = omega (arith, h)
  fits_compare_case n i k true None h = tt
  fits_compare_case n i k false None h = tt

  fits_compare : (n i k : ℕ) (o : Option NodeForm) (b : Bool) → 2 ≤ length st → Fits (acts.compare n i k o b)
  unfolding acts.compare IsFitting
  fits_compare n i k (Some (node.Switch first e cs)) b h = fits_compare_case n i k b _ h
  fits_compare n i k o b h = tt

  fits_assign : (ts : List Target) → Fits (assign ts st)
  unfolding assign IsFitting
  fits_assign [] = none
  fits_assign (t ∷ ts) = fits_value (length ts) _ (λ v x. x)

  fits_logic : (b : Bool) (x y : Act) → Fits x → Fits y → Fits (cond b x y)
  fits_logic true x y h k = h
  fits_logic false x y h k = k

  fits : (P : Parts) (it : Item) (slots : Slots) → Fits (act_of P c it slots st)
  unfolding act_of has IsFitting
  fits P (Run n i) slots = fits_run n i (form_at P n i)
  fits P (Eval e) slots = fits_eval slots (out-Expr e)
  fits P (Drop n) slots = fits_if (nat_le n (length st)) (act.Replaces n []) act.Stuck (λ e. leb-true n (length st) e) tt
  fits P (Assign ts) slots = fits_assign ts
  fits P (Do o) slots = fits_apply o
  fits P (And e) slots = fits_flag 0 _ (λ b x. fits_logic b (act.Replaces 1 (Eval e ∷ [])) (act.Pushes 1 (value.Flag false)) (one x) (one x))
  fits P (Or e) slots = fits_flag 0 _ (λ b x. fits_logic b (act.Pushes 1 (value.Flag true)) (act.Replaces 1 (Eval e ∷ [])) (one x) (one x))
  fits P (Branch a o) slots = fits_flag 0 _ (λ b x. fits_branch a o b (one x))
  fits P (Loop n i) slots = fits_loop n i (form_at P n i)
  fits P (Test n i) slots = fits_flag 0 _ (λ b x. fits_test n i (form_at P n i) b (one x))
  fits P (Next n i) slots = fits_next n i (form_at P n i)
  fits P (Each n i) slots = fits_number 0 _ (λ at x. fits_text 1 _ (λ s y. fits_each n i (form_at P n i) at s (two y)))
  fits P (Match n i k) slots = fits_value 0 _ (λ tag x. fits_match n i k (form_at P n i) (one x))
  fits P (Compare n i k) slots = fits_value 0 _ (λ v x. fits_value 1 _ (λ tag y. fits_compare n i k (form_at P n i) _ (two y)))
  fits P Leave slots = none
  fits P (Spawn f) slots = tt
  fits P (Defer d) slots = tt
  fits P (Call f) slots = tt
  fits P (Return n) slots = fits_if (nat_le n (length st)) (act.Returns n) act.Stuck (λ e. leb-true n (length st) e) tt
  fits P (Unwind m) slots = tt
  fits P (Pull n i) slots = tt
  fits P (Pick n i) slots = tt
  fits P Send slots = tt
  fits P Recv slots = tt
  fits P RecvOk slots = tt

pub acts_fit : ActsFit
acts_fit P c it slots st = fits c st P it slots
