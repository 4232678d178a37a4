-- What an item does, in a covered program and in the erased one.
use Rattle.std.proofs.Common.{◌≡◌, ℕ, zero, suc, ◌+◌, Bool, true, false, cond, List, [], ◌∷◌, ◌++◌, Option, Some, None, refl, sym, ap, ap₂, ◌∙◌, map, length}
use Rattle.std.specs.Prelude.{codes, slice_get, nat_lt, nat_le, flat_map, ℤ, pos, negsuc, Result, Ok, Err, reverse, take, drop}
use Rattle.std.specs.Option.{MatchOption}
use Rattle.std.proofs.lemmas.List.{map-append}
use Rattle.go_value.specs.declared.int.Int.{Int}
use Rattle.go_value.specs.declared.fault.ValueFault.{ValueFault}
use Rattle.go_value.specs.declared.fault.ValueFault.TheVariants.{DivideByZero, NegativeShift}
use Rattle.go_value.specs.declared.fault.TextFault.{TextFault}
use Rattle.go_value.specs.declared.fault.TextFault.TheVariants as faults
use Rattle.go_value.specs.declared.fault.OutOfRange.{OutOfRange}
use Rattle.go_meaning.specs.declared.value.Value.{Value}
use Rattle.go_meaning.specs.declared.value.Value.TheVariants as value
use Rattle.go_meaning.specs.declared.value.Channel.{Channel}
use Rattle.go_meaning.specs.declared.expr.Variable.{Variable}
use Rattle.go_meaning.specs.declared.expr.Variable.TheVariants.{Slot, Global}
use Rattle.go_meaning.specs.declared.expr.Target.{Target}
use Rattle.go_meaning.specs.declared.expr.Expr.{Expr, out-Expr}
use Rattle.go_meaning.specs.declared.expr.Expr.TheOpen.{Expr-F}
use Rattle.go_meaning.specs.declared.expr.Expr.TheVariants as expr
use Rattle.go_meaning.specs.declared.expr.Op.{Op}
use Rattle.go_meaning.specs.declared.expr.Op.TheVariants as op
use Rattle.go_meaning.specs.declared.node.Assignment.{Assignment}
use Rattle.go_meaning.specs.declared.node.Simple.{Simple}
use Rattle.go_meaning.specs.declared.node.Simple.TheVariants as simple
use Rattle.go_meaning.specs.declared.node.CaseClause.{CaseClause}
use Rattle.go_meaning.specs.declared.node.CommClause.{CommClause}
use Rattle.go_meaning.specs.declared.node.Comm.{Comm}
use Rattle.go_meaning.specs.declared.node.Comm.TheVariants as comm
use Rattle.go_meaning.specs.declared.node.NodeForm.{NodeForm}
use Rattle.go_meaning.specs.declared.node.NodeForm.TheVariants as node
use Rattle.go_meaning.specs.declared.item.Item.{Item}
use Rattle.go_meaning.specs.declared.item.Item.TheVariants.{Run, Eval, Drop, Assign, Do, And, Or, Branch, Loop, Test, Next, Each, Pull, Match, Compare, Pick, Leave, Send, Recv, RecvOk, Spawn, Defer, Call, Return, Unwind}
use Rattle.go_meaning.specs.declared.event.End.TheVariants as ends
use Rattle.go_meaning.specs.declared.act.Act.{Act}
use Rattle.go_meaning.specs.declared.act.Act.TheVariants as act
use Rattle.go_meaning.specs.declared.config.Config.{Config}
use Rattle.go_meaning.specs.Programs.{Parts, form_at}
use Rattle.go_meaning.specs.Values.{line_of, first_rune, is_equal}
use Rattle.go_meaning.specs.Operations.{number, top, on_value, on_flag, on_number, on_text, on_channel, calculated, compared, indexed, a_text, cut_text, measured, made, closed_by, closed, written, output_limit, printed, locked, unlocked, set_number, added, waited, apply}
use Rattle.go_meaning.specs.Acts.{Slots, assignment, simple_items, part, comm_items, go_on, statement, run, constant, string_limit, pushed, variable, eval, loop, decided, next, advance, each, branch, enter, cases, default_of, match_case, matched, compare_case, has, assign, act_of}
use Rattle.go_meaning.specs.Acts as acts
use Rattle.go_meaning.specs.Erasing.{erase_program, place_of, erase_item, erase_config}
use Rattle.cov_erase.proofs.Places.{IsPlain, form_erased, next_place}

module _ (Q : Parts) where
  abbrev er : Config → Config
  er = erase_config Q

  abbrev ei : Item → Item
  ei = erase_item Q

  unfoldable pub erase_act : Act → Act
  erase_act (act.Replaces n items) = act.Replaces n (map ei items)
  erase_act (act.Advances o at r code next' items) = act.Advances o at r code next' (map ei items)
  erase_act a = a

  -- an item whose place isn't a counter's
  abbrev pub IsPlainItem : Item → Type 0
  IsPlainItem (Run n i) = IsPlain (form_at Q n i)
  IsPlainItem (Loop n i) = IsPlain (form_at Q n i)
  IsPlainItem (Test n i) = IsPlain (form_at Q n i)
  IsPlainItem (Next n i) = IsPlain (form_at Q n i)
  IsPlainItem (Each n i) = IsPlain (form_at Q n i)
  IsPlainItem (Pull n i) = IsPlain (form_at Q n i)
  IsPlainItem (Match n i k) = IsPlain (form_at Q n i)
  IsPlainItem (Compare n i k) = IsPlain (form_at Q n i)
  IsPlainItem (Pick n i) = IsPlain (form_at Q n i)
  IsPlainItem item = Unit {0}

  -- ---- operations don't look at goroutines, and put no places

  sim_value : (o : Option Value) (f g : Value → Act) → ((v : Value) → f v ≡ erase_act (g v)) → on_value o f ≡ erase_act (on_value o g)
  unfolding erase_act on_value
  sim_value None f g h = refl
  sim_value (Some v) f g h = h v

  sim_flag : (o : Option Value) (f g : Bool → Act) → ((b : Bool) → f b ≡ erase_act (g b)) → on_flag o f ≡ erase_act (on_flag o g)
  unfolding erase_act on_flag
  sim_flag (Some (value.Flag b)) f g h = h b
  sim_flag o f g h = refl

  sim_number : (o : Option Value) (f g : Int → Act) → ((i : Int) → f i ≡ erase_act (g i)) → on_number o f ≡ erase_act (on_number o g)
  unfolding erase_act on_number
  sim_number (Some (value.Number i)) f g h = h i
  sim_number o f g h = refl

  sim_text : (o : Option Value) (f g : List ℕ → Act) → ((s : List ℕ) → f s ≡ erase_act (g s)) → on_text o f ≡ erase_act (on_text o g)
  unfolding erase_act on_text
  sim_text (Some (value.Text s)) f g h = h s
  sim_text o f g h = refl

  sim_channel : (o : Option Value) (f g : Option ℕ → Act) → ((k : Option ℕ) → f k ≡ erase_act (g k)) → on_channel o f ≡ erase_act (on_channel o g)
  unfolding erase_act on_channel
  sim_channel (Some (value.Channel k)) f g h = h k
  sim_channel o f g h = refl

  -- the act has no items
  abbrev IsBare : Act → Type 0
  IsBare a = a ≡ erase_act a

  sim_calculated : (r : Result Int ValueFault) → IsBare (calculated r)
  unfolding erase_act calculated
  sim_calculated (Ok i) = refl
  sim_calculated (Err DivideByZero) = refl
  sim_calculated (Err NegativeShift) = refl

  sim_compared : (o : Option Bool) → IsBare (compared o)
  unfolding erase_act compared
  sim_compared None = refl
  sim_compared (Some b) = refl

  sim_indexed : (r : Result ℕ OutOfRange) → IsBare (indexed r)
  unfolding erase_act indexed
  sim_indexed (Ok b) = refl
  sim_indexed (Err e) = refl

  sim_a_text : (n : ℕ) (r : Result (List ℕ) TextFault) → IsBare (a_text n r)
  unfolding erase_act a_text
  sim_a_text n (Ok s) = refl
  sim_a_text n (Err faults.OutOfRange) = refl
  sim_a_text n (Err faults.StringLimit) = refl
  sim_a_text n (Err faults.NoMemory) = refl

  sim_cut : (low high : Bool) (st : List Value) → IsBare (cut_text low high st)
  unfolding erase_act cut_text
  sim_cut true true st = sim_number _ _ _ (λ j. sim_number _ _ _ (λ i. sim_text _ _ _ (λ s. sim_a_text 3 _)))
  sim_cut true false st = sim_number _ _ _ (λ i. sim_text _ _ _ (λ s. sim_a_text 2 _))
  sim_cut false true st = sim_number _ _ _ (λ j. sim_text _ _ _ (λ s. sim_a_text 2 _))
  sim_cut false false st = sim_text _ _ _ (λ s. sim_a_text 1 _)

  sim_measured : (c : Config) (v : Value) → measured (er c) v ≡ erase_act (measured c v)
  unfolding erase_act measured
  sim_measured c (value.Text s) = refl
  sim_measured c (value.Channel o) = refl
  sim_measured c (value.Flag b) = refl
  sim_measured c (value.Number i) = refl

  sim_made : (v : Value) (z : ℤ) → IsBare (made v z)
  unfolding erase_act made
  sim_made v (pos n) = refl
  sim_made v (negsuc n) = refl

  sim_closed_by : (k : ℕ) (o : Option Channel) → IsBare (closed_by k o)
  unfolding erase_act closed_by
  sim_closed_by k None = refl
  sim_closed_by k (Some ch) = by ch.closed
    where
      by : (b : Bool) → IsBare (closed_by k (Some (record ch { closed = b })))
      by true = refl
      by false = refl

  sim_closed : (c : Config) (o : Option ℕ) → closed (er c) o ≡ erase_act (closed c o)
  unfolding erase_act closed
  sim_closed c None = refl
  sim_closed c (Some k) = sim_closed_by k (slice_get c.channels k)

  sim_if : (b : Bool) (x y : Act) → IsBare x → IsBare y → IsBare (cond b x y)
  unfolding erase_act
  sim_if true x y h k = h
  sim_if false x y h k = k

  sim_printed : (c : Config) (n : ℕ) (st : List Value) → printed (er c) n st ≡ erase_act (printed c n st)
  unfolding erase_act printed written
  sim_printed c n st = sim_if (nat_le n (length st)) (written c n (line_of (reverse (take n st)))) act.Stuck (sim_if (nat_le (length c.output + length (line_of (reverse (take n st)))) output_limit) (act.Prints n (line_of (reverse (take n st)))) (act.Stops ends.OutputLimit) refl refl) refl

  sim_locked : (m : ℕ) (o : Option Bool) → IsBare (locked m o)
  unfolding erase_act locked
  sim_locked m None = refl
  sim_locked m (Some true) = refl
  sim_locked m (Some false) = refl

  sim_unlocked : (m : ℕ) (o : Option Bool) → IsBare (unlocked m o)
  unfolding erase_act unlocked
  sim_unlocked m None = refl
  sim_unlocked m (Some true) = refl
  sim_unlocked m (Some false) = refl

  sim_set : (n g : ℕ) (z : ℤ) → IsBare (set_number n g z)
  unfolding erase_act set_number
  sim_set n g (pos k) = sim_if (nat_le k 2147483647) (act.Sets n g k) (act.Panics (codes "sync: negative WaitGroup counter")) refl refl
  sim_set n g (negsuc k) = refl

  sim_added : (n g : ℕ) (o : Option ℕ) (z : ℤ) → IsBare (added n g o z)
  unfolding erase_act added
  sim_added n g None z = refl
  sim_added n g (Some k) z = sim_set n g _

  sim_waited : (o : Option ℕ) → IsBare (waited o)
  unfolding erase_act waited
  sim_waited None = refl
  sim_waited (Some zero) = refl
  sim_waited (Some (suc n)) = refl

  sim_apply : (c : Config) (o : Op) (st : List Value) → apply (er c) o st ≡ erase_act (apply c o st)
  unfolding apply erase_act
  sim_apply c (op.Arithmetic o) st = sim_number _ _ _ (λ b. sim_number _ _ _ (λ a. sim_calculated _))
  sim_apply c op.Join st = sim_text _ _ _ (λ b. sim_text _ _ _ (λ a. sim_a_text 2 _))
  sim_apply c (op.Compare r) st = sim_value _ _ _ (λ b. sim_value _ _ _ (λ a. sim_compared _))
  sim_apply c op.Not st = sim_flag _ _ _ (λ b. refl)
  sim_apply c op.Plus st = sim_number _ _ _ (λ a. refl)
  sim_apply c op.Minus st = sim_number _ _ _ (λ a. refl)
  sim_apply c op.Flip st = sim_number _ _ _ (λ a. refl)
  sim_apply c (op.Convert kind) st = sim_number _ _ _ (λ a. refl)
  sim_apply c op.Spell st = sim_number _ _ _ (λ a. refl)
  sim_apply c op.Keep st = sim_value _ _ _ (λ v. refl)
  sim_apply c op.Index st = sim_number _ _ _ (λ i. sim_text _ _ _ (λ s. sim_indexed _))
  sim_apply c (op.Cut low high) st = sim_cut low high st
  sim_apply c op.Len st = sim_value _ _ _ (sim_measured c)
  sim_apply c op.Cap st = sim_channel _ _ _ (λ o. refl)
  sim_apply c (op.Make v true) st = sim_number _ _ _ (λ n. sim_made v _)
  sim_apply c (op.Make v false) st = refl
  sim_apply c op.Close st = sim_channel _ _ _ (sim_closed c)
  sim_apply c (op.Println n) st = sim_printed c n st
  sim_apply c op.Panic st = sim_value _ _ _ (λ v. refl)
  sim_apply c op.Exit st = sim_number _ _ _ (λ n. refl)
  sim_apply c op.Itoa st = sim_number _ _ _ (λ n. refl)
  sim_apply c (op.Lock m) st = sim_locked m _
  sim_apply c (op.Unlock m) st = sim_unlocked m _
  sim_apply c (op.Add g) st = sim_number _ _ _ (λ n. sim_added 1 g _ _)
  sim_apply c (op.Done g) st = sim_added 0 g _ _
  sim_apply c (op.Wait g) st = sim_waited _

  -- ---- statements

  kept_append : (is js is' js' : List Item) → map ei is ≡ is' → map ei js ≡ js' → map ei (is ++ js) ≡ is' ++ js'
  kept_append is js is' js' h k = map-append ei is js ∙ ap₂ (λ (a b : List Item). a ++ b) h k

  evals : (es : List Expr) → map ei (map Eval es) ≡ map Eval es
  evals [] = refl
  evals (e ∷ es) = ap (λ is. Eval e ∷ is) (evals es)

  kept_assignment : (a : Assignment) → map ei (assignment a) ≡ assignment a
  kept_assignment a = kept_append (map Eval a.values) (Assign a.targets ∷ []) _ _ (evals a.values) refl

  kept_assignments : (as' : List Assignment) → map ei (flat_map assignment as') ≡ flat_map assignment as'
  kept_assignments [] = refl
  kept_assignments (a ∷ as') = kept_append (assignment a) (flat_map assignment as') _ _ (kept_assignment a) (kept_assignments as')

  kept_simple : (s : Simple) → map ei (simple_items s) ≡ simple_items s
  kept_simple (simple.Eval e n b) = refl
  kept_simple (simple.Send a b) = refl
  kept_simple (simple.Update x o e) = refl
  kept_simple (simple.Assign a) = kept_assignment a

  kept_part : (o : Option Simple) → map ei (part o) ≡ part o
  kept_part None = refl
  kept_part (Some s) = kept_simple s

  kept_comm : (m : Comm) → map ei (comm_items m) ≡ comm_items m
  kept_comm comm.Default = refl
  kept_comm (comm.Send a b) = refl
  kept_comm (comm.Receive e ts) = refl

  kept_comms : (cs : List CommClause) → map ei (flat_map (λ (c : CommClause). comm_items c.comm) cs) ≡ flat_map (λ (c : CommClause). comm_items c.comm) cs
  kept_comms [] = refl
  kept_comms (c ∷ cs) = kept_append (comm_items c.comm) (flat_map (λ (d : CommClause). comm_items d.comm) cs) _ _ (kept_comm c.comm) (kept_comms cs)

  kept_enter : (o : Option ℕ) → map ei (enter o) ≡ enter o
  kept_enter None = refl
  kept_enter (Some l) = refl

  sim_go_on : (n i : ℕ) (items items' : List Item) → place_of Q n (suc i) ≡ suc (place_of Q n i) → map ei items ≡ items' → go_on n (place_of Q n i) items' ≡ erase_act (go_on n i items)
  unfolding erase_act
  sim_go_on n i items items' e h =
      ap (λ is. act.Replaces 0 is) (sym (kept_append items (Run n (suc i) ∷ []) items' (Run n (suc (place_of Q n i)) ∷ []) h (ap (λ k. Run n k ∷ []) e)))

  sim_statement : (n i : ℕ) (form : NodeForm) → IsPlain (Some form) → place_of Q n (suc i) ≡ suc (place_of Q n i) → statement n (place_of Q n i) form ≡ erase_act (statement n i form)
  unfolding erase_act
  sim_statement n i node.Const h e = sim_go_on n i [] [] e refl
  sim_statement n i (node.Var as') h e = sim_go_on n i (flat_map assignment as') _ e (kept_assignments as')
  sim_statement n i (node.Simple s) h e = sim_go_on n i (simple_items s) _ e (kept_simple s)
  sim_statement n i (node.Block l b) h e = sim_go_on n i (Run l 0 ∷ []) _ e refl
  sim_statement n i (node.If first x a o) h e = sim_go_on n i (part first ++ Eval x ∷ Branch a o ∷ []) _ e (kept_append (part first) _ _ _ (kept_part first) refl)
  sim_statement n i (node.For first x last l) h e = sim_go_on n i (part first ++ Loop n i ∷ []) _ e (kept_append (part first) _ _ _ (kept_part first) refl)
  sim_statement n i (node.RangeText o r x l) h e = sim_go_on n i (Eval x ∷ Eval (expr.Value (number (pos 0))) ∷ Each n i ∷ []) _ e refl
  sim_statement n i (node.RangeChannel v x l) h e = sim_go_on n i (Eval x ∷ Pull n i ∷ []) _ e refl
  sim_statement n i (node.Switch first x cs) h e = sim_go_on n i (part first ++ Eval x ∷ Match n i 0 ∷ []) _ e (kept_append (part first) _ _ _ (kept_part first) refl)
  sim_statement n i (node.Select cs) h e =
      sim_go_on n i (flat_map (λ (c : CommClause). comm_items c.comm) cs ++ Pick n i ∷ []) _ e (kept_append (flat_map (λ (c : CommClause). comm_items c.comm) cs) _ _ _ (kept_comms cs) refl)
  sim_statement n i (node.Return es r) h e = sim_go_on n i (map Eval es ++ Return r ∷ []) _ e (kept_append (map Eval es) _ _ _ (evals es) refl)
  sim_statement n i (node.Go f es) h e = sim_go_on n i (map Eval es ++ Spawn f ∷ []) _ e (kept_append (map Eval es) _ _ _ (evals es) refl)
  sim_statement n i (node.Defer d es) h e = sim_go_on n i (map Eval es ++ Defer d ∷ []) _ e (kept_append (map Eval es) _ _ _ (evals es) refl)
  sim_statement n i (node.Break k) h e = refl
  sim_statement n i (node.Continue k) h e = refl
  sim_statement n i (node.Fallthrough l) h e = refl
  sim_statement n i (node.Count u) h e = refl

  sim_run : (n i : ℕ) (o : Option NodeForm) → IsPlain o → MatchOption o (Unit {0}) (λ form. place_of Q n (suc i) ≡ suc (place_of Q n i)) → run n (place_of Q n i) o ≡ erase_act (run n i o)
  unfolding erase_act
  sim_run n i None h e = refl
  sim_run n i (Some form) h e = sim_statement n i form h e

  -- ---- the other items

  sim_constant : (v : Value) → IsBare (constant v)
  unfolding erase_act constant
  sim_constant (value.Text s) = sim_if (nat_le (length s) string_limit) (act.Pushes 0 (value.Text s)) (act.Stops ends.StringLimit) refl refl
  sim_constant (value.Flag b) = refl
  sim_constant (value.Number i) = refl
  sim_constant (value.Channel o) = refl

  sim_pushed : (o : Option Value) → IsBare (pushed o)
  unfolding erase_act pushed
  sim_pushed None = refl
  sim_pushed (Some v) = refl

  sim_variable : (c : Config) (slots : Slots) (x : Variable) → variable (er c) slots x ≡ erase_act (variable c slots x)
  unfolding erase_act
  sim_variable c slots (Slot s) = sim_pushed _
  sim_variable c slots (Global g) = sim_pushed _

  sim_eval : (c : Config) (slots : Slots) (e : Expr-F Expr) → eval (er c) slots e ≡ erase_act (eval c slots e)
  unfolding erase_act
  sim_eval c slots (Expr-F.Value v) = sim_constant v
  sim_eval c slots (Expr-F.Variable x) = sim_variable c slots x
  sim_eval c slots (Expr-F.And a b) = refl
  sim_eval c slots (Expr-F.Or a b) = refl
  sim_eval c slots (Expr-F.Apply o es) = ap (λ is. act.Replaces 0 is) (sym (kept_append (map Eval es) (Do o ∷ []) _ _ (evals es) refl))
  sim_eval c slots (Expr-F.Receive a) = refl
  sim_eval c slots (Expr-F.ReceiveOk a) = refl
  sim_eval c slots (Expr-F.Call f es) = ap (λ is. act.Replaces 0 is) (sym (kept_append (map Eval es) (Call f ∷ []) _ _ (evals es) refl))

  sim_loop : (n i : ℕ) (o : Option NodeForm) → loop n (place_of Q n i) o ≡ erase_act (loop n i o)
  unfolding erase_act
  sim_loop n i (Some (node.For first (Some e) last l)) = refl
  sim_loop n i (Some (node.For first None last l)) = refl
  sim_loop n i o = refl

  sim_test : (n i : ℕ) (o : Option NodeForm) (b : Bool) → decided n (place_of Q n i) o b ≡ erase_act (decided n i o b)
  unfolding erase_act decided
  sim_test n i (Some (node.For first e last l)) true = refl
  sim_test n i (Some (node.For first e last l)) false = refl
  sim_test n i o b = refl

  sim_next : (n i : ℕ) (o : Option NodeForm) → next n (place_of Q n i) o ≡ erase_act (next n i o)
  unfolding erase_act
  sim_next n i (Some (node.For first e last l)) = ap (λ is. act.Replaces 0 is) (sym (kept_append (part last) (Loop n i ∷ []) _ _ (kept_part last) refl))
  sim_next n i o = refl

  sim_each : (n i : ℕ) (o : Option NodeForm) (at : Int) (s : List ℕ) → each n (place_of Q n i) o at s ≡ erase_act (each n i o at s)
  unfolding erase_act each
  sim_each n i (Some (node.RangeText o r e l)) at s = by (nat_lt at.bits (length s))
    where
      by : (b : Bool) → cond b (advance n (place_of Q n i) o r l at (first_rune (drop at.bits s))) (act.Replaces 2 []) ≡ erase_act (cond b (advance n i o r l at (first_rune (drop at.bits s))) (act.Replaces 2 []))
      by true = refl
      by false = refl
  sim_each n i o at s = refl

  sim_branch : (a : ℕ) (o : Option ℕ) (b : Bool) → branch a o b ≡ erase_act (branch a o b)
  unfolding erase_act branch
  sim_branch a o true = refl
  sim_branch a None false = refl
  sim_branch a (Some l) false = refl

  sim_match_case : (n i k : ℕ) (cs : List CaseClause) (o : Option (Expr × ℕ)) → match_case n (place_of Q n i) k cs o ≡ erase_act (match_case n i k cs o)
  unfolding erase_act
  sim_match_case n i k cs None = ap (λ is. act.Replaces 1 is) (sym (kept_enter (default_of cs)))
  sim_match_case n i k cs (Some p) = refl

  sim_match : (n i k : ℕ) (o : Option NodeForm) → matched n (place_of Q n i) k o ≡ erase_act (matched n i k o)
  unfolding erase_act matched
  sim_match n i k (Some (node.Switch first e cs)) = sim_match_case n i k cs _
  sim_match n i k o = refl

  sim_compare_case : (n i k : ℕ) (b : Bool) (o : Option (Expr × ℕ)) → compare_case n (place_of Q n i) k b o ≡ erase_act (compare_case n i k b o)
  unfolding erase_act
  sim_compare_case n i k true (Some p) = refl
  sim_compare_case n i k false (Some p) = refl
  sim_compare_case n i k true None = refl
  sim_compare_case n i k false None = refl

  sim_compare : (n i k : ℕ) (o : Option NodeForm) (b : Bool) → acts.compare n (place_of Q n i) k o b ≡ erase_act (acts.compare n i k o b)
  unfolding erase_act acts.compare
  sim_compare n i k (Some (node.Switch first e cs)) b = sim_compare_case n i k b _
  sim_compare n i k o b = refl

  sim_assign : (ts : List Target) (st : List Value) → IsBare (assign ts st)
  unfolding erase_act assign
  sim_assign [] st = refl
  sim_assign (t ∷ ts) st = sim_value _ _ _ (λ v. refl)

  -- a place's statement is the same in the erased program
  at_place : (f : Option NodeForm → Act) (a : Act) (n i : ℕ) → IsPlain (form_at Q n i) → f (form_at Q n i) ≡ a → f (form_at (erase_program Q) n (place_of Q n i)) ≡ a
  at_place f a n i h e = ap f (form_erased Q n i h) ∙ e

  pub sim_act : (it : Item) (c : Config) (slots : Slots) (st : List Value) → IsPlainItem it → act_of (erase_program Q) (er c) (ei it) slots st ≡ erase_act (act_of Q c it slots st)
  unfolding act_of erase_act has
  sim_act (Run n i) c slots st h = at_place (run n (place_of Q n i)) _ n i h (sim_run n i (form_at Q n i) h (next_place Q n i h))
  sim_act (Eval e) c slots st h = sim_eval c slots (out-Expr e)
  sim_act (Drop n) c slots st h = sim_if (nat_le n (length st)) (act.Replaces n []) act.Stuck refl refl
  sim_act (Assign ts) c slots st h = sim_assign ts st
  sim_act (Do o) c slots st h = sim_apply c o st
  sim_act (And e) c slots st h = sim_flag _ _ _ (λ b. sim_if b (act.Replaces 1 (Eval e ∷ [])) (act.Pushes 1 (value.Flag false)) refl refl)
  sim_act (Or e) c slots st h = sim_flag _ _ _ (λ b. sim_if b (act.Pushes 1 (value.Flag true)) (act.Replaces 1 (Eval e ∷ [])) refl refl)
  sim_act (Branch a o) c slots st h = sim_flag _ _ _ (sim_branch a o)
  sim_act (Loop n i) c slots st h = at_place (loop n (place_of Q n i)) _ n i h (sim_loop n i _)
  sim_act (Test n i) c slots st h = at_place (λ o. on_flag (top 0 st) (decided n (place_of Q n i) o)) _ n i h (sim_flag _ _ _ (sim_test n i _))
  sim_act (Next n i) c slots st h = at_place (next n (place_of Q n i)) _ n i h (sim_next n i _)
  sim_act (Each n i) c slots st h =
      at_place (λ o. on_number (top 0 st) (λ at. on_text (top 1 st) (each n (place_of Q n i) o at))) _ n i h (sim_number _ _ _ (λ at. sim_text _ _ _ (sim_each n i _ at)))
  sim_act (Match n i k) c slots st h = at_place (λ o. on_value (top 0 st) (λ tag. matched n (place_of Q n i) k o)) _ n i h (sim_value _ _ _ (λ tag. sim_match n i k _))
  sim_act (Compare n i k) c slots st h =
      at_place (λ o. on_value (top 0 st) (λ v. on_value (top 1 st) (λ tag. acts.compare n (place_of Q n i) k o (is_equal v tag)))) _ n i h (sim_value _ _ _ (λ v. sim_value _ _ _ (λ tag. sim_compare n i k _ _)))
  sim_act Leave c slots st h = refl
  sim_act (Spawn f) c slots st h = refl
  sim_act (Defer d) c slots st h = refl
  sim_act (Call f) c slots st h = refl
  sim_act (Return n) c slots st h = sim_if (nat_le n (length st)) (act.Returns n) act.Stuck refl refl
  sim_act (Unwind m) c slots st h = refl
  sim_act (Pull n i) c slots st h = refl
  sim_act (Pick n i) c slots st h = refl
  sim_act Send c slots st h = refl
  sim_act Recv c slots st h = refl
  sim_act RecvOk c slots st h = refl
