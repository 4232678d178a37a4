-- The places in control lists: an invariant of steps, and what items put.
use Rattle.std.proofs.Common.{◌≡◌, ℕ, zero, suc, ◌+◌, Bool, true, false, cond, List, [], ◌∷◌, ◌++◌, Option, Some, None, refl, map, length}
use Rattle.std.specs.Prelude.{codes, slice_get, nat_lt, nat_le, flat_map, ℤ, pos, negsuc, Result, Ok, Err, reverse, take, drop}
use Rattle.std.specs.Option.{MatchOption}
use Rattle.go_value.specs.declared.int.Int.{Int}
use Rattle.go_value.specs.declared.fault.ValueFault.{ValueFault}
use Rattle.go_value.specs.declared.fault.ValueFault.TheVariants.{DivideByZero, NegativeShift}
use Rattle.go_value.specs.declared.fault.TextFault.{TextFault}
use Rattle.go_value.specs.declared.fault.TextFault.TheVariants as faults
use Rattle.go_value.specs.declared.fault.OutOfRange.{OutOfRange}
use Rattle.go_meaning.specs.declared.value.Value.{Value}
use Rattle.go_meaning.specs.declared.value.Value.TheVariants as value
use Rattle.go_meaning.specs.declared.value.Channel.{Channel}
use Rattle.go_meaning.specs.declared.expr.Variable.{Variable}
use Rattle.go_meaning.specs.declared.expr.Variable.TheVariants.{Slot, Global}
use Rattle.go_meaning.specs.declared.expr.Target.{Target}
use Rattle.go_meaning.specs.declared.expr.Expr.{Expr, out-Expr}
use Rattle.go_meaning.specs.declared.expr.Expr.TheOpen.{Expr-F}
use Rattle.go_meaning.specs.declared.expr.Expr.TheVariants as expr
use Rattle.go_meaning.specs.declared.expr.Op.{Op}
use Rattle.go_meaning.specs.declared.expr.Op.TheVariants as op
use Rattle.go_meaning.specs.declared.node.Assignment.{Assignment}
use Rattle.go_meaning.specs.declared.node.Simple.{Simple}
use Rattle.go_meaning.specs.declared.node.Simple.TheVariants as simple
use Rattle.go_meaning.specs.declared.node.CaseClause.{CaseClause}
use Rattle.go_meaning.specs.declared.node.CommClause.{CommClause}
use Rattle.go_meaning.specs.declared.node.Comm.{Comm}
use Rattle.go_meaning.specs.declared.node.Comm.TheVariants as comm
use Rattle.go_meaning.specs.declared.node.NodeForm.{NodeForm}
use Rattle.go_meaning.specs.declared.node.NodeForm.TheVariants as node
use Rattle.go_meaning.specs.declared.item.Item.{Item}
use Rattle.go_meaning.specs.declared.item.Item.TheVariants.{Run, Eval, Drop, Assign, Do, And, Or, Branch, Loop, Test, Next, Each, Pull, Match, Compare, Pick, Leave, Send, Recv, RecvOk, Spawn, Defer, Call, Return, Unwind}
use Rattle.go_meaning.specs.declared.event.End.TheVariants as ends
use Rattle.go_meaning.specs.declared.act.Act.{Act}
use Rattle.go_meaning.specs.declared.act.Act.TheVariants as act
use Rattle.go_meaning.specs.declared.config.Frame.{Frame}
use Rattle.go_meaning.specs.declared.config.Goroutine.{Goroutine}
use Rattle.go_meaning.specs.declared.config.Config.{Config}
use Rattle.go_meaning.specs.Programs.{Parts, list_at, form_at}
use Rattle.go_meaning.specs.Values.{first_rune, line_of}
use Rattle.go_meaning.specs.Operations.{number, on_value, on_flag, on_number, on_text, on_channel, calculated, compared, indexed, a_text, cut_text, measured, made, closed_by, closed, written, output_limit, printed, locked, unlocked, set_number, added, waited, apply}
use Rattle.go_meaning.specs.Acts.{Slots, assignment, simple_items, part, comm_items, go_on, statement, run, constant, string_limit, pushed, variable, eval, loop, decided, next, advance, each, branch, enter, cases, default_of, match_case, matched, compare_case, has, assign, act_of}
use Rattle.go_meaning.specs.Acts as acts
use Rattle.cov_erase.proofs.Places.{IsPlain}
use Rattle.cov_erase.proofs.Cover.{IsFresh, IsOther}
use Rattle.cov_erase.proofs.Acting.{IsPlainItem}

module _ (Q : Parts) where
  abbrev pub IsSettled : Item → Type 0
  IsSettled (Run n i) = IsFresh (list_at Q n) i
  IsSettled (Loop n i) = IsPlain (form_at Q n i)
  IsSettled (Test n i) = IsPlain (form_at Q n i)
  IsSettled (Next n i) = IsPlain (form_at Q n i)
  IsSettled (Each n i) = IsPlain (form_at Q n i)
  IsSettled (Pull n i) = IsPlain (form_at Q n i)
  IsSettled (Match n i k) = IsPlain (form_at Q n i)
  IsSettled (Compare n i k) = IsPlain (form_at Q n i)
  IsSettled (Pick n i) = IsPlain (form_at Q n i)
  IsSettled it = Unit {0}

  -- a head may also stand just past a counter
  abbrev pub IsHead : Item → Type 0
  IsHead (Run n i) = Unit {0}
  IsHead it = IsSettled it

  abbrev pub AllSettled : List Item → Type 0
  AllSettled [] = Unit {0}
  AllSettled (i ∷ is) = IsSettled i × AllSettled is

  abbrev pub IsControl : List Item → Type 0
  IsControl [] = Unit {0}
  IsControl (i ∷ is) = IsHead i × AllSettled is

  abbrev pub FramesSettled : List Frame → Type 0
  FramesSettled [] = Unit {0}
  FramesSettled (f ∷ fs) = AllSettled f.control × FramesSettled fs

  abbrev pub IsSound : List Frame → Type 0
  IsSound [] = Unit {0}
  IsSound (f ∷ fs) = IsControl f.control × FramesSettled fs

  abbrev pub AllSound : List Goroutine → Type 0
  AllSound [] = Unit {0}
  AllSound (go ∷ gos) = IsSound go.frames × AllSound gos

  settled_head : (i : Item) → IsSettled i → IsHead i
  settled_head (Run n i) h = tt
  settled_head (Loop n i) h = h
  settled_head (Test n i) h = h
  settled_head (Next n i) h = h
  settled_head (Each n i) h = h
  settled_head (Pull n i) h = h
  settled_head (Match n i k) h = h
  settled_head (Compare n i k) h = h
  settled_head (Pick n i) h = h
  settled_head it h = tt

  settled_control : (is : List Item) → AllSettled is → IsControl is
  settled_control [] h = tt
  settled_control (i ∷ is) h = (settled_head i h.0, h.1)

  pub sound_settled : (fs : List Frame) → FramesSettled fs → IsSound fs
  sound_settled [] h = tt
  sound_settled (f ∷ fs) h = (settled_control f.control h.0, h.1)

  pub settled_append : (is js : List Item) → AllSettled is → AllSettled js → AllSettled (is ++ js)
  settled_append [] js h k = k
  settled_append (i ∷ is) js h k = (h.0, settled_append is js h.1 k)

  -- ---- what an item puts is settled

  unfoldable pub Puts : Act → Type 0
  Puts (act.Replaces n items) = AllSettled items
  Puts (act.Advances o at r code next' items) = AllSettled items
  Puts a = Unit {0}

  puts_value : (o : Option Value) (f : Value → Act) → ((v : Value) → Puts (f v)) → Puts (on_value o f)
  unfolding Puts on_value
  puts_value None f h = tt
  puts_value (Some v) f h = h v

  puts_flag : (o : Option Value) (f : Bool → Act) → ((b : Bool) → Puts (f b)) → Puts (on_flag o f)
  unfolding Puts on_flag
  puts_flag (Some (value.Flag b)) f h = h b
  puts_flag o f h = tt

  puts_number : (o : Option Value) (f : Int → Act) → ((i : Int) → Puts (f i)) → Puts (on_number o f)
  unfolding Puts on_number
  puts_number (Some (value.Number i)) f h = h i
  puts_number o f h = tt

  puts_text : (o : Option Value) (f : List ℕ → Act) → ((s : List ℕ) → Puts (f s)) → Puts (on_text o f)
  unfolding Puts on_text
  puts_text (Some (value.Text s)) f h = h s
  puts_text o f h = tt

  puts_channel : (o : Option Value) (f : Option ℕ → Act) → ((k : Option ℕ) → Puts (f k)) → Puts (on_channel o f)
  unfolding Puts on_channel
  puts_channel (Some (value.Channel k)) f h = h k
  puts_channel o f h = tt

  puts_if : (b : Bool) (x y : Act) → Puts x → Puts y → Puts (cond b x y)
  puts_if true x y h k = h
  puts_if false x y h k = k

  puts_calculated : (r : Result Int ValueFault) → Puts (calculated r)
  unfolding Puts calculated
  puts_calculated (Ok i) = tt
  puts_calculated (Err DivideByZero) = tt
  puts_calculated (Err NegativeShift) = tt

  puts_compared : (o : Option Bool) → Puts (compared o)
  unfolding Puts compared
  puts_compared None = tt
  puts_compared (Some b) = tt

  puts_indexed : (r : Result ℕ OutOfRange) → Puts (indexed r)
  unfolding Puts indexed
  puts_indexed (Ok b) = tt
  puts_indexed (Err e) = tt

  puts_a_text : (n : ℕ) (r : Result (List ℕ) TextFault) → Puts (a_text n r)
  unfolding Puts a_text
  puts_a_text n (Ok s) = tt
  puts_a_text n (Err faults.OutOfRange) = tt
  puts_a_text n (Err faults.StringLimit) = tt
  puts_a_text n (Err faults.NoMemory) = tt

  puts_cut : (low high : Bool) (st : List Value) → Puts (cut_text low high st)
  unfolding cut_text
  puts_cut true true st = puts_number _ _ (λ j. puts_number _ _ (λ i. puts_text _ _ (λ s. puts_a_text 3 _)))
  puts_cut true false st = puts_number _ _ (λ i. puts_text _ _ (λ s. puts_a_text 2 _))
  puts_cut false true st = puts_number _ _ (λ j. puts_text _ _ (λ s. puts_a_text 2 _))
  puts_cut false false st = puts_text _ _ (λ s. puts_a_text 1 _)

  puts_measured : (c : Config) (v : Value) → Puts (measured c v)
  unfolding Puts measured
  puts_measured c (value.Text s) = tt
  puts_measured c (value.Channel o) = tt
  puts_measured c (value.Flag b) = tt
  puts_measured c (value.Number i) = tt

  puts_made : (v : Value) (z : ℤ) → Puts (made v z)
  unfolding Puts made
  puts_made v (pos n) = tt
  puts_made v (negsuc n) = tt

  puts_closed_by : (k : ℕ) (o : Option Channel) → Puts (closed_by k o)
  unfolding Puts closed_by
  puts_closed_by k None = tt
  puts_closed_by k (Some ch) = puts_if ch.closed (act.Panics (codes "close of closed channel")) (act.Closes k) tt tt

  puts_closed : (c : Config) (o : Option ℕ) → Puts (closed c o)
  unfolding Puts closed
  puts_closed c None = tt
  puts_closed c (Some k) = puts_closed_by k (slice_get c.channels k)

  puts_printed : (c : Config) (n : ℕ) (st : List Value) → Puts (printed c n st)
  unfolding Puts printed written
  puts_printed c n st = puts_if (nat_le n (length st)) (written c n (line_of (reverse (take n st)))) act.Stuck (puts_if (nat_le (length c.output + length (line_of (reverse (take n st)))) output_limit) (act.Prints n (line_of (reverse (take n st)))) (act.Stops ends.OutputLimit) tt tt) tt

  puts_locked : (m : ℕ) (o : Option Bool) → Puts (locked m o)
  unfolding Puts locked
  puts_locked m None = tt
  puts_locked m (Some true) = tt
  puts_locked m (Some false) = tt

  puts_unlocked : (m : ℕ) (o : Option Bool) → Puts (unlocked m o)
  unfolding Puts unlocked
  puts_unlocked m None = tt
  puts_unlocked m (Some true) = tt
  puts_unlocked m (Some false) = tt

  puts_set : (n g : ℕ) (z : ℤ) → Puts (set_number n g z)
  unfolding Puts set_number
  puts_set n g (pos k) = puts_if (nat_le k 2147483647) (act.Sets n g k) (act.Panics (codes "sync: negative WaitGroup counter")) tt tt
  puts_set n g (negsuc k) = tt

  puts_added : (n g : ℕ) (o : Option ℕ) (z : ℤ) → Puts (added n g o z)
  unfolding Puts added
  puts_added n g None z = tt
  puts_added n g (Some k) z = puts_set n g _

  puts_waited : (o : Option ℕ) → Puts (waited o)
  unfolding Puts waited
  puts_waited None = tt
  puts_waited (Some zero) = tt
  puts_waited (Some (suc n)) = tt

  puts_apply : (c : Config) (o : Op) (st : List Value) → Puts (apply c o st)
  unfolding apply Puts
  puts_apply c (op.Arithmetic o) st = puts_number _ _ (λ b. puts_number _ _ (λ a. puts_calculated _))
  puts_apply c op.Join st = puts_text _ _ (λ b. puts_text _ _ (λ a. puts_a_text 2 _))
  puts_apply c (op.Compare r) st = puts_value _ _ (λ b. puts_value _ _ (λ a. puts_compared _))
  puts_apply c op.Not st = puts_flag _ _ (λ b. tt)
  puts_apply c op.Plus st = puts_number _ _ (λ a. tt)
  puts_apply c op.Minus st = puts_number _ _ (λ a. tt)
  puts_apply c op.Flip st = puts_number _ _ (λ a. tt)
  puts_apply c (op.Convert kind) st = puts_number _ _ (λ a. tt)
  puts_apply c op.Spell st = puts_number _ _ (λ a. tt)
  puts_apply c op.Keep st = puts_value _ _ (λ v. tt)
  puts_apply c op.Index st = puts_number _ _ (λ i. puts_text _ _ (λ s. puts_indexed _))
  puts_apply c (op.Cut low high) st = puts_cut low high st
  puts_apply c op.Len st = puts_value _ _ (puts_measured c)
  puts_apply c op.Cap st = puts_channel _ _ (λ o. tt)
  puts_apply c (op.Make v true) st = puts_number _ _ (λ n. puts_made v _)
  puts_apply c (op.Make v false) st = tt
  puts_apply c op.Close st = puts_channel _ _ (puts_closed c)
  puts_apply c (op.Println n) st = puts_printed c n st
  puts_apply c op.Panic st = puts_value _ _ (λ v. tt)
  puts_apply c op.Exit st = puts_number _ _ (λ n. tt)
  puts_apply c op.Itoa st = puts_number _ _ (λ n. tt)
  puts_apply c (op.Lock m) st = puts_locked m _
  puts_apply c (op.Unlock m) st = puts_unlocked m _
  puts_apply c (op.Add g) st = puts_number _ _ (λ n. puts_added 1 g _ _)
  puts_apply c (op.Done g) st = puts_added 0 g _ _
  puts_apply c (op.Wait g) st = puts_waited _

  -- ---- statements

  settled_evals : (es : List Expr) → AllSettled (map Eval es)
  settled_evals [] = tt
  settled_evals (e ∷ es) = (tt, settled_evals es)

  settled_assignment : (a : Assignment) → AllSettled (assignment a)
  settled_assignment a = settled_append (map Eval a.values) (Assign a.targets ∷ []) (settled_evals a.values) (tt, tt)

  settled_assignments : (as' : List Assignment) → AllSettled (flat_map assignment as')
  settled_assignments [] = tt
  settled_assignments (a ∷ as') = settled_append (assignment a) (flat_map assignment as') (settled_assignment a) (settled_assignments as')

  settled_simple : (s : Simple) → AllSettled (simple_items s)
  settled_simple (simple.Eval e n b) = (tt, (tt, tt))
  settled_simple (simple.Send a b) = (tt, (tt, (tt, tt)))
  settled_simple (simple.Update x o e) = (tt, (tt, (tt, (tt, tt))))
  settled_simple (simple.Assign a) = settled_assignment a

  settled_part : (o : Option Simple) → AllSettled (part o)
  settled_part None = tt
  settled_part (Some s) = settled_simple s

  settled_comm : (m : Comm) → AllSettled (comm_items m)
  settled_comm comm.Default = tt
  settled_comm (comm.Send a b) = (tt, (tt, tt))
  settled_comm (comm.Receive e ts) = (tt, tt)

  settled_comms : (cs : List CommClause) → AllSettled (flat_map (λ (c : CommClause). comm_items c.comm) cs)
  settled_comms [] = tt
  settled_comms (c ∷ cs) = settled_append (comm_items c.comm) (flat_map (λ (d : CommClause). comm_items d.comm) cs) (settled_comm c.comm) (settled_comms cs)

  settled_enter : (o : Option ℕ) → AllSettled (enter o)
  settled_enter None = tt
  settled_enter (Some l) = (tt, (tt, tt))

  -- past a statement that is no counter the place is fresh
  plain_other : (form : NodeForm) → IsPlain (Some form) → IsOther (Some form)
  plain_other (node.Count u) h = cc
  plain_other form h = refl

  fresh_next : (n i : ℕ) (o : Option NodeForm) → o ≡ form_at Q n i → IsPlain o → MatchOption o (Unit {0}) (λ form. IsFresh (list_at Q n) (suc i))
  fresh_next n i None e h = tt
  fresh_next n i (Some form) e h = let F : Option NodeForm → Type 0 = IsOther in rw (← e) (plain_other form h)

  puts_go_on : (n i : ℕ) (items : List Item) → AllSettled items → IsFresh (list_at Q n) (suc i) → Puts (go_on n i items)
  unfolding Puts
  puts_go_on n i items h f = settled_append items (Run n (suc i) ∷ []) h (f, tt)

  puts_statement : (n i : ℕ) (form : NodeForm) → IsPlain (form_at Q n i) → IsFresh (list_at Q n) (suc i) → Puts (statement n i form)
  unfolding Puts
  puts_statement n i node.Const h f = puts_go_on n i [] tt f
  puts_statement n i (node.Var as') h f = puts_go_on n i (flat_map assignment as') (settled_assignments as') f
  puts_statement n i (node.Simple s) h f = puts_go_on n i (simple_items s) (settled_simple s) f
  puts_statement n i (node.Block l b) h f = puts_go_on n i (Run l 0 ∷ []) (tt, tt) f
  puts_statement n i (node.If first x a o) h f = puts_go_on n i (part first ++ Eval x ∷ Branch a o ∷ []) (settled_append (part first) (Eval x ∷ Branch a o ∷ []) (settled_part first) (tt, (tt, tt))) f
  puts_statement n i (node.For first x last l) h f = puts_go_on n i (part first ++ Loop n i ∷ []) (settled_append (part first) (Loop n i ∷ []) (settled_part first) (h, tt)) f
  puts_statement n i (node.RangeText o r x l) h f = puts_go_on n i (Eval x ∷ Eval (expr.Value (number (pos 0))) ∷ Each n i ∷ []) (tt, (tt, (h, tt))) f
  puts_statement n i (node.RangeChannel v x l) h f = puts_go_on n i (Eval x ∷ Pull n i ∷ []) (tt, (h, tt)) f
  puts_statement n i (node.Switch first x cs) h f = puts_go_on n i (part first ++ Eval x ∷ Match n i 0 ∷ []) (settled_append (part first) (Eval x ∷ Match n i 0 ∷ []) (settled_part first) (tt, (h, tt))) f
  puts_statement n i (node.Select cs) h f = puts_go_on n i (flat_map (λ (c : CommClause). comm_items c.comm) cs ++ Pick n i ∷ []) (settled_append (flat_map (λ (c : CommClause). comm_items c.comm) cs) (Pick n i ∷ []) (settled_comms cs) (h, tt)) f
  puts_statement n i (node.Return es r) h f = puts_go_on n i (map Eval es ++ Return r ∷ []) (settled_append (map Eval es) (Return r ∷ []) (settled_evals es) (tt, tt)) f
  puts_statement n i (node.Go g es) h f = puts_go_on n i (map Eval es ++ Spawn g ∷ []) (settled_append (map Eval es) (Spawn g ∷ []) (settled_evals es) (tt, tt)) f
  puts_statement n i (node.Defer d es) h f = puts_go_on n i (map Eval es ++ Defer d ∷ []) (settled_append (map Eval es) (Defer d ∷ []) (settled_evals es) (tt, tt)) f
  puts_statement n i (node.Break k) h f = tt
  puts_statement n i (node.Continue k) h f = tt
  puts_statement n i (node.Fallthrough l) h f = tt
  puts_statement n i (node.Count u) h f = tt

  puts_run : (n i : ℕ) (o : Option NodeForm) → IsPlain (form_at Q n i) → MatchOption o (Unit {0}) (λ form. IsFresh (list_at Q n) (suc i)) → Puts (run n i o)
  unfolding Puts
  puts_run n i None h f = tt
  puts_run n i (Some form) h f = puts_statement n i form h f

  -- ---- the other items

  puts_constant : (v : Value) → Puts (constant v)
  unfolding Puts constant
  puts_constant (value.Text s) = puts_if (nat_le (length s) string_limit) (act.Pushes 0 (value.Text s)) (act.Stops ends.StringLimit) tt tt
  puts_constant (value.Flag b) = tt
  puts_constant (value.Number i) = tt
  puts_constant (value.Channel o) = tt

  puts_pushed : (o : Option Value) → Puts (pushed o)
  unfolding Puts pushed
  puts_pushed None = tt
  puts_pushed (Some v) = tt

  puts_variable : (c : Config) (slots : Slots) (x : Variable) → Puts (variable c slots x)
  puts_variable c slots (Slot s) = puts_pushed _
  puts_variable c slots (Global g) = puts_pushed _

  puts_eval : (c : Config) (slots : Slots) (e : Expr-F Expr) → Puts (eval c slots e)
  unfolding Puts
  puts_eval c slots (Expr-F.Value v) = puts_constant v
  puts_eval c slots (Expr-F.Variable x) = puts_variable c slots x
  puts_eval c slots (Expr-F.And a b) = (tt, (tt, tt))
  puts_eval c slots (Expr-F.Or a b) = (tt, (tt, tt))
  puts_eval c slots (Expr-F.Apply o es) = settled_append (map Eval es) (Do o ∷ []) (settled_evals es) (tt, tt)
  puts_eval c slots (Expr-F.Receive a) = (tt, (tt, tt))
  puts_eval c slots (Expr-F.ReceiveOk a) = (tt, (tt, tt))
  puts_eval c slots (Expr-F.Call f es) = settled_append (map Eval es) (Call f ∷ []) (settled_evals es) (tt, tt)

  puts_loop : (n i : ℕ) (o : Option NodeForm) → IsPlain (form_at Q n i) → Puts (loop n i o)
  unfolding Puts
  puts_loop n i (Some (node.For first (Some e) last l)) h = (tt, (h, tt))
  puts_loop n i (Some (node.For first None last l)) h = (tt, (h, tt))
  puts_loop n i o h = tt

  puts_test : (n i : ℕ) (o : Option NodeForm) → IsPlain (form_at Q n i) → (b : Bool) → Puts (decided n i o b)
  unfolding Puts decided
  puts_test n i (Some (node.For first e last l)) h true = (tt, (h, tt))
  puts_test n i (Some (node.For first e last l)) h false = tt
  puts_test n i o h b = tt

  puts_next : (n i : ℕ) (o : Option NodeForm) → IsPlain (form_at Q n i) → Puts (next n i o)
  unfolding Puts
  puts_next n i (Some (node.For first e last l)) h = settled_append (part last) (Loop n i ∷ []) (settled_part last) (h, tt)
  puts_next n i o h = tt

  puts_each : (n i : ℕ) (o : Option NodeForm) (at : Int) → IsPlain (form_at Q n i) → (s : List ℕ) → Puts (each n i o at s)
  unfolding Puts each
  puts_each n i (Some (node.RangeText o r e l)) at h s =
      puts_if (nat_lt at.bits (length s)) (advance n i o r l at (first_rune (drop at.bits s))) (act.Replaces 2 []) (tt, (h, tt)) tt
  puts_each n i o at h s = tt

  puts_branch : (a : ℕ) (o : Option ℕ) (b : Bool) → Puts (branch a o b)
  unfolding Puts branch
  puts_branch a o true = (tt, tt)
  puts_branch a None false = tt
  puts_branch a (Some l) false = (tt, tt)

  puts_match_case : (n i k : ℕ) (cs : List CaseClause) (o : Option (Expr × ℕ)) → IsPlain (form_at Q n i) → Puts (match_case n i k cs o)
  unfolding Puts
  puts_match_case n i k cs None h = settled_enter (default_of cs)
  puts_match_case n i k cs (Some p) h = (tt, (h, tt))

  puts_match : (n i k : ℕ) (o : Option NodeForm) → IsPlain (form_at Q n i) → Puts (matched n i k o)
  unfolding Puts matched
  puts_match n i k (Some (node.Switch first e cs)) h = puts_match_case n i k cs _ h
  puts_match n i k o h = tt

  puts_compare_case : (n i k : ℕ) (b : Bool) (o : Option (Expr × ℕ)) → IsPlain (form_at Q n i) → Puts (compare_case n i k b o)
  unfolding Puts
  puts_compare_case n i k true (Some p) h = (tt, (tt, tt))
  puts_compare_case n i k false (Some p) h = (h, tt)
  puts_compare_case n i k true None h = tt
  puts_compare_case n i k false None h = tt

  puts_compare : (n i k : ℕ) (o : Option NodeForm) (b : Bool) → IsPlain (form_at Q n i) → Puts (acts.compare n i k o b)
  unfolding Puts acts.compare
  puts_compare n i k (Some (node.Switch first e cs)) b h = puts_compare_case n i k b _ h
  puts_compare n i k o b h = tt

  puts_assign : (ts : List Target) (st : List Value) → Puts (assign ts st)
  unfolding Puts assign
  puts_assign [] st = tt
  puts_assign (t ∷ ts) st = puts_value _ _ (λ v. tt)

  pub puts_act : (it : Item) (c : Config) (slots : Slots) (st : List Value) → IsHead it → IsPlainItem Q it → Puts (act_of Q c it slots st)
  unfolding act_of Puts has
  puts_act (Run n i) c slots st h p = puts_run n i (form_at Q n i) p (fresh_next n i (form_at Q n i) refl p)
  puts_act (Eval e) c slots st h p = puts_eval c slots (out-Expr e)
  puts_act (Drop n) c slots st h p = puts_if (nat_le n (length st)) (act.Replaces n []) act.Stuck tt tt
  puts_act (Assign ts) c slots st h p = puts_assign ts st
  puts_act (Do o) c slots st h p = puts_apply c o st
  puts_act (And e) c slots st h p = puts_flag _ _ (λ b. puts_if b (act.Replaces 1 (Eval e ∷ [])) (act.Pushes 1 (value.Flag false)) (tt, tt) tt)
  puts_act (Or e) c slots st h p = puts_flag _ _ (λ b. puts_if b (act.Pushes 1 (value.Flag true)) (act.Replaces 1 (Eval e ∷ [])) tt (tt, tt))
  puts_act (Branch a o) c slots st h p = puts_flag _ _ (puts_branch a o)
  puts_act (Loop n i) c slots st h p = puts_loop n i _ p
  puts_act (Test n i) c slots st h p = puts_flag _ _ (puts_test n i _ p)
  puts_act (Next n i) c slots st h p = puts_next n i _ p
  puts_act (Each n i) c slots st h p = puts_number _ _ (λ at. puts_text _ _ (puts_each n i _ at p))
  puts_act (Match n i k) c slots st h p = puts_value _ _ (λ tag. puts_match n i k _ p)
  puts_act (Compare n i k) c slots st h p = puts_value _ _ (λ v. puts_value _ _ (λ tag. puts_compare n i k _ _ p))
  puts_act Leave c slots st h p = tt
  puts_act (Spawn f) c slots st h p = tt
  puts_act (Defer d) c slots st h p = tt
  puts_act (Call f) c slots st h p = tt
  puts_act (Return n) c slots st h p = puts_if (nat_le n (length st)) (act.Returns n) act.Stuck tt tt
  puts_act (Unwind m) c slots st h p = tt
  puts_act (Pull n i) c slots st h p = tt
  puts_act (Pick n i) c slots st h p = tt
  puts_act Send c slots st h p = tt
  puts_act Recv c slots st h p = tt
  puts_act RecvOk c slots st h p = tt

  -- ---- an act that can leave the head item in its place isn't that of a statement

  unfoldable pub Stays : Act → Type 0
  Stays (act.Calls f) = Unit {0}
  Stays (act.Spawns f) = Unit {0}
  Stays (act.Returns n) = Unit {0}
  Stays (act.Unwinds m) = Unit {0}
  Stays (act.Stops e) = Unit {0}
  Stays a = ⊥

  moves_statement : (n i : ℕ) (form : NodeForm) → Stays (statement n i form) → ⊥
  unfolding Stays
  moves_statement n i (node.Break k) h = h
  moves_statement n i (node.Continue k) h = h
  moves_statement n i (node.Fallthrough l) h = h
  moves_statement n i (node.Count u) h = h
  moves_statement n i form h = h

  moves_run : (n i : ℕ) (o : Option NodeForm) → Stays (run n i o) → ⊥
  unfolding Stays
  moves_run n i None h = h
  moves_run n i (Some form) h = moves_statement n i form h

  pub head_stays : (it : Item) (is : List Item) (c : Config) (slots : Slots) (st : List Value) → IsControl (it ∷ is) → Stays (act_of Q c it slots st) → AllSettled (it ∷ is)
  unfolding act_of
  head_stays (Run n i) is c slots st h s = absurd (moves_run n i (form_at Q n i) s)
  head_stays (Loop n i) is c slots st h s = h
  head_stays (Test n i) is c slots st h s = h
  head_stays (Next n i) is c slots st h s = h
  head_stays (Each n i) is c slots st h s = h
  head_stays (Pull n i) is c slots st h s = h
  head_stays (Match n i k) is c slots st h s = h
  head_stays (Compare n i k) is c slots st h s = h
  head_stays (Pick n i) is c slots st h s = h
  head_stays it is c slots st h s = h
