-- After a step the control lists of the goroutines that it advances are settled.
use Rattle.std.proofs.Common.{◌≡◌, ℕ, zero, suc, Bool, true, false, cond, List, [], ◌∷◌, ◌++◌, Option, Some, None, refl, length}
use Rattle.std.specs.Prelude.{slice_get, slice_index_or, nat_lt, take, drop, option_map, option_and_then}
use Rattle.std.specs.List.{list_any}
use Rattle.std.specs.Option.{MatchOption, option_or}
use Rattle.go_meaning.specs.declared.value.Value.{Value}
use Rattle.go_meaning.specs.declared.value.Value.TheVariants as value
use Rattle.go_meaning.specs.declared.value.Channel.{Channel}
use Rattle.go_meaning.specs.declared.expr.Target.{Target}
use Rattle.go_meaning.specs.declared.node.Deferral.{Deferral}
use Rattle.go_meaning.specs.declared.node.CommClause.{CommClause}
use Rattle.go_meaning.specs.declared.node.Comm.{Comm}
use Rattle.go_meaning.specs.declared.node.Comm.TheVariants as comm
use Rattle.go_meaning.specs.declared.node.NodeForm.{NodeForm}
use Rattle.go_meaning.specs.declared.node.NodeForm.TheVariants as node
use Rattle.go_meaning.specs.declared.item.Item.{Item}
use Rattle.go_meaning.specs.declared.item.Item.TheVariants.{Run, Pull, Pick, Leave, Send, Recv, RecvOk}
use Rattle.go_meaning.specs.declared.event.End.TheVariants as ends
use Rattle.go_meaning.specs.declared.act.Act.{Act}
use Rattle.go_meaning.specs.declared.act.Act.TheVariants as act
use Rattle.go_meaning.specs.declared.config.Call.{Call as Begun}
use Rattle.go_meaning.specs.declared.config.Deferred.{Deferred}
use Rattle.go_meaning.specs.declared.config.Deferred.TheVariants as deferred
use Rattle.go_meaning.specs.declared.config.Frame.{Frame}
use Rattle.go_meaning.specs.declared.config.Goroutine.{Goroutine}
use Rattle.go_meaning.specs.declared.config.Config.{Config}
use Rattle.go_meaning.specs.Programs.{Parts, form_at, function_at}
use Rattle.go_meaning.specs.Acts.{act_of}
use Rattle.go_meaning.specs.Moves.{Move, moved, running, new_frame, on_with, stopped, Taken, taken, set_slot, set_global, assign_rest, assigned, mark, Cut, cut_at, cut_past, past_mark, broken, fallen, cut_to, called, call, spawn, goroutine_limit, stack_limit, deferred_call, defer, run_deferred, over, deliver, return_from, unwind_to, unwind, put, operands_of}
use Rattle.go_meaning.specs.Channels.{Side, Neither, Offers, Wants, Defaults, Sides, Plain, Choice, on, send_side, receive_side, receive_ok_side, pulled, pull_side, received, pick_items, clause_side, clause_sides, pick_operands, pick_taken, pick_sides, item_sides, control_sides, frame_sides, sides_of, side_at, is_default, partner_sides, listed, is_direct, exchange, with_values, send, receive_from, receive, by_itself, is_ready, lone}
use Rattle.go_meaning.specs.Channels as channels
use Rattle.go_meaning.specs.Steps.{at_zero, on_control, on_frames, alone, together}
use Rattle.cov_erase.proofs.Places.{IsPlain}
use Rattle.cov_erase.proofs.Sim.{IsPlainControl, IsPlainBegun, IsPlainGoroutine}
use Rattle.cov_erase.proofs.Settled.{IsHead, AllSettled, IsControl, FramesSettled, IsSound, settled_append, Puts, puts_act, Stays, head_stays}

module _ (Q : Parts) where
  abbrev pub AreNew : List Goroutine → Type 0
  AreNew [] = Unit {0}
  AreNew (go ∷ gos) = (go.frames ≡ []) × AreNew gos

  -- the frames are settled, and those of goroutines that are started are none
  pub record MoveSettled (m : Move) : Type 0 where
    pub after : FramesSettled Q m.after.frames
    pub born : AreNew m.born

  settled_moved : (c : Config) (go : Goroutine) → FramesSettled Q go.frames → MoveSettled (moved c go)
  settled_moved c go h = record { after = h; born = tt }

  -- none, or a move that is settled
  abbrev pub IsFine : Option Move → Type 0
  IsFine o = MatchOption o (Unit {0}) MoveSettled

  fine_if : (b : Bool) (o p : Option Move) → IsFine o → IsFine p → IsFine (cond b o p)
  fine_if true o p h k = h
  fine_if false o p h k = k

  settled_if : (b : Bool) (m n : Move) → MoveSettled m → MoveSettled n → MoveSettled (cond b m n)
  settled_if true m n h k = h
  settled_if false m n h k = k

  -- ---- marks

  settled_cut_at : (o : Option ℕ) (k : ℕ) (it : Item) (is : List Item) (more : ℕ → Cut) → AllSettled Q (it ∷ is) → ((j : ℕ) → AllSettled Q (more j).control) → AllSettled Q (cut_at o k it is more).control
  settled_cut_at None k it is more h r = r k
  settled_cut_at (Some v) zero it is more h r = h
  settled_cut_at (Some v) (suc k) it is more h r = r k

  settled_cut : (is : List Item) (k : ℕ) → AllSettled Q is → AllSettled Q (cut_past is k).control
  settled_cut [] k h = tt
  settled_cut (it ∷ is) k h = settled_cut_at (mark it) k it is (cut_past is) h (λ j. settled_cut is j h.1)

  settled_past : (is : List Item) → AllSettled Q is → AllSettled Q (past_mark is).control
  settled_past [] h = tt
  settled_past (it ∷ is) h = h.1

  -- ---- acts

  settled_rest : (ts : List Target) (is : List Item) → AllSettled Q is → AllSettled Q (assign_rest ts ++ is)
  settled_rest [] is h = h
  settled_rest (t ∷ ts) is h = (tt, h)

  settled_called : (c : Config) (f : Frame) (fs : List Frame) (f' : Frame) (fs' : List Frame) (g : ℕ) (vs : List Value) (b : Bool) → AllSettled Q f.control → FramesSettled Q fs → AllSettled Q f'.control → FramesSettled Q fs' → MoveSettled (called Q c f fs f' fs' (new_frame Q g vs b))
  settled_called c f fs f' fs' g vs b h k h' k' =
      settled_if (nat_lt (length (f ∷ fs)) stack_limit) (moved c (running (new_frame Q g vs b ∷ f' ∷ fs'))) (stopped c f fs ends.StackLimit)
      (record { after = ((tt, (tt, tt)), (h', k')); born = tt })
      (record { after = (h, k); born = tt })

  settled_call : (c : Config) (f : Frame) (fs : List Frame) (rest : List Item) (g : ℕ) (o : Option Taken) → AllSettled Q f.control → AllSettled Q rest → FramesSettled Q fs → IsFine (option_map (call Q c f fs rest g) o)
  settled_call c f fs rest g None h r k = tt
  settled_call c f fs rest g (Some t) h r k = settled_called c f fs (record f { stack = t.stack; control = rest }) fs g t.values false h k r k

  settled_spawn : (c : Config) (f : Frame) (fs : List Frame) (rest : List Item) (g : ℕ) (o : Option Taken) → AllSettled Q f.control → AllSettled Q rest → FramesSettled Q fs → IsFine (option_map (spawn c f fs rest g) o)
  settled_spawn c f fs rest g None h r k = tt
  settled_spawn c f fs rest g (Some t) h r k = by (nat_lt (length c.goroutines) goroutine_limit)
    where
      by : (b : Bool) → MoveSettled (cond b (record { world = c; after = running (record f { stack = t.stack; control = rest } ∷ fs); born = Rattle.go_meaning.specs.Moves.started g t.values ∷ [] }) (stopped c f fs ends.GoroutineLimit))
      by true = record { after = (r, k); born = (refl, tt) }
      by false = record { after = (h, k); born = tt }

  settled_deferred : (c : Config) (f : Frame) (fs : List Frame) (rest : List Item) (st : List Value) (o : Option Deferred) → AllSettled Q rest → FramesSettled Q fs → IsFine (option_map (λ d. on_with c (record f { deferred = d ∷ f.deferred }) fs st rest) o)
  settled_deferred c f fs rest st None r k = tt
  settled_deferred c f fs rest st (Some d) r k = record { after = (r, k); born = tt }

  settled_defer : (c : Config) (f : Frame) (fs : List Frame) (rest : List Item) (d : Deferral) (o : Option Taken) → AllSettled Q rest → FramesSettled Q fs → IsFine (option_and_then (defer c f fs rest d) o)
  settled_defer c f fs rest d None r k = tt
  settled_defer c f fs rest d (Some t) r k = settled_deferred c f fs rest t.stack (deferred_call d t.values) r k

  settled_run : (c : Config) (f : Frame) (fs : List Frame) (d : Deferred) (ds : List Deferred) → AllSettled Q f.control → FramesSettled Q fs → MoveSettled (run_deferred Q c f fs d ds)
  settled_run c f fs (deferred.Call d) ds h k = settled_called c f fs (record f { deferred = ds }) fs d.function d.args true h k h k
  settled_run c f fs (deferred.Done g) ds h k = record { after = ((tt, h), k); born = tt }
  settled_run c f fs (deferred.Unlock m) ds h k = record { after = ((tt, h), k); born = tt }
  settled_run c f fs (deferred.Close v) ds h k = record { after = ((tt, h), k); born = tt }
  settled_run c f fs (deferred.Println vs) ds h k = record { after = ((tt, h), k); born = tt }

  settled_deliver : (c : Config) (i : ℕ) (vs : List Value) (fs : List Frame) → FramesSettled Q fs → MoveSettled (deliver c i vs fs)
  settled_deliver c i vs [] h = record { after = tt; born = tt }
  settled_deliver c i vs (g ∷ fs) h = record { after = h; born = tt }

  settled_return : (c : Config) (i : ℕ) (f : Frame) (fs : List Frame) (n : ℕ) (ds : List Deferred) → AllSettled Q f.control → FramesSettled Q fs → MoveSettled (return_from Q c i f fs n ds)
  settled_return c i f fs n [] h k = settled_deliver c i (cond f.drops [] (take n f.stack)) fs k
  settled_return c i f fs n (d ∷ ds) h k = settled_run c f fs d ds h k

  settled_unwind : (c : Config) (f : Frame) (fs : List Frame) (m : List ℕ) (ds : List Deferred) → AllSettled Q f.control → FramesSettled Q fs → MoveSettled (unwind Q c f fs m ds)
  settled_unwind c f [] m [] h k = record { after = tt; born = tt }
  settled_unwind c f (g ∷ fs) m [] h k = record { after = ((tt, tt), k.1); born = tt }
  settled_unwind c f fs m (d ∷ ds) h k = settled_run c f fs d ds h k

  settled_assigns : (c : Config) (f : Frame) (fs : List Frame) (rest : List Item) (t : Target) (ts : List Target) (o : Option Value) → AllSettled Q rest → FramesSettled Q fs → IsFine (option_map (assigned c f fs rest t ts) o)
  settled_assigns c f fs rest t ts None r k = tt
  settled_assigns c f fs rest t ts (Some v) r k = record { after = (settled_rest ts rest r, k); born = tt }

  settled_put : (a : Act) (c : Config) (i : ℕ) (f : Frame) (fs : List Frame) (rest : List Item) → AllSettled Q rest → FramesSettled Q fs → Puts Q a → (Stays Q a → AllSettled Q f.control) → IsFine (put Q c i f fs rest a)
  unfolding put Puts Stays
  settled_put act.Stuck c i f fs rest r k p s = tt
  settled_put act.Waits c i f fs rest r k p s = tt
  settled_put (act.Replaces n items) c i f fs rest r k p s = record { after = (settled_append Q items rest p r, k); born = tt }
  settled_put (act.Pushes n v) c i f fs rest r k p s = record { after = (r, k); born = tt }
  settled_put (act.Assigns t ts) c i f fs rest r k p s = settled_assigns c f fs rest t ts (slice_get f.stack (length ts)) r k
  settled_put (act.Advances o at rt code next items) c i f fs rest r k p s = record { after = (settled_append Q items rest p r, k); born = tt }
  settled_put (act.Breaks n) c i f fs rest r k p s = record { after = (settled_past (cut_past rest n).control (settled_cut rest n r), k); born = tt }
  settled_put (act.Continues n) c i f fs rest r k p s = record { after = (settled_cut rest n r, k); born = tt }
  settled_put (act.Falls l) c i f fs rest r k p s = record { after = ((tt, settled_cut rest 0 r), k); born = tt }
  settled_put (act.Calls g) c i f fs rest r k p s = settled_call c f fs rest g (taken (function_at Q g).params f.stack) (s tt) r k
  settled_put (act.Spawns g) c i f fs rest r k p s = settled_spawn c f fs rest g (taken (function_at Q g).params f.stack) (s tt) r k
  settled_put (act.Defers d) c i f fs rest r k p s = settled_defer c f fs rest d (taken (operands_of Q d) f.stack) r k
  settled_put (act.Returns n) c i f fs rest r k p s = settled_return c i f fs n f.deferred (s tt) k
  settled_put (act.Unwinds m) c i f fs rest r k p s = settled_unwind c f fs m f.deferred (s tt) k
  settled_put (act.Panics m) c i f fs rest r k p s = record { after = ((tt, tt), k); born = tt }
  settled_put (act.Stops e) c i f fs rest r k p s = record { after = (s tt, k); born = tt }
  settled_put (act.Ends n e) c i f fs rest r k p s = record { after = (r, k); born = tt }
  settled_put (act.Prints n text) c i f fs rest r k p s = record { after = (r, k); born = tt }
  settled_put (act.Locks m b) c i f fs rest r k p s = record { after = (r, k); born = tt }
  settled_put (act.Sets n g z) c i f fs rest r k p s = record { after = (r, k); born = tt }
  settled_put (act.Makes n v capacity) c i f fs rest r k p s = record { after = (r, k); born = tt }
  settled_put (act.Closes n) c i f fs rest r k p s = record { after = (r, k); born = tt }

  -- ---- sides

  abbrev pub SideSettled : Side → Type 0
  SideSettled Neither = Unit {0}
  SideSettled (Offers o v a p) = FramesSettled Q a.frames × FramesSettled Q p.frames
  SideSettled (Wants o take) = (v : Value) (ok : Bool) → FramesSettled Q (take v ok).frames
  SideSettled (Defaults a) = FramesSettled Q a.frames

  abbrev pub AllSides : List Side → Type 0
  AllSides [] = Unit {0}
  AllSides (s ∷ ss) = SideSettled s × AllSides ss

  abbrev pub SidesSettled : Sides → Type 0
  SidesSettled (Plain s) = SideSettled s
  SidesSettled (Choice ss) = AllSides ss

  settled_send_side : (f : Frame) (fs : List Frame) (rest : List Item) (st : List Value) → AllSettled Q rest → FramesSettled Q fs → SideSettled (send_side f fs rest st)
  settled_send_side f fs rest (v ∷ value.Channel o ∷ st) h k = ((h, k), ((tt, tt), k))
  settled_send_side f fs rest st h k = tt

  settled_receive_side : (f : Frame) (fs : List Frame) (rest : List Item) (st : List Value) → AllSettled Q rest → FramesSettled Q fs → SideSettled (receive_side f fs rest st)
  settled_receive_side f fs rest (value.Channel o ∷ st) h k = λ v ok. (h, k)
  settled_receive_side f fs rest st h k = tt

  settled_receive_ok_side : (f : Frame) (fs : List Frame) (rest : List Item) (st : List Value) → AllSettled Q rest → FramesSettled Q fs → SideSettled (receive_ok_side f fs rest st)
  settled_receive_ok_side f fs rest (value.Channel o ∷ st) h k = λ v ok. (h, k)
  settled_receive_ok_side f fs rest st h k = tt

  settled_pulled : (n i : ℕ) (t : Target) (l : ℕ) (f : Frame) (fs : List Frame) (rest : List Item) (st : List Value) → IsPlain (form_at Q n i) → AllSettled Q rest → FramesSettled Q fs → (v : Value) (ok : Bool) → FramesSettled Q (pulled n i t l f fs rest st v ok).frames
  settled_pulled n i t l f fs rest st p h k v true = ((tt, (p, h)), k)
  settled_pulled n i t l f fs rest st p h k v false = (h, k)

  settled_pull_side : (n i : ℕ) (o : Option NodeForm) (f : Frame) (fs : List Frame) (rest : List Item) (st : List Value) → IsPlain (form_at Q n i) → AllSettled Q rest → FramesSettled Q fs → SideSettled (pull_side n i o f fs rest st)
  settled_pull_side n i (Some (node.RangeChannel t e l)) f fs rest (value.Channel o ∷ st) p h k = settled_pulled n i t l f fs rest st p h k
  settled_pull_side n i o f fs rest st p h k = tt

  settled_clause : (f : Frame) (fs : List Frame) (rest : List Item) (st : List Value) (m : Comm) (l : ℕ) (vs : List Value) → AllSettled Q rest → FramesSettled Q fs → SideSettled (clause_side f fs rest st m l vs)
  settled_clause f fs rest st comm.Default l vs h k = ((tt, (tt, h)), k)
  settled_clause f fs rest st (comm.Send a b) l (value.Channel o ∷ v ∷ vs) h k = (((tt, (tt, h)), k), ((tt, tt), k))
  settled_clause f fs rest st (comm.Receive e ts) l (value.Channel o ∷ vs) h k = λ v ok. (settled_rest ts (Run l 0 ∷ Leave ∷ rest) (tt, (tt, h)), k)
  settled_clause f fs rest st (comm.Send a b) l vs h k = tt
  settled_clause f fs rest st (comm.Receive e ts) l vs h k = tt

  settled_clauses : (f : Frame) (fs : List Frame) (rest : List Item) (st : List Value) (cs : List CommClause) (vs : List Value) → AllSettled Q rest → FramesSettled Q fs → AllSides (clause_sides f fs rest st cs vs)
  settled_clauses f fs rest st [] vs h k = tt
  settled_clauses f fs rest st (c ∷ cs) vs h k = (settled_clause f fs rest st c.comm c.list vs h k, settled_clauses f fs rest st cs (drop (channels.operands_of c.comm) vs) h k)

  settled_taken : (f : Frame) (fs : List Frame) (rest : List Item) (cs : List CommClause) (o : Option Taken) → AllSettled Q rest → FramesSettled Q fs → SidesSettled (pick_taken f fs rest cs o)
  settled_taken f fs rest cs None h k = tt
  settled_taken f fs rest cs (Some t) h k = settled_clauses f fs rest t.stack cs t.values h k

  settled_pick : (o : Option NodeForm) (f : Frame) (fs : List Frame) (rest : List Item) → AllSettled Q rest → FramesSettled Q fs → SidesSettled (pick_sides o f fs rest)
  settled_pick (Some (node.Select cs)) f fs rest h k = settled_taken f fs rest cs (taken (pick_operands cs) f.stack) h k
  settled_pick o f fs rest h k = tt

  settled_sides : (it : Item) (f : Frame) (fs : List Frame) (rest : List Item) → IsHead Q it → AllSettled Q rest → FramesSettled Q fs → SidesSettled (item_sides Q it f fs rest)
  settled_sides Send f fs rest p h k = settled_send_side f fs rest f.stack h k
  settled_sides Recv f fs rest p h k = settled_receive_side f fs rest f.stack h k
  settled_sides RecvOk f fs rest p h k = settled_receive_ok_side f fs rest f.stack h k
  settled_sides (Pull n i) f fs rest p h k = settled_pull_side n i (form_at Q n i) f fs rest f.stack p h k
  settled_sides (Pick n i) f fs rest p h k = settled_pick (form_at Q n i) f fs rest h k
  settled_sides it f fs rest p h k = tt

  abbrev pub IsSoundGoroutine : Option Goroutine → Type 0
  IsSoundGoroutine None = Unit {0}
  IsSoundGoroutine (Some go) = IsSound Q go.frames

  settled_control_sides : (f : Frame) (fs : List Frame) (is : List Item) → IsControl Q is → FramesSettled Q fs → SidesSettled (control_sides Q f fs is)
  settled_control_sides f fs [] h k = tt
  settled_control_sides f fs (it ∷ is) h k = settled_sides it f fs is h.0 h.1 k

  settled_frame_sides : (b : Option Begun) (fs : List Frame) → IsSound Q fs → SidesSettled (frame_sides Q b fs)
  settled_frame_sides (Some call) fs h = tt
  settled_frame_sides None [] h = tt
  settled_frame_sides None (f ∷ fs) h = settled_control_sides f fs f.control h.0 h.1

  settled_sides_of : (o : Option Goroutine) → IsSoundGoroutine o → SidesSettled (sides_of Q o)
  settled_sides_of None h = tt
  settled_sides_of (Some go) h = settled_frame_sides go.begin go.frames h

  settled_index : (ss : List Side) (k : ℕ) → AllSides ss → SideSettled (slice_index_or ss k Neither)
  settled_index [] zero h = tt
  settled_index [] (suc k) h = tt
  settled_index (s ∷ ss) zero h = h.0
  settled_index (s ∷ ss) (suc k) h = settled_index ss k h.1

  settled_side_at : (ss : Sides) (k : ℕ) → SidesSettled ss → SideSettled (side_at ss k)
  settled_side_at (Plain s) zero h = h
  settled_side_at (Plain s) (suc k) h = tt
  settled_side_at (Choice ss) zero h = tt
  settled_side_at (Choice ss) (suc k) h = settled_index ss k h

  settled_partner : (ss : Sides) → SidesSettled ss → SidesSettled (partner_sides ss)
  settled_partner (Plain s) h = h
  settled_partner (Choice ss) h = by (list_any is_default ss)
    where
      by : (b : Bool) → SidesSettled (cond b (Plain Neither) (Choice ss))
      by true = tt
      by false = h

  -- ---- what a side leaves by itself

  fine_send : (c : Config) (o : Option ℕ) (v : Value) (a p : Goroutine) (h : Option Channel) → FramesSettled Q a.frames → FramesSettled Q p.frames → IsFine (send c o v a p h)
  fine_send c o v a p None x y = tt
  fine_send c o v a p (Some ch) x y =
      fine_if ch.closed (Some (moved c p)) (cond (nat_lt (length ch.values) ch.capacity) (Some (moved (with_values c o ch (ch.values ++ v ∷ [])) a)) None)
      (settled_moved c p y)
      (fine_if (nat_lt (length ch.values) ch.capacity) (Some (moved (with_values c o ch (ch.values ++ v ∷ [])) a)) None (settled_moved _ a x) tt)

  fine_receive_from : (c : Config) (o : Option ℕ) (take : Value → Bool → Goroutine) (ch : Channel) (vs : List Value) → ((v : Value) (ok : Bool) → FramesSettled Q (take v ok).frames) → IsFine (receive_from c o take ch vs)
  fine_receive_from c o take ch (v ∷ vs) h = settled_moved (with_values c o ch vs) (take v true) (h v true)
  fine_receive_from c o take ch [] h = fine_if ch.closed (Some (moved c (take ch.zero false))) None (settled_moved c (take ch.zero false) (h ch.zero false)) tt

  fine_receive : (c : Config) (o : Option ℕ) (take : Value → Bool → Goroutine) (p : Option Channel) → ((v : Value) (ok : Bool) → FramesSettled Q (take v ok).frames) → IsFine (receive c o take p)
  fine_receive c o take None h = tt
  fine_receive c o take (Some ch) h = fine_receive_from c o take ch ch.values h

  fine_itself : (c : Config) (s : Side) → SideSettled s → IsFine (by_itself c s)
  fine_itself c Neither h = tt
  fine_itself c (Offers o v a p) h = fine_send c o v a p (Rattle.go_meaning.specs.Operations.channel_at c o) h.0 h.1
  fine_itself c (Wants o take) h = fine_receive c o take (Rattle.go_meaning.specs.Operations.channel_at c o) h
  fine_itself c (Defaults a) h = tt

  fine_lone : (c : Config) (i : ℕ) (ss : Sides) (s : Side) → SideSettled s → IsFine (lone Q c i ss s)
  unfolding lone
  fine_lone c i ss (Defaults a) h = fine_if (list_any (is_ready Q c i) (listed ss)) None (Some (moved c a)) tt (settled_moved c a h)
  fine_lone c i ss Neither h = tt
  fine_lone c i ss (Offers o v a p) h = fine_itself c (Offers o v a p) h
  fine_lone c i ss (Wants o take) h = fine_itself c (Wants o take) h

  -- ---- a goroutine alone

  fine_or : (o p : Option Move) → IsFine o → IsFine p → IsFine (option_or o p)
  fine_or None p h k = k
  fine_or (Some m) p h k = h

  fine_zero : (k : ℕ) (o : Option Move) → IsFine o → IsFine (at_zero k o)
  fine_zero zero o h = h
  fine_zero (suc k) o h = tt

  fine_control : (c : Config) (i k : ℕ) (f : Frame) (fs : List Frame) (is : List Item) → f.control ≡ is → IsControl Q is → FramesSettled Q fs → IsPlainControl Q is → IsFine (on_control Q c i k f fs is)
  fine_control c i k f fs [] e h s p = tt
  fine_control c i k f fs (it ∷ is) e h s p =
      let A : List Item → Type 0 = AllSettled Q in
      fine_or (lone Q c i (item_sides Q it f fs is) (side_at (item_sides Q it f fs is) k)) (at_zero k (put Q c i f fs is (act_of Q c it f.slots f.stack)))
      (fine_lone c i (item_sides Q it f fs is) (side_at (item_sides Q it f fs is) k) (settled_side_at (item_sides Q it f fs is) k (settled_sides it f fs is h.0 h.1 s)))
      (fine_zero k (put Q c i f fs is (act_of Q c it f.slots f.stack)) (settled_put (act_of Q c it f.slots f.stack) c i f fs is h.1 s (puts_act Q it c f.slots f.stack h.0 p) (λ t. rw e (head_stays Q it is c f.slots f.stack h t))))

  fine_frames : (c : Config) (i k : ℕ) (b : Option Begun) (fs : List Frame) → IsSound Q fs → IsPlainBegun Q b fs → IsFine (on_frames Q c i k b fs)
  fine_frames c i zero (Some call) fs h p = record { after = ((tt, (tt, tt)), tt); born = tt }
  fine_frames c i (suc k) (Some call) fs h p = tt
  fine_frames c i k None [] h p = tt
  fine_frames c i k None (f ∷ fs) h p = fine_control c i k f fs f.control refl h.0 h.1 p

  pub fine_alone : (c : Config) (i k : ℕ) (o : Option Goroutine) → IsSoundGoroutine o → IsPlainGoroutine Q o → IsFine (alone Q c i k o)
  fine_alone c i k None h p = tt
  fine_alone c i k (Some go) h p = fine_frames c i k go.begin go.frames h p

  -- ---- both sides of an exchange

  abbrev pub PairSettled : Goroutine × Goroutine → Type 0
  PairSettled p = FramesSettled Q p.0.frames × FramesSettled Q p.1.frames

  abbrev IsFinePair : Option (Goroutine × Goroutine) → Type 0
  IsFinePair o = MatchOption o (Unit {0}) PairSettled

  fine_pair : (b : Bool) (p : Goroutine × Goroutine) → PairSettled p → IsFinePair (cond b (Some p) None)
  fine_pair true p h = h
  fine_pair false p h = tt

  settled_exchange : (c : Config) (s t : Side) → SideSettled s → SideSettled t → IsFinePair (exchange c s t)
  settled_exchange c Neither t h k = tt
  settled_exchange c (Defaults a) t h k = tt
  settled_exchange c (Offers o v a p) Neither h k = tt
  settled_exchange c (Offers o v a p) (Offers o' v' a' p') h k = tt
  settled_exchange c (Offers o v a p) (Wants o' take) h k = fine_pair (is_direct c o o') (a, take v true) (h.0, k v true)
  settled_exchange c (Offers o v a p) (Defaults a') h k = tt
  settled_exchange c (Wants o take) Neither h k = tt
  settled_exchange c (Wants o take) (Offers o' v a p) h k = fine_pair (is_direct c o' o) (take v true, a) (h v true, k.0)
  settled_exchange c (Wants o take) (Wants o' take') h k = tt
  settled_exchange c (Wants o take) (Defaults a) h k = tt

  pub settled_both : (c : Config) (k q : ℕ) (a b : Option Goroutine) → IsSoundGoroutine a → IsSoundGoroutine b → MatchOption (together Q c k q a b) (Unit {0}) PairSettled
  settled_both c k q a b h p =
      settled_exchange c (side_at (sides_of Q a) k) (side_at (partner_sides (sides_of Q b)) q)
      (settled_side_at (sides_of Q a) k (settled_sides_of a h))
      (settled_side_at (partner_sides (sides_of Q b)) q (settled_partner (sides_of Q b) (settled_sides_of b p)))
