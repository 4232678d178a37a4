-- Sends and receives, in a covered program and in the erased one.
use Rattle.std.proofs.Common.{◌≡◌, ℕ, zero, suc, Bool, true, false, cond, not, ◌&&◌, ◌||◌, List, [], ◌∷◌, ◌++◌, Option, Some, None, refl, ap, ap₂, ◌∙◌, map, length}
use mathlib.Core.Path.{fun_ext}
use Rattle.std.specs.Prelude.{slice_index_or, nat_lt, ◌==◌, take, drop, option_map, is_some}
use Rattle.std.specs.List.{list_any}
use Rattle.go_meaning.specs.declared.value.Value.{Value}
use Rattle.go_meaning.specs.declared.value.Value.TheVariants as value
use Rattle.go_meaning.specs.declared.value.Channel.{Channel}
use Rattle.go_meaning.specs.declared.expr.Target.{Target}
use Rattle.go_meaning.specs.declared.node.CommClause.{CommClause}
use Rattle.go_meaning.specs.declared.node.Comm.{Comm}
use Rattle.go_meaning.specs.declared.node.Comm.TheVariants as comm
use Rattle.go_meaning.specs.declared.node.NodeForm.{NodeForm}
use Rattle.go_meaning.specs.declared.node.NodeForm.TheVariants as node
use Rattle.go_meaning.specs.declared.item.Item.{Item}
use Rattle.go_meaning.specs.declared.item.Item.TheVariants.{Run, Loop, Test, Next, Each, Pull, Match, Compare, Pick, Leave, Send, Recv, RecvOk}
use Rattle.go_meaning.specs.declared.config.Call.{Call as Begun}
use Rattle.go_meaning.specs.declared.config.Frame.{Frame}
use Rattle.go_meaning.specs.declared.config.Goroutine.{Goroutine}
use Rattle.go_meaning.specs.declared.config.Config.{Config}
use Rattle.go_meaning.specs.Programs.{Parts, form_at}
use Rattle.go_meaning.specs.Operations.{channel_at}
use Rattle.go_meaning.specs.Moves.{moved, taken, Taken}
use Rattle.go_meaning.specs.Channels.{Side, Neither, Offers, Wants, Defaults, Sides, Plain, Choice, on, send_side, receive_side, receive_ok_side, pulled, pull_side, received, pick_items, clause_side, clause_sides, operands_of, pick_operands, pick_taken, pick_sides, item_sides, control_sides, frame_sides, sides_of, side_at, is_default, partner_sides, listed, is_direct, exchange, with_values, send, receive_from, receive, by_itself, has_partner, is_ready, lone}
use Rattle.go_meaning.specs.Erasing.{erase_program, place_of, erase_item, erase_frame, erase_goroutine, erase_config}
use Rattle.cov_erase.proofs.Places.{IsPlain, form_erased}
use Rattle.cov_erase.proofs.Moving.{erase_move, kept_rest}

is_some_map : {A B : Type 0} (f : A → B) (o : Option A) → is_some (option_map f o) ≡ is_some o
is_some_map f None = refl
is_some_map f (Some x) = refl

any_map : {A B : Type 0} (f : A → B) (p : A → Bool) (q : B → Bool) → ((x : A) → q (f x) ≡ p x) → (xs : List A) → list_any q (map f xs) ≡ list_any p xs
any_map f p q h [] = refl
any_map f p q h (x ∷ xs) = ap₂ (λ a b. a || b) (h x) (any_map f p q h xs)

module _ (Q : Parts) where
  abbrev er : Config → Config
  er = erase_config Q

  abbrev ei : Item → Item
  ei = erase_item Q

  abbrev ef : Frame → Frame
  ef = erase_frame Q

  abbrev eg : Goroutine → Goroutine
  eg = erase_goroutine Q

  abbrev pub erase_side : Side → Side
  erase_side Neither = Neither
  erase_side (Offers o v a p) = Offers o v (eg a) (eg p)
  erase_side (Wants o take) = Wants o (λ v ok. eg (take v ok))
  erase_side (Defaults a) = Defaults (eg a)

  abbrev pub erase_sides : Sides → Sides
  erase_sides (Plain s) = Plain (erase_side s)
  erase_sides (Choice ss) = Choice (map erase_side ss)

  -- the place of a head item that looks at a statement for its side is no counter's
  abbrev pub HasPlainSide : Item → Type 0
  HasPlainSide (Pull n i) = IsPlain (form_at Q n i)
  HasPlainSide (Pick n i) = IsPlain (form_at Q n i)
  HasPlainSide it = Unit {0}

  abbrev pub HaveControl : List Item → Type 0
  HaveControl [] = Unit {0}
  HaveControl (it ∷ is) = HasPlainSide it

  abbrev pub HaveFrames : List Frame → Type 0
  HaveFrames [] = Unit {0}
  HaveFrames (f ∷ fs) = HaveControl f.control

  abbrev pub HaveSides : Option Goroutine → Type 0
  HaveSides None = Unit {0}
  HaveSides (Some go) = HaveFrames go.frames

  abbrev pub AllHaveSides : List Goroutine → Type 0
  AllHaveSides [] = Unit {0}
  AllHaveSides (go ∷ gos) = HaveFrames go.frames × AllHaveSides gos

  -- ---- the sides of an item

  kept_send_side : (f : Frame) (fs : List Frame) (rest : List Item) (st : List Value) → send_side (ef f) (map ef fs) (map ei rest) st ≡ erase_side (send_side f fs rest st)
  kept_send_side f fs rest (v ∷ value.Channel o ∷ st) = refl
  kept_send_side f fs rest st = refl

  kept_receive_side : (f : Frame) (fs : List Frame) (rest : List Item) (st : List Value) → receive_side (ef f) (map ef fs) (map ei rest) st ≡ erase_side (receive_side f fs rest st)
  kept_receive_side f fs rest (value.Channel o ∷ st) = refl
  kept_receive_side f fs rest st = refl

  kept_receive_ok_side : (f : Frame) (fs : List Frame) (rest : List Item) (st : List Value) → receive_ok_side (ef f) (map ef fs) (map ei rest) st ≡ erase_side (receive_ok_side f fs rest st)
  kept_receive_ok_side f fs rest (value.Channel o ∷ st) = refl
  kept_receive_ok_side f fs rest st = refl

  kept_pulled : (n i : ℕ) (t : Target) (l : ℕ) (f : Frame) (fs : List Frame) (rest : List Item) (st : List Value) (v : Value) (ok : Bool) → pulled n (place_of Q n i) t l (ef f) (map ef fs) (map ei rest) st v ok ≡ eg (pulled n i t l f fs rest st v ok)
  kept_pulled n i t l f fs rest st v true = refl
  kept_pulled n i t l f fs rest st v false = refl

  kept_pull_side : (n i : ℕ) (o : Option NodeForm) (f : Frame) (fs : List Frame) (rest : List Item) (st : List Value) → pull_side n (place_of Q n i) o (ef f) (map ef fs) (map ei rest) st ≡ erase_side (pull_side n i o f fs rest st)
  kept_pull_side n i (Some (node.RangeChannel t e l)) f fs rest (value.Channel o ∷ st) = ap (λ take. Wants o take) (fun_ext (λ v. fun_ext (λ ok. kept_pulled n i t l f fs rest st v ok)))
  kept_pull_side n i o f fs rest st = refl

  kept_pick_items : (ts : List Target) (l : ℕ) (rest : List Item) → pick_items ts l (map ei rest) ≡ map ei (pick_items ts l rest)
  kept_pick_items ts l rest = kept_rest Q ts (Run l 0 ∷ Leave ∷ rest)

  kept_clause : (f : Frame) (fs : List Frame) (rest : List Item) (st : List Value) (m : Comm) (l : ℕ) (vs : List Value) → clause_side (ef f) (map ef fs) (map ei rest) st m l vs ≡ erase_side (clause_side f fs rest st m l vs)
  kept_clause f fs rest st comm.Default l vs = refl
  kept_clause f fs rest st (comm.Send a b) l (value.Channel o ∷ v ∷ vs) = refl
  kept_clause f fs rest st (comm.Receive e ts) l (value.Channel o ∷ vs) = ap (λ is. Wants o (λ v ok. on (ef f) (map ef fs) (received ts v ok ++ st) is)) (kept_pick_items ts l rest)
  kept_clause f fs rest st (comm.Send a b) l vs = refl
  kept_clause f fs rest st (comm.Receive e ts) l vs = refl

  kept_clauses : (f : Frame) (fs : List Frame) (rest : List Item) (st : List Value) (cs : List CommClause) (vs : List Value) → clause_sides (ef f) (map ef fs) (map ei rest) st cs vs ≡ map erase_side (clause_sides f fs rest st cs vs)
  kept_clauses f fs rest st [] vs = refl
  kept_clauses f fs rest st (c ∷ cs) vs = ap₂ (λ s ss. s ∷ ss) (kept_clause f fs rest st c.comm c.list vs) (kept_clauses f fs rest st cs (drop (operands_of c.comm) vs))

  kept_taken : (f : Frame) (fs : List Frame) (rest : List Item) (cs : List CommClause) (o : Option Taken) → pick_taken (ef f) (map ef fs) (map ei rest) cs o ≡ erase_sides (pick_taken f fs rest cs o)
  kept_taken f fs rest cs None = refl
  kept_taken f fs rest cs (Some t) = ap Choice (kept_clauses f fs rest t.stack cs t.values)

  kept_pick_sides : (o : Option NodeForm) (f : Frame) (fs : List Frame) (rest : List Item) → pick_sides o (ef f) (map ef fs) (map ei rest) ≡ erase_sides (pick_sides o f fs rest)
  kept_pick_sides (Some (node.Select cs)) f fs rest = kept_taken f fs rest cs (taken (pick_operands cs) f.stack)
  kept_pick_sides o f fs rest = refl

  pub kept_item_sides : (it : Item) (f : Frame) (fs : List Frame) (rest : List Item) → HasPlainSide it → item_sides (erase_program Q) (ei it) (ef f) (map ef fs) (map ei rest) ≡ erase_sides (item_sides Q it f fs rest)
  kept_item_sides Send f fs rest h = ap Plain (kept_send_side f fs rest f.stack)
  kept_item_sides Recv f fs rest h = ap Plain (kept_receive_side f fs rest f.stack)
  kept_item_sides RecvOk f fs rest h = ap Plain (kept_receive_ok_side f fs rest f.stack)
  kept_item_sides (Pull n i) f fs rest h = ap Plain (ap (λ o. pull_side n (place_of Q n i) o (ef f) (map ef fs) (map ei rest) f.stack) (form_erased Q n i h) ∙ kept_pull_side n i (form_at Q n i) f fs rest f.stack)
  kept_item_sides (Pick n i) f fs rest h = ap (λ o. pick_sides o (ef f) (map ef fs) (map ei rest)) (form_erased Q n i h) ∙ kept_pick_sides (form_at Q n i) f fs rest
  kept_item_sides (Run n i) f fs rest h = refl
  kept_item_sides (Loop n i) f fs rest h = refl
  kept_item_sides (Test n i) f fs rest h = refl
  kept_item_sides (Next n i) f fs rest h = refl
  kept_item_sides (Each n i) f fs rest h = refl
  kept_item_sides (Match n i k) f fs rest h = refl
  kept_item_sides (Compare n i k) f fs rest h = refl
  kept_item_sides it f fs rest h = refl

  kept_control_sides : (f : Frame) (fs : List Frame) (is : List Item) → HaveControl is → control_sides (erase_program Q) (ef f) (map ef fs) (map ei is) ≡ erase_sides (control_sides Q f fs is)
  kept_control_sides f fs [] h = refl
  kept_control_sides f fs (it ∷ is) h = kept_item_sides it f fs is h

  kept_frame_sides : (b : Option Begun) (fs : List Frame) → HaveFrames fs → frame_sides (erase_program Q) b (map ef fs) ≡ erase_sides (frame_sides Q b fs)
  kept_frame_sides (Some call) fs h = refl
  kept_frame_sides None [] h = refl
  kept_frame_sides None (f ∷ fs) h = kept_control_sides f fs f.control h

  pub kept_sides : (o : Option Goroutine) → HaveSides o → sides_of (erase_program Q) (option_map eg o) ≡ erase_sides (sides_of Q o)
  kept_sides None h = refl
  kept_sides (Some go) h = kept_frame_sides go.begin go.frames h

  -- ---- one of them

  kept_index : (ss : List Side) (k : ℕ) → slice_index_or (map erase_side ss) k Neither ≡ erase_side (slice_index_or ss k Neither)
  kept_index [] zero = refl
  kept_index [] (suc k) = refl
  kept_index (s ∷ ss) zero = refl
  kept_index (s ∷ ss) (suc k) = kept_index ss k

  pub kept_side_at : (ss : Sides) (k : ℕ) → side_at (erase_sides ss) k ≡ erase_side (side_at ss k)
  kept_side_at (Plain s) zero = refl
  kept_side_at (Plain s) (suc k) = refl
  kept_side_at (Choice ss) zero = refl
  kept_side_at (Choice ss) (suc k) = kept_index ss k

  kept_default : (s : Side) → is_default (erase_side s) ≡ is_default s
  kept_default Neither = refl
  kept_default (Offers o v a p) = refl
  kept_default (Wants o take) = refl
  kept_default (Defaults a) = refl

  pub kept_partner : (ss : Sides) → partner_sides (erase_sides ss) ≡ erase_sides (partner_sides ss)
  kept_partner (Plain s) = refl
  kept_partner (Choice ss) = ap (λ b. cond b (Plain Neither) (Choice (map erase_side ss))) (any_map erase_side is_default is_default kept_default ss) ∙ by (list_any is_default ss)
    where
      by : (b : Bool) → cond b (Plain Neither) (Choice (map erase_side ss)) ≡ erase_sides (cond b (Plain Neither) (Choice ss))
      by true = refl
      by false = refl

  kept_listed : (ss : Sides) → listed (erase_sides ss) ≡ map erase_side (listed ss)
  kept_listed (Plain s) = refl
  kept_listed (Choice ss) = refl

  -- ---- exchanges

  abbrev pub erase_pair : Goroutine × Goroutine → Goroutine × Goroutine
  erase_pair p = (eg p.0, eg p.1)

  kept_if : (b : Bool) (p : Goroutine × Goroutine) → cond b (Some (erase_pair p)) None ≡ option_map erase_pair (cond b (Some p) None)
  kept_if true p = refl
  kept_if false p = refl

  pub kept_exchange : (c : Config) (s t : Side) → exchange (er c) (erase_side s) (erase_side t) ≡ option_map erase_pair (exchange c s t)
  kept_exchange c Neither t = refl
  kept_exchange c (Defaults a) t = refl
  kept_exchange c (Offers o v a p) Neither = refl
  kept_exchange c (Offers o v a p) (Offers o' v' a' p') = refl
  kept_exchange c (Offers o v a p) (Wants o' take) = kept_if (is_direct c o o') (a, take v true)
  kept_exchange c (Offers o v a p) (Defaults a') = refl
  kept_exchange c (Wants o take) Neither = refl
  kept_exchange c (Wants o take) (Offers o' v a p) = kept_if (is_direct c o' o) (take v true, a)
  kept_exchange c (Wants o take) (Wants o' take') = refl
  kept_exchange c (Wants o take) (Defaults a) = refl

  -- ---- a side by itself

  kept_values : (c : Config) (o : Option ℕ) (ch : Channel) (vs : List Value) → with_values (er c) o ch vs ≡ er (with_values c o ch vs)
  kept_values c None ch vs = refl
  kept_values c (Some k) ch vs = refl

  abbrev sent : Config → Option ℕ → Value → Channel → Config
  sent c o v ch = with_values c o ch (ch.values ++ v ∷ [])

  kept_send : (c : Config) (o : Option ℕ) (v : Value) (a p : Goroutine) (h : Option Channel) → send (er c) o v (eg a) (eg p) h ≡ option_map (erase_move Q) (send c o v a p h)
  kept_send c o v a p None = refl
  kept_send c o v a p (Some ch) = ap (λ d. cond ch.closed (Some (moved (er c) (eg p))) (cond (nat_lt (length ch.values) ch.capacity) (Some (moved d (eg a))) None)) (kept_values c o ch (ch.values ++ v ∷ [])) ∙ by ch.closed (nat_lt (length ch.values) ch.capacity)
    where
      by : (x y : Bool) → cond x (Some (moved (er c) (eg p))) (cond y (Some (moved (er (sent c o v ch)) (eg a))) None) ≡ option_map (erase_move Q) (cond x (Some (moved c p)) (cond y (Some (moved (sent c o v ch) a)) None))
      by true y = refl
      by false true = refl
      by false false = refl

  kept_receive_from : (c : Config) (o : Option ℕ) (take : Value → Bool → Goroutine) (ch : Channel) (vs : List Value) → receive_from (er c) o (λ v ok. eg (take v ok)) ch vs ≡ option_map (erase_move Q) (receive_from c o take ch vs)
  kept_receive_from c o take ch (v ∷ vs) = ap (λ d. Some (moved d (eg (take v true)))) (kept_values c o ch vs)
  kept_receive_from c o take ch [] = by ch.closed
    where
      by : (b : Bool) → cond b (Some (moved (er c) (eg (take ch.zero false)))) None ≡ option_map (erase_move Q) (cond b (Some (moved c (take ch.zero false))) None)
      by true = refl
      by false = refl

  kept_receive : (c : Config) (o : Option ℕ) (take : Value → Bool → Goroutine) (h : Option Channel) → receive (er c) o (λ v ok. eg (take v ok)) h ≡ option_map (erase_move Q) (receive c o take h)
  kept_receive c o take None = refl
  kept_receive c o take (Some ch) = kept_receive_from c o take ch ch.values

  kept_itself : (c : Config) (s : Side) → by_itself (er c) (erase_side s) ≡ option_map (erase_move Q) (by_itself c s)
  kept_itself c Neither = refl
  kept_itself c (Offers o v a p) = kept_send c o v a p (channel_at c o)
  kept_itself c (Wants o take) = kept_receive c o take (channel_at c o)
  kept_itself c (Defaults a) = refl

  -- ---- the default clause

  kept_meets : (c : Config) (s : Side) (go : Goroutine) → HaveFrames go.frames → list_any (λ t. is_some (exchange (er c) (erase_side s) t)) (listed (partner_sides (sides_of (erase_program Q) (Some (eg go))))) ≡ list_any (λ t. is_some (exchange c s t)) (listed (partner_sides (sides_of Q (Some go))))
  kept_meets c s go h =
      ap (λ ss. list_any (λ t. is_some (exchange (er c) (erase_side s) t)) (listed (partner_sides ss))) (kept_sides (Some go) h)
      ∙ ap (λ ss. list_any (λ t. is_some (exchange (er c) (erase_side s) t)) (listed ss)) (kept_partner (sides_of Q (Some go)))
      ∙ ap (list_any (λ t. is_some (exchange (er c) (erase_side s) t))) (kept_listed (partner_sides (sides_of Q (Some go))))
      ∙ any_map erase_side (λ t. is_some (exchange c s t)) (λ t. is_some (exchange (er c) (erase_side s) t)) (λ t. ap is_some (kept_exchange c s t) ∙ is_some_map erase_pair (exchange c s t)) (listed (partner_sides (sides_of Q (Some go))))

  kept_has_partner : (c : Config) (i : ℕ) (s : Side) (j : ℕ) (gos : List Goroutine) → AllHaveSides gos → has_partner (erase_program Q) (er c) i (erase_side s) j (map eg gos) ≡ has_partner Q c i s j gos
  kept_has_partner c i s j [] h = refl
  kept_has_partner c i s j (go ∷ gos) h = ap₂ (λ a b. (not (i == j) && a) || b) (kept_meets c s go h.0) (kept_has_partner c i s (suc j) gos h.1)

  kept_ready : (c : Config) (i : ℕ) → AllHaveSides c.goroutines → (s : Side) → is_ready (erase_program Q) (er c) i (erase_side s) ≡ is_ready Q c i s
  kept_ready c i h s = ap₂ (λ a b. a || b) (ap is_some (kept_itself c s) ∙ is_some_map (erase_move Q) (by_itself c s)) (kept_has_partner c i s 0 c.goroutines h)

  pub kept_lone : (c : Config) (i : ℕ) (ss : Sides) (s : Side) → AllHaveSides c.goroutines → lone (erase_program Q) (er c) i (erase_sides ss) (erase_side s) ≡ option_map (erase_move Q) (lone Q c i ss s)
  unfolding lone
  kept_lone c i ss (Defaults a) h =
      ap (λ l. cond (list_any (is_ready (erase_program Q) (er c) i) l) None (Some (moved (er c) (eg a)))) (kept_listed ss)
      ∙ ap (λ b. cond b None (Some (moved (er c) (eg a)))) (any_map erase_side (is_ready Q c i) (is_ready (erase_program Q) (er c) i) (kept_ready c i h) (listed ss))
      ∙ by (list_any (is_ready Q c i) (listed ss))
    where
      by : (b : Bool) → cond b None (Some (moved (er c) (eg a))) ≡ option_map (erase_move Q) (cond b None (Some (moved c a)))
      by true = refl
      by false = refl
  kept_lone c i ss Neither h = refl
  kept_lone c i ss (Offers o v a p) h = kept_itself c (Offers o v a p)
  kept_lone c i ss (Wants o take) h = kept_itself c (Wants o take)
