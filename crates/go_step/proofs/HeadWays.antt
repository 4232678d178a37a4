-- A goroutine's ways are those of its sides.
use Rattle.std.proofs.Common.{◌≡◌, ℕ, zero, suc, ◌+◌, ◌<◌, ◌≤◌, Bool, true, false, cond, List, [], ◌∷◌, Option, Some, None, refl, sym, ap, ◌∙◌, subst, length, drop, arith}
use Rattle.std.specs.Prelude.{◌||◌, nat_le, slice_get, slice_index_or, option_map}
use Rattle.std.specs.List.{list_any, range_with_len}
use Rattle.std.specs.Option.{MatchOption}
use Rattle.std.proofs.lemmas.Option.{none-some, same_Some, slice_get-map}
use Rattle.go_meaning.specs.declared.value.Value.{Value}
use Rattle.go_meaning.specs.declared.value.Value.TheVariants as value
use Rattle.go_meaning.specs.declared.node.Node.{Node}
use Rattle.go_meaning.specs.declared.node.NodeForm.{NodeForm}
use Rattle.go_meaning.specs.declared.node.NodeForm.TheVariants as node
use Rattle.go_meaning.specs.declared.node.Comm.{Comm}
use Rattle.go_meaning.specs.declared.node.Comm.TheVariants as comm
use Rattle.go_meaning.specs.declared.node.CommClause.{CommClause}
use Rattle.go_meaning.specs.declared.item.Item.{Item}
use Rattle.go_meaning.specs.declared.item.Item.TheVariants.{Pull, Pick, Send, Recv, RecvOk}
use Rattle.go_meaning.specs.declared.config.Call.{Call}
use Rattle.go_meaning.specs.declared.config.Frame.{Frame}
use Rattle.go_meaning.specs.declared.config.Goroutine.{Goroutine}
use Rattle.go_meaning.specs.Programs.{Parts, form_of, form_at}
use Rattle.go_meaning.specs.Lists.{Nest, cutting_order}
use Rattle.go_meaning.specs.WellFormed.{IsStatement, IsProgram}
use Rattle.go_meaning.specs.Moves.{Taken}
use Rattle.go_meaning.specs.Channels as channels
use Rattle.go_meaning.specs.Channels.{Side, Neither, Sides, Plain, Choice, pull_side, clause_side, clause_sides, pick_operands, pick_taken, pick_sides, item_sides, control_sides, frame_sides, sides_of, side_at, partner_sides}
use Rattle.go_step.specs.declared.ways.Way.{Way}
use Rattle.go_step.specs.declared.ways.Way.TheVariants as way
use Rattle.go_step.specs.Ways.{way_of, pull, plain_way, clause_way, operands_on}
use Rattle.go_step.specs.Heads.{select_way, pick_way, pick_count, is_default, has_default, pick_default, way_at_zero, item_way, item_count, item_default, control_head, frames_head, head, way_at_head, count_at_head, default_at_head, way_of_head, count_of_head, default_of_head, partner_way}
use Rattle.go_step.proofs.Waits.{offer_way, want_way, want_ok_way, clause_sides_way}
use Rattle.go_step.proofs.SelectWays.{no_clause}

-- ---- a `select` of a program has few clauses

range_get : (a n i : ℕ) → i < n → slice_get (range_with_len a n) i ≡ Some (a + i)
range_get a zero i h = absurd (omega arith)
range_get a (suc n) zero h = ap Some (omega arith)
range_get a (suc n) (suc i) h = range_get (a + 1) n i (omega (arith, h)) ∙ ap Some (omega arith)

is_there : (ls : List (List Node)) (n i : ℕ) (form : NodeForm) → form_of (slice_get (slice_index_or ls n []) i) ≡ Some form → n < length ls
is_there [] zero i form e = absurd (none-some form e)
is_there [] (suc n) i form e = absurd (none-some form e)
is_there (l ∷ ls) zero i form e = omega arith
is_there (l ∷ ls) (suc n) i form e = let h = is_there ls n i form e in omega (arith, h)

map_some : {A B : Type 0} (f : A → B) (o : Option A) (y : B) → option_map f o ≡ Some y → (x : A) × (o ≡ Some x) × (f x ≡ y)
map_some f None y e = absurd (none-some y e)
map_some f (Some x) y e = (x, refl, same_Some (f x) y e)

pub select_is_short : (P : Parts) (n i : ℕ) (cs : List CommClause) → IsProgram P → form_at P n i ≡ Some (node.Select cs) → length cs ≤ 1000
select_is_short P n i cs ok f =
    let h = is_there P.lists n i (node.Select cs) f in
    let at = map_some (λ (x : Nest). x.list) (slice_get (cutting_order P) n) n (sym (slice_get-map (λ (x : Nest). x.list) (cutting_order P) n) ∙ ap (λ l. slice_get l n) ok.ordered ∙ range_get 0 (length P.lists) n h ∙ ap Some (omega arith)) in
    let F : Option Nest → Type 0 = λ o. MatchOption o (Unit {0}) (λ x. MatchOption (form_at P x.list i) (Unit {0}) (IsStatement P x)) in
    let s : MatchOption (form_at P at.0.list i) (Unit {0}) (IsStatement P at.0) = subst F at.1 (ok.statements n i) in
    let G : Option NodeForm → Type 0 = λ o. MatchOption o (Unit {0}) (IsStatement P at.0) in
    let t : IsStatement P at.0 (node.Select cs) = subst G (ap (λ x. form_at P x i) at.2 ∙ f) s in
    t.within

-- ---- the ways of an item are those of its sides

no_side : (k : ℕ) → side_at (Plain Neither) k ≡ Neither
no_side zero = refl
no_side (suc k) = refl

no_way : (k : ℕ) → way_of (side_at (Plain Neither) k) ≡ way.Neither
no_way k = ap way_of (no_side k)

pull_way : (n i : ℕ) (form : Option NodeForm) (f : Frame) (fs : List Frame) (rest : List Item) (st : List Value) → way_of (pull_side n i form f fs rest st) ≡ pull form st
pull_way n i (Some (node.RangeChannel t e l)) f fs rest (value.Channel o ∷ st) = refl
pull_way n i (Some (node.RangeChannel t e l)) f fs rest [] = refl
pull_way n i (Some (node.RangeChannel t e l)) f fs rest (value.Flag b ∷ st) = refl
pull_way n i (Some (node.RangeChannel t e l)) f fs rest (value.Number b ∷ st) = refl
pull_way n i (Some (node.RangeChannel t e l)) f fs rest (value.Text b ∷ st) = refl
pull_way n i form f fs rest st = refl

-- the sides of a `select` where its operands are there, or aren't
module _ (f : Frame) (fs : List Frame) (rest : List Item) (cs : List CommClause) where
  taken_if : Bool → Option Taken
  taken_if b = cond b (Some (record { values = operands_on cs f.stack; stack = drop (pick_operands cs) f.stack })) None

  select_side : (b : Bool) (k : ℕ) → way_of (side_at (pick_taken f fs rest cs (taken_if b)) (suc k)) ≡ cond b (clause_way cs (operands_on cs f.stack) k) way.Neither
  unfolding taken_if
  select_side true k = clause_sides_way f fs rest (drop (pick_operands cs) f.stack) cs (operands_on cs f.stack) k
  select_side false k = refl

  select_zero : (b : Bool) → way_of (side_at (pick_taken f fs rest cs (taken_if b)) zero) ≡ way.Neither
  unfolding taken_if
  select_zero true = refl
  select_zero false = refl

  pick_side : (k : ℕ) → way_of (side_at (pick_sides (Some (node.Select cs)) f fs rest) k) ≡ select_way cs f.stack k
  unfolding taken_if
  pick_side zero = select_zero (nat_le (pick_operands cs) (length f.stack))
  pick_side (suc k) = select_side (nat_le (pick_operands cs) (length f.stack)) k

pick_way_is : (form : Option NodeForm) (f : Frame) (fs : List Frame) (rest : List Item) (k : ℕ) → way_of (side_at (pick_sides form f fs rest) k) ≡ pick_way form f.stack k
pick_way_is (Some (node.Select cs)) f fs rest k = pick_side f fs rest cs k
pick_way_is form f fs rest k = no_way k

item_way_is : (P : Parts) (item : Item) (f : Frame) (fs : List Frame) (rest : List Item) (k : ℕ) → way_of (side_at (item_sides P item f fs rest) k) ≡ item_way P item f.stack k
item_way_is P Send f fs rest zero = offer_way f fs rest f.stack
item_way_is P Send f fs rest (suc k) = refl
item_way_is P Recv f fs rest zero = want_way f fs rest f.stack
item_way_is P Recv f fs rest (suc k) = refl
item_way_is P RecvOk f fs rest zero = want_ok_way f fs rest f.stack
item_way_is P RecvOk f fs rest (suc k) = refl
item_way_is P (Pull n i) f fs rest zero = pull_way n i (form_at P n i) f fs rest f.stack
item_way_is P (Pull n i) f fs rest (suc k) = refl
item_way_is P (Pick n i) f fs rest k = pick_way_is (form_at P n i) f fs rest k
item_way_is P item f fs rest zero = refl
item_way_is P item f fs rest (suc k) = refl

control_way : (P : Parts) (f : Frame) (fs : List Frame) (is : List Item) (k : ℕ) → way_of (side_at (control_sides P f fs is) k) ≡ way_at_head P k (control_head f is)
control_way P f fs [] k = no_way k
control_way P f fs (item ∷ is) k = item_way_is P item f fs is k

frames_way : (P : Parts) (b : Option Call) (fs : List Frame) (k : ℕ) → way_of (side_at (frame_sides P b fs) k) ≡ way_at_head P k (frames_head b fs)
frames_way P (Some call) fs k = no_way k
frames_way P None [] k = no_way k
frames_way P None (f ∷ fs) k = control_way P f fs f.control k

pub side_way : (P : Parts) (o : Option Goroutine) (k : ℕ) → way_of (side_at (sides_of P o) k) ≡ way_of_head P o k
unfolding way_of_head
side_way P None k = no_way k
side_way P (Some go) k = frames_way P go.begin go.frames k

-- ---- and so are those of a partner

side_default : (f : Frame) (fs : List Frame) (rest : List Item) (st : List Value) (c : Comm) (l : ℕ) (vs : List Value) → channels.is_default (clause_side f fs rest st c l vs) ≡ is_default c
side_default f fs rest st comm.Default l vs = refl
side_default f fs rest st (comm.Send a b) l (value.Channel o ∷ v ∷ vs) = refl
side_default f fs rest st (comm.Send a b) l [] = refl
side_default f fs rest st (comm.Send a b) l (value.Channel o ∷ []) = refl
side_default f fs rest st (comm.Send a b) l (value.Flag x ∷ vs) = refl
side_default f fs rest st (comm.Send a b) l (value.Number i ∷ vs) = refl
side_default f fs rest st (comm.Send a b) l (value.Text s ∷ vs) = refl
side_default f fs rest st (comm.Receive e ts) l (value.Channel o ∷ vs) = refl
side_default f fs rest st (comm.Receive e ts) l [] = refl
side_default f fs rest st (comm.Receive e ts) l (value.Flag x ∷ vs) = refl
side_default f fs rest st (comm.Receive e ts) l (value.Number i ∷ vs) = refl
side_default f fs rest st (comm.Receive e ts) l (value.Text s ∷ vs) = refl

sides_default : (f : Frame) (fs : List Frame) (rest : List Item) (st : List Value) (cs : List CommClause) (vs : List Value) → list_any channels.is_default (clause_sides f fs rest st cs vs) ≡ has_default cs
sides_default f fs rest st [] vs = refl
sides_default f fs rest st (c ∷ cs) vs =
    ap (λ b. b || list_any channels.is_default (clause_sides f fs rest st cs (drop (channels.operands_of c.comm) vs))) (side_default f fs rest st c.comm c.list vs)
    ∙ ap (λ b. is_default c.comm || b) (sides_default f fs rest st cs (drop (channels.operands_of c.comm) vs))

blocked_way : (d : Bool) (ss : List Side) (q : ℕ) → way_of (side_at (cond d (Plain Neither) (Choice ss)) q) ≡ cond d way.Neither (way_of (side_at (Choice ss) q))
blocked_way true ss q = no_way q
blocked_way false ss q = refl

none_blocked : (d : Bool) (q : ℕ) → way.Neither ≡ cond d way.Neither way.Neither
none_blocked true q = refl
none_blocked false q = refl

module _ (f : Frame) (fs : List Frame) (rest : List Item) (cs : List CommClause) where
  partner_side : (b : Bool) (q : ℕ) → way_of (side_at (partner_sides (pick_taken f fs rest cs (taken_if f fs rest cs b))) q) ≡ cond (has_default cs) way.Neither (way_of (side_at (pick_taken f fs rest cs (taken_if f fs rest cs b)) q))
  unfolding taken_if
  partner_side true q =
      let ss = clause_sides f fs rest (drop (pick_operands cs) f.stack) cs (operands_on cs f.stack) in
      blocked_way (list_any channels.is_default ss) ss q ∙ ap (λ d. cond d way.Neither (way_of (side_at (Choice ss) q))) (sides_default f fs rest (drop (pick_operands cs) f.stack) cs (operands_on cs f.stack))
  partner_side false q = no_way q ∙ none_blocked (has_default cs) q ∙ ap (cond (has_default cs) way.Neither) (sym (no_way q))

  pick_partner : (q : ℕ) → way_of (side_at (partner_sides (pick_sides (Some (node.Select cs)) f fs rest)) q) ≡ cond (has_default cs) way.Neither (select_way cs f.stack q)
  unfolding taken_if
  pick_partner q = partner_side (nat_le (pick_operands cs) (length f.stack)) q ∙ ap (cond (has_default cs) way.Neither) (pick_side f fs rest cs q)

pick_partner_is : (form : Option NodeForm) (f : Frame) (fs : List Frame) (rest : List Item) (q : ℕ) → way_of (side_at (partner_sides (pick_sides form f fs rest)) q) ≡ cond (pick_default form) way.Neither (pick_way form f.stack q)
pick_partner_is (Some (node.Select cs)) f fs rest q = pick_partner f fs rest cs q
pick_partner_is form f fs rest q = no_way q

item_partner : (P : Parts) (item : Item) (f : Frame) (fs : List Frame) (rest : List Item) (q : ℕ) → way_of (side_at (partner_sides (item_sides P item f fs rest)) q) ≡ cond (item_default P item) way.Neither (item_way P item f.stack q)
item_partner P Send f fs rest q = item_way_is P Send f fs rest q
item_partner P Recv f fs rest q = item_way_is P Recv f fs rest q
item_partner P RecvOk f fs rest q = item_way_is P RecvOk f fs rest q
item_partner P (Pull n i) f fs rest q = item_way_is P (Pull n i) f fs rest q
item_partner P (Pick n i) f fs rest q = pick_partner_is (form_at P n i) f fs rest q
item_partner P item f fs rest zero = refl
item_partner P item f fs rest (suc k) = refl

control_partner : (P : Parts) (f : Frame) (fs : List Frame) (is : List Item) (q : ℕ) → way_of (side_at (partner_sides (control_sides P f fs is)) q) ≡ cond (default_at_head P (control_head f is)) way.Neither (way_at_head P q (control_head f is))
control_partner P f fs [] q = no_way q
control_partner P f fs (item ∷ is) q = item_partner P item f fs is q

frames_partner : (P : Parts) (b : Option Call) (fs : List Frame) (q : ℕ) → way_of (side_at (partner_sides (frame_sides P b fs)) q) ≡ cond (default_at_head P (frames_head b fs)) way.Neither (way_at_head P q (frames_head b fs))
frames_partner P (Some call) fs q = no_way q
frames_partner P None [] q = no_way q
frames_partner P None (f ∷ fs) q = control_partner P f fs f.control q

pub partner_side_way : (P : Parts) (o : Option Goroutine) (q : ℕ) → way_of (side_at (partner_sides (sides_of P o)) q) ≡ partner_way P o q
unfolding partner_way default_of_head way_of_head
partner_side_way P None q = no_way q
partner_side_way P (Some go) q = frames_partner P go.begin go.frames q

-- ---- past its clauses a goroutine has no way

none_past : {A : Type 0} (xs : List A) (k : ℕ) → length xs ≤ k → slice_get xs k ≡ None
none_past [] zero h = refl
none_past [] (suc k) h = refl
none_past (x ∷ xs) zero h = absurd (omega (arith, h))
none_past (x ∷ xs) (suc k) h = none_past xs k (omega (arith, h))

select_past : (cs : List CommClause) (st : List Value) (k : ℕ) → length cs + 1 ≤ k → select_way cs st k ≡ way.Neither
select_past cs st zero h = refl
select_past cs st (suc k) h = by (nat_le (pick_operands cs) (length st))
  where
    by : (b : Bool) → cond b (clause_way cs (operands_on cs st) k) way.Neither ≡ way.Neither
    by true = sym (no_clause cs (operands_on cs st) k (none_past cs k (omega (arith, h))))
    by false = refl

pick_past : (form : Option NodeForm) (st : List Value) (k : ℕ) → pick_count form ≤ k → pick_way form st k ≡ way.Neither
pick_past (Some (node.Select cs)) st k h = select_past cs st k h
pick_past form st k h = refl

plain_past : (w : Way) (k : ℕ) → 1 ≤ k → way_at_zero k w ≡ way.Neither
plain_past w zero h = absurd (omega (arith, h))
plain_past w (suc k) h = refl

item_past : (P : Parts) (item : Item) (st : List Value) (k : ℕ) → item_count P item ≤ k → item_way P item st k ≡ way.Neither
item_past P (Pick n i) st k h = pick_past (form_at P n i) st k h
item_past P item st k h = plain_past (plain_way P item st) k h

way_past : (P : Parts) (o : Option (Item × Frame)) (k : ℕ) → count_at_head P o ≤ k → way_at_head P k o ≡ way.Neither
way_past P None k h = refl
way_past P (Some h') k h = item_past P h'.0 h'.1.stack k h

pub past_count : (P : Parts) (o : Option Goroutine) (k : ℕ) → count_of_head P o ≤ k → way_of_head P o k ≡ way.Neither
unfolding way_of_head count_of_head
past_count P o k h = way_past P (head o) k h

pub partner_past : (P : Parts) (o : Option Goroutine) (q : ℕ) → count_of_head P o ≤ q → partner_way P o q ≡ way.Neither
unfolding partner_way
partner_past P o q h = ap (cond (default_of_head P o) way.Neither) (past_count P o q h) ∙ sym (none_blocked (default_of_head P o) q)

pub no_goroutine : (P : Parts) (q : ℕ) → partner_way P None q ≡ way.Neither
unfolding partner_way default_of_head way_of_head
no_goroutine P q = refl

pick_some : (form : Option NodeForm) → 1 ≤ pick_count form
pick_some (Some (node.Select cs)) = omega arith
pick_some form = omega arith

item_some : (P : Parts) (item : Item) → 1 ≤ item_count P item
item_some P (Pick n i) = pick_some (form_at P n i)
item_some P item = omega arith

count_some : (P : Parts) (o : Option (Item × Frame)) → 1 ≤ count_at_head P o
count_some P None = omega arith
count_some P (Some h) = item_some P h.0

pub has_zero : (P : Parts) (o : Option Goroutine) → 1 ≤ count_of_head P o
unfolding count_of_head
has_zero P o = count_some P (head o)
