-- What goroutines wait for, without what follows it.
use Rattle.std.proofs.Common.{◌≡◌, ℕ, zero, suc, ◌+◌, ◌<◌, ◌≤◌, Bool, true, false, cond, List, [], ◌∷◌, ◌++◌, Option, Some, None, refl, ap, ◌∙◌, length, reverse, take, drop, arith}
use Rattle.std.specs.Prelude.{◌||◌, nat_lt, is_some, slice_get, slice_index_or}
use Rattle.std.proofs.lemmas.List.{reverse-append}
use Rattle.std.proofs.Math.Seq.{take-suc}
use Rattle.std.proofs.lemmas.Option.{slice_get_within, get_or_from_slice_get}
use Rattle.std.proofs.lemmas.List.Sums.{sum_by-cons}
use Rattle.go_meaning.specs.declared.value.Value.{Value}
use Rattle.go_meaning.specs.declared.value.Value.TheVariants as value
use Rattle.go_meaning.specs.declared.value.Channel.{Channel}
use Rattle.go_meaning.specs.declared.node.Comm.{Comm}
use Rattle.go_meaning.specs.declared.node.Comm.TheVariants as comm
use Rattle.go_meaning.specs.declared.node.CommClause.{CommClause}
use Rattle.go_meaning.specs.declared.item.Item.{Item}
use Rattle.go_meaning.specs.declared.config.Frame.{Frame}
use Rattle.go_meaning.specs.declared.config.Goroutine.{Goroutine}
use Rattle.go_meaning.specs.declared.config.Config.{Config}
use Rattle.go_meaning.specs.Operations.{channel_at}
use Rattle.go_meaning.specs.Moves.{Move, moved}
use Rattle.go_meaning.specs.Channels.{Side, Neither, Offers, Wants, Defaults, send_side, receive_side, receive_ok_side, clause_side, clause_sides, with_values, send, receive_from, receive, by_itself, is_direct, exchange, operands_of, pick_operands}
use Rattle.go_step.specs.Ways.{way_of, can_send, has_value, can_receive, goes_alone, meets, offer, want, comm_way, clause_way}

-- ---- by itself, and with a partner

sends : (c : Config) (o : Option ℕ) (v : Value) (a p : Goroutine) (h : Option Channel) → is_some (send c o v a p h) ≡ can_send h
sends c o v a p None = refl
sends c o v a p (Some ch) = by ch.closed (nat_lt (length ch.values) ch.capacity)
  where
    by : (b d : Bool) → is_some {T = Move} (cond b (Some (moved c p)) (cond d (Some (moved (with_values c o ch (ch.values ++ v ∷ [])) a)) None)) ≡ (b || d)
    by true d = refl
    by false true = refl
    by false false = refl

receives : (c : Config) (o : Option ℕ) (t : Value → Bool → Goroutine) (h : Option Channel) → is_some (receive c o t h) ≡ can_receive h
receives c o t None = refl
receives c o t (Some ch) = by ch.values ch.closed
  where
    closing : (b : Bool) → is_some {T = Move} (cond b (Some (moved c (t ch.zero false))) None) ≡ b
    closing true = refl
    closing false = refl

    by : (vs : List Value) (b : Bool) → is_some (receive_from c o t (record ch { closed = b }) vs) ≡ (has_value vs || b)
    by (v ∷ vs) b = refl
    by [] b = closing b

pub alone_way : (c : Config) (s : Side) → is_some (by_itself c s) ≡ goes_alone c (way_of s)
alone_way c Neither = refl
alone_way c (Offers o v a p) = sends c o v a p (channel_at c o)
alone_way c (Wants o t) = receives c o t (channel_at c o)
alone_way c (Defaults a) = refl

either : {A : Type 0} (b : Bool) (x : A) → is_some {T = A} (cond b (Some x) None) ≡ b
either true x = refl
either false x = refl

pub meet_ways : (c : Config) (s t : Side) → is_some (exchange c s t) ≡ meets c (way_of s) (way_of t)
meet_ways c (Offers o v a p) (Wants q t) = either (is_direct c o q) (a, t v true)
meet_ways c (Wants q t) (Offers o v a p) = either (is_direct c o q) (t v true, a)
meet_ways c Neither t = refl
meet_ways c (Defaults a) t = refl
meet_ways c (Offers o v a p) Neither = refl
meet_ways c (Offers o v a p) (Defaults b) = refl
meet_ways c (Offers o v a p) (Offers q w b d) = refl
meet_ways c (Wants o t) Neither = refl
meet_ways c (Wants o t) (Defaults b) = refl
meet_ways c (Wants o t) (Wants q u) = refl

-- ---- plain operations

pub offer_way : (f : Frame) (fs : List Frame) (rest : List Item) (st : List Value) → way_of (send_side f fs rest st) ≡ offer st
offer_way f fs rest (v ∷ value.Channel o ∷ st) = refl
offer_way f fs rest [] = refl
offer_way f fs rest (v ∷ []) = refl
offer_way f fs rest (v ∷ value.Flag b ∷ st) = refl
offer_way f fs rest (v ∷ value.Number i ∷ st) = refl
offer_way f fs rest (v ∷ value.Text s ∷ st) = refl

pub want_way : (f : Frame) (fs : List Frame) (rest : List Item) (st : List Value) → way_of (receive_side f fs rest st) ≡ want st
want_way f fs rest (value.Channel o ∷ st) = refl
want_way f fs rest [] = refl
want_way f fs rest (value.Flag b ∷ st) = refl
want_way f fs rest (value.Number i ∷ st) = refl
want_way f fs rest (value.Text s ∷ st) = refl

pub want_ok_way : (f : Frame) (fs : List Frame) (rest : List Item) (st : List Value) → way_of (receive_ok_side f fs rest st) ≡ want st
want_ok_way f fs rest (value.Channel o ∷ st) = refl
want_ok_way f fs rest [] = refl
want_ok_way f fs rest (value.Flag b ∷ st) = refl
want_ok_way f fs rest (value.Number i ∷ st) = refl
want_ok_way f fs rest (value.Text s ∷ st) = refl

-- ---- clauses

comm_side : (f : Frame) (fs : List Frame) (rest : List Item) (st : List Value) (c : Comm) (l : ℕ) (vs : List Value) → way_of (clause_side f fs rest st c l vs) ≡ comm_way c vs
comm_side f fs rest st comm.Default l vs = refl
comm_side f fs rest st (comm.Send a b) l (value.Channel o ∷ v ∷ vs) = refl
comm_side f fs rest st (comm.Send a b) l [] = refl
comm_side f fs rest st (comm.Send a b) l (value.Channel o ∷ []) = refl
comm_side f fs rest st (comm.Send a b) l (value.Flag x ∷ vs) = refl
comm_side f fs rest st (comm.Send a b) l (value.Number i ∷ vs) = refl
comm_side f fs rest st (comm.Send a b) l (value.Text s ∷ vs) = refl
comm_side f fs rest st (comm.Receive e ts) l (value.Channel o ∷ vs) = refl
comm_side f fs rest st (comm.Receive e ts) l [] = refl
comm_side f fs rest st (comm.Receive e ts) l (value.Flag x ∷ vs) = refl
comm_side f fs rest st (comm.Receive e ts) l (value.Number i ∷ vs) = refl
comm_side f fs rest st (comm.Receive e ts) l (value.Text s ∷ vs) = refl

pub clause_sides_way : (f : Frame) (fs : List Frame) (rest : List Item) (st : List Value) (cs : List CommClause) (vs : List Value) (k : ℕ) → way_of (slice_index_or (clause_sides f fs rest st cs vs) k Neither) ≡ clause_way cs vs k
unfolding clause_way
clause_sides_way f fs rest st [] vs zero = refl
clause_sides_way f fs rest st [] vs (suc k) = refl
clause_sides_way f fs rest st (c ∷ cs) vs zero = comm_side f fs rest st c.comm c.list vs
clause_sides_way f fs rest st (c ∷ cs) vs (suc k) = clause_sides_way f fs rest st cs (drop (operands_of c.comm) vs) k

-- ---- operands on a stack, the first of them deepest

pub deepest : (st : List Value) (n : ℕ) (v : Value) → slice_get st n ≡ Some v → reverse (take (suc n) st) ≡ v ∷ reverse (take n st)
deepest st n v e =
    ap reverse (take-suc st n v (slice_get_within st n v e) ∙ ap (λ x. take n st ++ (x ∷ [])) (get_or_from_slice_get st n v v e)) ∙ reverse-append (take n st) (v ∷ [])

-- those of a clause go, and those of the next are left
pub left_over : (st : List Value) (k m : ℕ) → k + m ≤ length st → drop k (reverse (take (k + m) st)) ≡ reverse (take m st)
left_over st zero m h = ap (λ n. reverse (take n st)) (none m)
  where
    none : (m : ℕ) → 0 + m ≡ m
    none m = omega arith
left_over st (suc k) m h =
    let v = some st (k + m) (omega (arith, h)) in
    ap (λ n. drop (suc k) (reverse (take n st))) (shift k m) ∙ ap (drop (suc k)) (deepest st (k + m) v.0 v.1) ∙ left_over st k m (omega (arith, h))
  where
    shift : (k m : ℕ) → suc k + m ≡ suc (k + m)
    shift k m = omega arith

    some : (xs : List Value) (i : ℕ) → i < length xs → (x : Value) × (slice_get xs i ≡ Some x)
    some [] i l = absurd (omega arith)
    some (x ∷ xs) zero l = (x, refl)
    some (x ∷ xs) (suc i) l = some xs i (omega (arith, l))

pub more_operands : (c : CommClause) (cs : List CommClause) → pick_operands (c ∷ cs) ≡ operands_of c.comm + pick_operands cs
more_operands c cs = sum_by-cons (λ (x : CommClause). operands_of x.comm) c cs
