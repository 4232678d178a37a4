-- The operands and the ways of the clauses of a `select`.
use Rattle.std.proofs.Common.{◌≡◌, ℕ, zero, suc, ◌+◌, ◌-◌, ◌<◌, ◌≤◌, List, [], ◌∷◌, Some, None, refl, sym, ap, ◌∙◌, length, drop, take, reverse, slice_get, arith}
use Rattle.std.proofs.lemmas.Option.{same_Some}
use Rattle.go_meaning.specs.declared.value.Value.{Value}
use Rattle.go_meaning.specs.declared.value.Value.TheVariants as value
use Rattle.go_meaning.specs.declared.expr.Expr.{Expr}
use Rattle.go_meaning.specs.declared.expr.Target.{Target}
use Rattle.go_meaning.specs.declared.node.Comm.TheVariants as comm
use Rattle.go_meaning.specs.declared.node.CommClause.{CommClause}
use Rattle.go_meaning.specs.Channels.{operands_of, pick_operands}
use Rattle.go_step.specs.declared.ways.Way.TheVariants as way
use Rattle.go_step.specs.Ways.{comm_way, clause_way, operands_on}
use Rattle.go_step.specs.Heads.{offered, wanted}
use Rattle.go_step.proofs.Waits.{deepest, left_over, more_operands}

-- ---- how many operands there are

next_operands : (cs : List CommClause) (k : ℕ) (c : CommClause) → slice_get cs k ≡ Some c → pick_operands (drop k cs) ≡ operands_of c.comm + pick_operands (drop (suc k) cs)
next_operands [] k c e = absurd cc
next_operands (x ∷ cs) zero c e = more_operands x cs ∙ ap (λ (y : CommClause). operands_of y.comm + pick_operands cs) (same_Some x c e)
next_operands (x ∷ cs) (suc k) c e = next_operands cs k c e

pub operands_next : (cs : List CommClause) (k : ℕ) (c : CommClause) → slice_get cs k ≡ Some c → pick_operands (drop k cs) ≡ operands_of c.comm + pick_operands (drop (k + 1) cs)
operands_next cs k c e =
    let next : suc k ≡ k + 1 = omega arith in
    next_operands cs k c e ∙ ap (λ n. operands_of c.comm + pick_operands (drop n cs)) next

pub own_operands : (cs : List CommClause) (k : ℕ) (c : CommClause) → slice_get cs k ≡ Some c → operands_of c.comm ≤ pick_operands (drop k cs)
own_operands cs k c e = let n = next_operands cs k c e in omega (arith, n)

pub fewer_operands : (cs : List CommClause) (k : ℕ) → pick_operands (drop k cs) ≤ pick_operands cs
fewer_operands cs zero = omega arith
fewer_operands [] (suc k) = omega arith
fewer_operands (x ∷ cs) (suc k) =
    let e = more_operands x cs in
    let h = fewer_operands cs k in
    omega (arith, e, h)

-- ---- the way of a clause by the value of its channel, which lies deepest

some_at : (xs : List Value) (i : ℕ) → i < length xs → (x : Value) × (slice_get xs i ≡ Some x)
some_at [] i l = absurd (omega arith)
some_at (x ∷ xs) zero l = (x, refl)
some_at (x ∷ xs) (suc i) l = some_at xs i (omega (arith, l))

send_by : (a b : Expr) (v w : Value) (vs : List Value) → comm_way (comm.Send a b) (v ∷ w ∷ vs) ≡ offered (Some v)
send_by a b (value.Channel o) w vs = refl
send_by a b (value.Flag x) w vs = refl
send_by a b (value.Number i) w vs = refl
send_by a b (value.Text s) w vs = refl

receive_by : (e : Expr) (ts : List Target) (v : Value) (vs : List Value) → comm_way (comm.Receive e ts) (v ∷ vs) ≡ wanted (Some v)
receive_by e ts (value.Channel o) vs = refl
receive_by e ts (value.Flag x) vs = refl
receive_by e ts (value.Number i) vs = refl
receive_by e ts (value.Text s) vs = refl

send_on : (st : List Value) (m : ℕ) (a b : Expr) → suc (suc m) ≤ length st → offered (slice_get st (suc m)) ≡ comm_way (comm.Send a b) (reverse (take (suc (suc m)) st))
send_on st m a b h =
    let v = some_at st (suc m) (omega (arith, h)) in
    let w = some_at st m (omega (arith, h)) in
    let on = deepest st (suc m) v.0 v.1 ∙ ap (λ l. v.0 ∷ l) (deepest st m w.0 w.1) in
    ap offered v.1 ∙ sym (ap (comm_way (comm.Send a b)) on ∙ send_by a b v.0 w.0 (reverse (take m st)))

receive_on : (st : List Value) (m : ℕ) (e : Expr) (ts : List Target) → suc m ≤ length st → wanted (slice_get st m) ≡ comm_way (comm.Receive e ts) (reverse (take (suc m) st))
receive_on st m e ts h =
    let v = some_at st m (omega (arith, h)) in
    ap wanted v.1 ∙ sym (ap (comm_way (comm.Receive e ts)) (deepest st m v.0 v.1) ∙ receive_by e ts v.0 (reverse (take m st)))

pub send_clause : (st : List Value) (n : ℕ) (a b : Expr) → 2 ≤ n → n ≤ length st → offered (slice_get st (n - 1)) ≡ comm_way (comm.Send a b) (reverse (take n st))
send_clause st n a b l h =
    let one : n - 1 ≡ suc (n - 2) = omega (arith, l) in
    let all : suc (suc (n - 2)) ≡ n = omega (arith, l) in
    ap (λ m. offered (slice_get st m)) one ∙ send_on st (n - 2) a b (omega (arith, l, h)) ∙ ap (λ m. comm_way (comm.Send a b) (reverse (take m st))) all

pub receive_clause : (st : List Value) (n : ℕ) (e : Expr) (ts : List Target) → 1 ≤ n → n ≤ length st → wanted (slice_get st (n - 1)) ≡ comm_way (comm.Receive e ts) (reverse (take n st))
receive_clause st n e ts l h =
    let all : suc (n - 1) ≡ n = omega (arith, l) in
    receive_on st (n - 1) e ts (omega (arith, l, h)) ∙ ap (λ m. comm_way (comm.Receive e ts) (reverse (take m st))) all

-- ---- the way of a clause by its number

pub later_clause : (cs : List CommClause) (st : List Value) (k : ℕ) (c : CommClause) → slice_get cs k ≡ Some c → pick_operands cs ≤ length st → comm_way c.comm (reverse (take (pick_operands (drop k cs)) st)) ≡ clause_way cs (operands_on cs st) k
unfolding clause_way
later_clause [] st k c e h = absurd cc
later_clause (x ∷ cs) st zero c e h = ap (λ (y : CommClause). comm_way y.comm (operands_on (x ∷ cs) st)) (sym (same_Some x c e))
later_clause (x ∷ cs) st (suc k) c e h =
    let n = more_operands x cs in
    let rest : operands_on cs st ≡ drop (operands_of x.comm) (operands_on (x ∷ cs) st) =
    sym (ap (λ m. drop (operands_of x.comm) (reverse (take m st))) n ∙ left_over st (operands_of x.comm) (pick_operands cs) (omega (arith, n, h))) in
    later_clause cs st k c e (omega (arith, n, h)) ∙ ap (λ vs. clause_way cs vs k) rest

pub no_clause : (cs : List CommClause) (vs : List Value) (k : ℕ) → slice_get cs k ≡ None → way.Neither ≡ clause_way cs vs k
unfolding clause_way
no_clause [] vs zero e = refl
no_clause [] vs (suc k) e = refl
no_clause (x ∷ cs) vs zero e = absurd cc
no_clause (x ∷ cs) vs (suc k) e = no_clause cs (drop (operands_of x.comm) vs) k e

-- ---- and by the clauses from it on

pub first_left : (cs : List CommClause) (k : ℕ) → slice_get (drop k cs) 0 ≡ slice_get cs k
first_left cs zero = refl
first_left [] (suc k) = refl
first_left (x ∷ cs) (suc k) = first_left cs k

pub way_left : (cs rest : List CommClause) (st : List Value) (k left : ℕ) (c : CommClause) → rest ≡ drop k cs → slice_get rest 0 ≡ Some c → left ≡ pick_operands rest → pick_operands cs ≤ length st → comm_way c.comm (reverse (take left st)) ≡ clause_way cs (operands_on cs st) k
way_left cs rest st k left c e at n h =
    ap (λ m. comm_way c.comm (reverse (take m st))) (n ∙ ap pick_operands e) ∙ later_clause cs st k c (sym (ap (λ l. slice_get l 0) e ∙ first_left cs k) ∙ at) h

pub operands_left : (cs rest : List CommClause) (k : ℕ) (c : CommClause) → rest ≡ drop k cs → slice_get rest 0 ≡ Some c → operands_of c.comm ≤ pick_operands rest
operands_left cs rest k c e at =
    let own = own_operands cs k c (sym (ap (λ l. slice_get l 0) e ∙ first_left cs k) ∙ at) in
    let same = ap pick_operands e in
    omega (arith, own, same)

pub fewer_left : (cs rest : List CommClause) (k : ℕ) → rest ≡ drop k cs → pick_operands rest ≤ pick_operands cs
fewer_left cs rest k e =
    let fewer = fewer_operands cs k in
    let same = ap pick_operands e in
    omega (arith, fewer, same)

pub none_left : (cs rest : List CommClause) (vs : List Value) (k : ℕ) → rest ≡ drop k cs → slice_get rest 0 ≡ None → way.Neither ≡ clause_way cs vs k
none_left cs rest vs k e at = no_clause cs vs k (sym (ap (λ l. slice_get l 0) e ∙ first_left cs k) ∙ at)
