-- The part of an item is its side, and fits its frame.
use Rattle.std.proofs.Common.{◌≡◌, ℕ, zero, suc, ◌+◌, ◌-◌, ◌<◌, ◌≤◌, Bool, true, false, List, [], ◌∷◌, ◌++◌, Option, Some, None, refl, sym, ap, ◌∙◌, subst, length, reverse, take, drop, slice_get, arith}
use Rattle.std.specs.Prelude.{nat_le, slice_index_or, if◌then◌else◌}
use Rattle.std.proofs.Math.Path.{fun_ext}
use Rattle.std.proofs.lemmas.Bool.{leb-true}
use Rattle.std.proofs.lemmas.Option.{get_or_from_slice_get}
use Rattle.go_meaning.specs.declared.value.Value.{Value}
use Rattle.go_meaning.specs.declared.value.Value.TheVariants as value
use Rattle.go_meaning.specs.declared.expr.Expr.{Expr}
use Rattle.go_meaning.specs.declared.expr.Target.{Target}
use Rattle.go_meaning.specs.declared.node.CommClause.{CommClause}
use Rattle.go_meaning.specs.declared.node.Comm.{Comm}
use Rattle.go_meaning.specs.declared.node.Comm.TheVariants as comm
use Rattle.go_meaning.specs.declared.node.NodeForm.{NodeForm}
use Rattle.go_meaning.specs.declared.node.NodeForm.TheVariants as node
use Rattle.go_meaning.specs.declared.item.Item.{Item}
use Rattle.go_meaning.specs.declared.item.Item.TheVariants.{Run, Pull, Pick, Leave, Send, Recv, RecvOk}
use Rattle.go_meaning.specs.declared.config.Frame.{Frame}
use Rattle.go_meaning.specs.declared.config.Goroutine.{Goroutine}
use Rattle.go_meaning.specs.Programs.{Parts, form_at}
use Rattle.go_meaning.specs.Moves.{Taken, taken, running, panicked}
use Rattle.go_meaning.specs.Channels.{Side, Neither, Offers, Wants, on, send_closed, send_side, receive_side, receive_ok_side, pulled, pull_side, operands_of, clause_side, clause_sides, pick_operands, pick_taken, pick_sides, item_sides, side_at}
use Rattle.go_step.specs.declared.parts.Taking.{Taking}
use Rattle.go_step.specs.declared.parts.Taking.TheVariants as taking
use Rattle.go_step.specs.declared.parts.Part.{Part}
use Rattle.go_step.specs.Parts.{took, side_by, PartsFit, at_item, offer_part, want_part, pull_part, plain_part, send_clause, receive_clause, comm_part, clause_part, pick_part, form_part, part_of, taking_of}
use Rattle.go_step.proofs.SelectWays.{own_operands, fewer_operands}
use Rattle.go_step.proofs.Waits.{deepest, left_over, more_operands}

-- ---- plain operations

send_sides : (f : Frame) (fs : List Frame) (item : Item) (rest : List Item) (st : List Value) → send_side (at_item f st item rest) fs rest st ≡ side_by (offer_part st) (at_item f st item rest) fs
send_sides f fs item rest (v ∷ value.Channel o ∷ st) = refl
send_sides f fs item rest [] = refl
send_sides f fs item rest (v ∷ []) = refl
send_sides f fs item rest (v ∷ value.Flag b ∷ st) = refl
send_sides f fs item rest (v ∷ value.Number i ∷ st) = refl
send_sides f fs item rest (v ∷ value.Text s ∷ st) = refl

receive_sides : (f : Frame) (fs : List Frame) (item : Item) (rest : List Item) (st : List Value) → receive_side (at_item f st item rest) fs rest st ≡ side_by (want_part taking.One [] st) (at_item f st item rest) fs
receive_sides f fs item rest (value.Channel o ∷ st) = refl
receive_sides f fs item rest [] = refl
receive_sides f fs item rest (value.Flag b ∷ st) = refl
receive_sides f fs item rest (value.Number i ∷ st) = refl
receive_sides f fs item rest (value.Text s ∷ st) = refl

receive_ok_sides : (f : Frame) (fs : List Frame) (item : Item) (rest : List Item) (st : List Value) → receive_ok_side (at_item f st item rest) fs rest st ≡ side_by (want_part taking.Both [] st) (at_item f st item rest) fs
receive_ok_sides f fs item rest (value.Channel o ∷ st) = refl
receive_ok_sides f fs item rest [] = refl
receive_ok_sides f fs item rest (value.Flag b ∷ st) = refl
receive_ok_sides f fs item rest (value.Number i ∷ st) = refl
receive_ok_sides f fs item rest (value.Text s ∷ st) = refl

takes_by : (n i : ℕ) (t : Target) (l : ℕ) (f : Frame) (fs : List Frame) (item : Item) (rest : List Item) (o : Option ℕ) (st : List Value) (v : Value) (ok : Bool) → pulled n i t l (at_item f (value.Channel o ∷ st) item rest) fs rest st v ok ≡ running (took (taking.Loop t) 1 (Run l 0 ∷ Pull n i ∷ []) (at_item f (value.Channel o ∷ st) item rest) v ok ∷ fs)
takes_by n i t l f fs item rest o st v true = refl
takes_by n i t l f fs item rest o st v false = refl

pull_sides : (n i : ℕ) (form : Option NodeForm) (f : Frame) (fs : List Frame) (item : Item) (rest : List Item) (st : List Value) → pull_side n i form (at_item f st item rest) fs rest st ≡ side_by (pull_part n i form st) (at_item f st item rest) fs
pull_sides n i (Some (node.RangeChannel t e l)) f fs item rest (value.Channel o ∷ st) = ap (Wants o) (fun_ext (λ v. fun_ext (λ ok. takes_by n i t l f fs item rest o st v ok)))
pull_sides n i (Some (node.RangeChannel t e l)) f fs item rest [] = refl
pull_sides n i (Some (node.RangeChannel t e l)) f fs item rest (value.Flag b ∷ st) = refl
pull_sides n i (Some (node.RangeChannel t e l)) f fs item rest (value.Number k ∷ st) = refl
pull_sides n i (Some (node.RangeChannel t e l)) f fs item rest (value.Text s ∷ st) = refl
pull_sides n i form f fs item rest st = refl

-- ---- clauses

-- a clause by its number
side_of_clause : Frame → List Frame → List Item → List Value → List Value → List CommClause → ℕ → Option CommClause → Side
side_of_clause f fs rest s st cs k None = Neither
side_of_clause f fs rest s st cs k (Some c) = clause_side f fs rest s c.comm c.list (reverse (take (pick_operands (drop k cs)) st))

nth_clause : (f : Frame) (fs : List Frame) (rest : List Item) (s st : List Value) (cs : List CommClause) (k : ℕ) → pick_operands cs ≤ length st → slice_index_or (clause_sides f fs rest s cs (reverse (take (pick_operands cs) st))) k Neither ≡ side_of_clause f fs rest s st cs k (slice_get cs k)
unfolding side_of_clause
nth_clause f fs rest s st [] zero h = refl
nth_clause f fs rest s st [] (suc k) h = refl
nth_clause f fs rest s st (c ∷ cs) zero h = refl
nth_clause f fs rest s st (c ∷ cs) (suc k) h =
    let more = more_operands c cs in
    let fewer : operands_of c.comm + pick_operands cs ≤ length st = omega (arith, more, h) in
    let within : pick_operands cs ≤ length st = omega (arith, fewer) in
    ap (λ n. slice_index_or (clause_sides f fs rest s cs (drop (operands_of c.comm) (reverse (take n st)))) k Neither) more
    ∙ ap (λ vs. slice_index_or (clause_sides f fs rest s cs vs) k Neither) (left_over st (operands_of c.comm) (pick_operands cs) fewer)
    ∙ nth_clause f fs rest s st cs k within
    ∙ later (slice_get cs k)
  where
    later : (o : Option CommClause) → side_of_clause f fs rest s st cs k o ≡ side_of_clause f fs rest s st (c ∷ cs) (suc k) o
    later None = refl
    later (Some d) = refl

-- the value that lies under so many others
under : (st : List Value) (m : ℕ) → m < length st → (v : Value) × (slice_get st m ≡ Some v)
under [] m h = absurd (omega arith)
under (v ∷ st) zero h = (v, refl)
under (v ∷ st) (suc m) h = under st m (omega (arith, h))

send_comm : (f : Frame) (fs : List Frame) (item : Item) (rest : List Item) (st : List Value) (a b : Expr) (l n m : ℕ) (x y : Value) (vs : List Value) → slice_get st (m - 2) ≡ Some y → clause_side (at_item f st item rest) fs rest (drop n st) (comm.Send a b) l (x ∷ y ∷ vs) ≡ side_by (send_clause l n m (Some x)) (at_item f st item rest) fs
send_comm f fs item rest st a b l n m (value.Channel o) y vs e =
    ap (λ v. Offers o v (on (at_item f st item rest) fs (drop n st) (Run l 0 ∷ Leave ∷ rest)) (panicked (at_item f st item rest) fs send_closed)) (sym (get_or_from_slice_get st (m - 2) y (value.Flag false) e))
send_comm f fs item rest st a b l n m (value.Flag b') y vs e = refl
send_comm f fs item rest st a b l n m (value.Number k) y vs e = refl
send_comm f fs item rest st a b l n m (value.Text s) y vs e = refl

receive_comm : (f : Frame) (fs : List Frame) (item : Item) (rest : List Item) (st : List Value) (e : Expr) (ts : List Target) (l n : ℕ) (x : Value) (vs : List Value) → clause_side (at_item f st item rest) fs rest (drop n st) (comm.Receive e ts) l (x ∷ vs) ≡ side_by (receive_clause ts l n (Some x)) (at_item f st item rest) fs
receive_comm f fs item rest st e [] l n (value.Channel o) vs = refl
receive_comm f fs item rest st e (t ∷ []) l n (value.Channel o) vs = refl
receive_comm f fs item rest st e (t ∷ u ∷ ts) l n (value.Channel o) vs = refl
receive_comm f fs item rest st e ts l n (value.Flag b) vs = refl
receive_comm f fs item rest st e ts l n (value.Number k) vs = refl
receive_comm f fs item rest st e ts l n (value.Text s) vs = refl

comm_sides : (f : Frame) (fs : List Frame) (item : Item) (rest : List Item) (st : List Value) (c : Comm) (l n m : ℕ) → operands_of c ≤ m → m ≤ length st → clause_side (at_item f st item rest) fs rest (drop n st) c l (reverse (take m st)) ≡ side_by (comm_part c l n m st) (at_item f st item rest) fs
comm_sides f fs item rest st comm.Default l n m some h = refl
comm_sides f fs item rest st (comm.Send a b) l n zero some h = absurd (omega arith)
comm_sides f fs item rest st (comm.Send a b) l n (suc zero) some h = absurd (omega arith)
comm_sides f fs item rest st (comm.Send a b) l n (suc (suc m)) some h =
    let x = under st (suc m) (omega (arith, h)) in
    let y = under st m (omega (arith, h)) in
    let one : suc (suc m) - 1 ≡ suc m = omega arith in
    let two : suc (suc m) - 2 ≡ m = omega arith in
    ap (clause_side (at_item f st item rest) fs rest (drop n st) (comm.Send a b) l) (deepest st (suc m) x.0 x.1 ∙ ap (λ vs. x.0 ∷ vs) (deepest st m y.0 y.1))
    ∙ send_comm f fs item rest st a b l n (suc (suc m)) x.0 y.0 (reverse (take m st)) (ap (slice_get st) two ∙ y.1)
    ∙ ap (λ o. side_by (send_clause l n (suc (suc m)) o) (at_item f st item rest) fs) (sym (ap (slice_get st) one ∙ x.1))
comm_sides f fs item rest st (comm.Receive e ts) l n zero some h = absurd (omega arith)
comm_sides f fs item rest st (comm.Receive e ts) l n (suc m) some h =
    let x = under st m (omega (arith, h)) in
    let one : suc m - 1 ≡ m = omega arith in
    ap (clause_side (at_item f st item rest) fs rest (drop n st) (comm.Receive e ts) l) (deepest st m x.0 x.1)
    ∙ receive_comm f fs item rest st e ts l n x.0 (reverse (take m st))
    ∙ ap (λ o. side_by (receive_clause ts l n o) (at_item f st item rest) fs) (sym (ap (slice_get st) one ∙ x.1))

clause_sides_at : (f : Frame) (fs : List Frame) (item : Item) (rest : List Item) (st : List Value) (cs : List CommClause) (k : ℕ) (o : Option CommClause) → slice_get cs k ≡ o → pick_operands cs ≤ length st → side_of_clause (at_item f st item rest) fs rest (drop (pick_operands cs) st) st cs k o ≡ side_by (clause_part cs k o st) (at_item f st item rest) fs
unfolding side_of_clause
clause_sides_at f fs item rest st cs k None at h = refl
clause_sides_at f fs item rest st cs k (Some c) at h =
    let fewer = fewer_operands cs k in
    comm_sides f fs item rest st c.comm c.list (pick_operands cs) (pick_operands (drop k cs)) (own_operands cs k c at) (omega (arith, fewer, h))

pick_sides_at : (f : Frame) (fs : List Frame) (item : Item) (rest : List Item) (st : List Value) (cs : List CommClause) (k : ℕ) (b : Bool) → nat_le (pick_operands cs) (length st) ≡ b → side_at (pick_taken (at_item f st item rest) fs rest cs (if b then Some (record { values = reverse (take (pick_operands cs) st); stack = drop (pick_operands cs) st }) else None)) (suc k) ≡ side_by (if b then clause_part cs k (slice_get cs k) st else None) (at_item f st item rest) fs
pick_sides_at f fs item rest st cs k true e =
    nth_clause (at_item f st item rest) fs rest (drop (pick_operands cs) st) st cs k (leb-true (pick_operands cs) (length st) e)
    ∙ clause_sides_at f fs item rest st cs k (slice_get cs k) refl (leb-true (pick_operands cs) (length st) e)
pick_sides_at f fs item rest st cs k false e = refl

form_sides : (form : Option NodeForm) (f : Frame) (fs : List Frame) (item : Item) (rest : List Item) (st : List Value) (k : ℕ) → side_at (pick_sides form (at_item f st item rest) fs rest) (suc k) ≡ side_by (form_part form k st) (at_item f st item rest) fs
form_sides (Some (node.Select cs)) f fs item rest st k = pick_sides_at f fs item rest st cs k (nat_le (pick_operands cs) (length st)) refl
form_sides form f fs item rest st k = refl

-- no clause has the number 0
taken_zero : (f : Frame) (fs : List Frame) (rest : List Item) (cs : List CommClause) (o : Option Taken) → side_at (pick_taken f fs rest cs o) zero ≡ Neither
taken_zero f fs rest cs None = refl
taken_zero f fs rest cs (Some t) = refl

form_zero : (form : Option NodeForm) (f : Frame) (fs : List Frame) (rest : List Item) → side_at (pick_sides form f fs rest) zero ≡ Neither
form_zero (Some (node.Select cs)) f fs rest = taken_zero f fs rest cs (taken (pick_operands cs) f.stack)
form_zero form f fs rest = refl

-- ---- of each item

pub part_sides : (P : Parts) (item : Item) (k : ℕ) (f : Frame) (fs : List Frame) (rest : List Item) (st : List Value) → side_at (item_sides P item (at_item f st item rest) fs rest) k ≡ side_by (part_of P item k st) (at_item f st item rest) fs
part_sides P Send zero f fs rest st = send_sides f fs Send rest st
part_sides P Recv zero f fs rest st = receive_sides f fs Recv rest st
part_sides P RecvOk zero f fs rest st = receive_ok_sides f fs RecvOk rest st
part_sides P (Pull n i) zero f fs rest st = pull_sides n i (form_at P n i) f fs (Pull n i) rest st
part_sides P (Pick n i) zero f fs rest st = form_zero (form_at P n i) (at_item f st (Pick n i) rest) fs rest
part_sides P (Pick n i) (suc k) f fs rest st = form_sides (form_at P n i) f fs (Pick n i) rest st k
part_sides P item zero f fs rest st = refl
part_sides P item (suc k) f fs rest st = refl

-- ---- what fits

offer_fits : (f : Frame) (item : Item) (rest : List Item) (st : List Value) → PartsFit (offer_part st) (at_item f st item rest)
offer_fits f item rest (v ∷ value.Channel o ∷ st) = (omega arith, omega arith, omega arith)
offer_fits f item rest [] = tt
offer_fits f item rest (v ∷ []) = tt
offer_fits f item rest (v ∷ value.Flag b ∷ st) = tt
offer_fits f item rest (v ∷ value.Number i ∷ st) = tt
offer_fits f item rest (v ∷ value.Text s ∷ st) = tt

want_fits : (f : Frame) (item : Item) (rest : List Item) (t : Taking) (items : List Item) (st : List Value) → PartsFit (want_part t items st) (at_item f st item rest)
want_fits f item rest t items (value.Channel o ∷ st) = (omega arith, omega arith, omega arith)
want_fits f item rest t items [] = tt
want_fits f item rest t items (value.Flag b ∷ st) = tt
want_fits f item rest t items (value.Number i ∷ st) = tt
want_fits f item rest t items (value.Text s ∷ st) = tt

pull_fits : (n i : ℕ) (form : Option NodeForm) (f : Frame) (item : Item) (rest : List Item) (st : List Value) → PartsFit (pull_part n i form st) (at_item f st item rest)
pull_fits n i (Some (node.RangeChannel t e l)) f item rest st = want_fits f item rest (taking.Loop t) (Run l 0 ∷ Pull n i ∷ []) st
pull_fits n i form f item rest st = tt

send_fits : (f : Frame) (item : Item) (rest : List Item) (st : List Value) (l n m : ℕ) (o : Option Value) → 2 ≤ m → m ≤ n → n ≤ length st → PartsFit (send_clause l n m o) (at_item f st item rest)
send_fits f item rest st l n m (Some (value.Channel o)) two own h = (omega arith, omega (arith, h), omega arith)
send_fits f item rest st l n m (Some (value.Flag b)) two own h = tt
send_fits f item rest st l n m (Some (value.Number i)) two own h = tt
send_fits f item rest st l n m (Some (value.Text s)) two own h = tt
send_fits f item rest st l n m None two own h = tt

receive_fits : (f : Frame) (item : Item) (rest : List Item) (st : List Value) (ts : List Target) (l n : ℕ) (o : Option Value) → 0 < n → n ≤ length st → PartsFit (receive_clause ts l n o) (at_item f st item rest)
receive_fits f item rest st ts l n (Some (value.Channel o)) some h = (omega arith, omega (arith, h), omega arith)
receive_fits f item rest st ts l n (Some (value.Flag b)) some h = tt
receive_fits f item rest st ts l n (Some (value.Number i)) some h = tt
receive_fits f item rest st ts l n (Some (value.Text s)) some h = tt
receive_fits f item rest st ts l n None some h = tt

comm_fits : (f : Frame) (item : Item) (rest : List Item) (st : List Value) (c : Comm) (l n m : ℕ) → operands_of c ≤ m → m ≤ n → n ≤ length st → PartsFit (comm_part c l n m st) (at_item f st item rest)
comm_fits f item rest st comm.Default l n m some own h = omega arith
comm_fits f item rest st (comm.Send a b) l n m some own h = send_fits f item rest st l n m (slice_get st (m - 1)) some own h
comm_fits f item rest st (comm.Receive e ts) l n m some own h = receive_fits f item rest st ts l n (slice_get st (m - 1)) (omega arith) h

clause_fits : (f : Frame) (item : Item) (rest : List Item) (st : List Value) (cs : List CommClause) (k : ℕ) (o : Option CommClause) → slice_get cs k ≡ o → pick_operands cs ≤ length st → PartsFit (clause_part cs k o st) (at_item f st item rest)
clause_fits f item rest st cs k None at h = tt
clause_fits f item rest st cs k (Some c) at h = comm_fits f item rest st c.comm c.list (pick_operands cs) (pick_operands (drop k cs)) (own_operands cs k c at) (fewer_operands cs k) h

pick_fits : (f : Frame) (item : Item) (rest : List Item) (st : List Value) (cs : List CommClause) (k : ℕ) (b : Bool) → nat_le (pick_operands cs) (length st) ≡ b → PartsFit (if b then clause_part cs k (slice_get cs k) st else None) (at_item f st item rest)
pick_fits f item rest st cs k true e = clause_fits f item rest st cs k (slice_get cs k) refl (leb-true (pick_operands cs) (length st) e)
pick_fits f item rest st cs k false e = tt

form_fits : (form : Option NodeForm) (f : Frame) (item : Item) (rest : List Item) (st : List Value) (k : ℕ) → PartsFit (form_part form k st) (at_item f st item rest)
form_fits (Some (node.Select cs)) f item rest st k = pick_fits f item rest st cs k (nat_le (pick_operands cs) (length st)) refl
form_fits form f item rest st k = tt

pub parts_fit : (P : Parts) (item : Item) (k : ℕ) (f : Frame) (rest : List Item) (st : List Value) → PartsFit (part_of P item k st) (at_item f st item rest)
parts_fit P Send zero f rest st = offer_fits f Send rest st
parts_fit P Recv zero f rest st = want_fits f Recv rest taking.One [] st
parts_fit P RecvOk zero f rest st = want_fits f RecvOk rest taking.Both [] st
parts_fit P (Pull n i) zero f rest st = pull_fits n i (form_at P n i) f (Pull n i) rest st
parts_fit P (Pick n i) (suc k) f rest st = form_fits (form_at P n i) f (Pick n i) rest st k
parts_fit P item zero f rest st = tt
parts_fit P item (suc k) f rest st = tt
