-- Small programs with channels, run step by step.
use Rattle.std.proofs.Common.{◌≡◌, ℕ, zero, suc, true, false, [], ◌∷◌, ◌++◌, Option, Some, None, refl, Bool, cond, ap}
use Rattle.std.specs.Fmt.{digits}
use lib.Utf8.{encode}
use Rattle.std.specs.Prelude.{codes, option_map, pos, slice_get, ◌==◌}
use Rattle.go_meaning.specs.declared.expr.Expr.{Expr}
use Rattle.go_meaning.specs.declared.expr.Expr.TheVariants as expr
use Rattle.go_meaning.specs.declared.expr.Op.TheVariants as op
use Rattle.go_meaning.specs.declared.node.NodeForm.TheVariants as node
use Rattle.go_meaning.specs.declared.node.Simple.TheVariants as simple
use Rattle.go_meaning.specs.declared.config.Config.{Config}
use Rattle.go_meaning.specs.declared.event.End.TheVariants as ends
use Rattle.go_meaning.specs.declared.event.Event.TheVariants.{Step, Count}
use Rattle.go_meaning.specs.declared.node.Comm.TheVariants as comm
use Rattle.go_value.specs.Integers.{value_of, wrap}
use Rattle.go_meaning.specs.Values.{first_rune}
use Rattle.go_meaning.specs.Histories.{start, replay, replay_from, IsDead}
use Rattle.go_meaning.specs.Programs.{Parts}
use Rattle.go_meaning.specs.Operations.{number, apply, on_value, on_flag, on_number, on_text, on_channel, calculated, compared, indexed, a_text, cut_text, measured, made, closed_by, closed, written, printed, locked, unlocked, set_number, added, waited}
use Rattle.go_meaning.specs.Acts.{act_of, has, branch, each, decided, matched, compare, assign, constant, pushed}
use Rattle.go_meaning.specs.Moves.{put}
use Rattle.go_meaning.specs.Channels.{lone}
use Rattle.go_meaning.specs.Steps.{step, together, arrive_both}
use Rattle.go_meaning.proofs.Small.{program, println, int, slot, to_slot, steps, run_on, ran, replayed, prints, does, sets, make}
use Rattle.go_value.specs.Operations.{exact, fault}

-- func f(c chan int) { c <- 7 }; c := make(chan int); go f(c); fmt.Println(<-c)
abbrev exchanges : Parts
exchanges = program 1 (record { name = codes "f"; params = 1; results = 0; slots = 1; body = 1 } ∷ []) (
    (node.Simple (simple.Assign (record { targets = to_slot 0 ∷ []; values = expr.Apply (op.Make (number (pos 0)) false) [] ∷ [] })) ∷ node.Go 1 (slot 0 ∷ []) ∷ println (expr.Receive (slot 0)) ∷ [])
    ∷ (node.Simple (simple.Send (slot 0) (int 7)) ∷ [])
    ∷ [])

goes_together : replayed exchanges (steps 12 1 ++ steps 4 2 ++ Step 1 0 2 0 ∷ steps 4 1) ≡ Some (record { output = codes "7\n"; end = Some ends.Returned })
unfolding on_value on_flag on_number on_text on_channel calculated compared indexed a_text cut_text measured made closed_by closed written printed locked unlocked set_number added waited has branch each decided matched compare assign constant pushed digits encode step act_of put lone apply replay_from value_of wrap first_rune Rattle.go_meaning.specs.declared.expr.Expr.TheViews.out-Expr denote.Hole.Carrier.out Rattle.go_meaning.specs.declared.expr.Expr.TheBlock.shown-the_row-Expr-1 denote.Hole.Carrier.shown denote.Hole.Carrier.hidden
goes_together = refl

from_the_sender : replayed exchanges (steps 12 1 ++ steps 4 2 ++ Step 2 0 1 0 ∷ steps 4 1) ≡ Some (record { output = codes "7\n"; end = Some ends.Returned })
unfolding on_value on_flag on_number on_text on_channel calculated compared indexed a_text cut_text measured made closed_by closed written printed locked unlocked set_number added waited has branch each decided matched compare assign constant pushed digits encode step act_of put lone apply replay_from value_of wrap first_rune Rattle.go_meaning.specs.declared.expr.Expr.TheViews.out-Expr denote.Hole.Carrier.out Rattle.go_meaning.specs.declared.expr.Expr.TheBlock.shown-the_row-Expr-1 denote.Hole.Carrier.shown denote.Hole.Carrier.hidden
from_the_sender = refl

-- neither goes on by itself
not_alone : replay exchanges (steps 12 1 ++ steps 5 2) ≡ None
unfolding on_value on_flag on_number on_text on_channel calculated compared indexed a_text cut_text measured made closed_by closed written printed locked unlocked set_number added waited has branch each decided matched compare assign constant pushed digits encode step act_of put lone apply replay_from value_of wrap first_rune Rattle.go_meaning.specs.declared.expr.Expr.TheViews.out-Expr denote.Hole.Carrier.out Rattle.go_meaning.specs.declared.expr.Expr.TheBlock.shown-the_row-Expr-1 denote.Hole.Carrier.shown denote.Hole.Carrier.hidden
not_alone = refl

-- c := make(chan int, 1); select { default: fmt.Println(0); case c <- 7: fmt.Println(<-c) }
abbrev selects : Parts
selects = program 1 [] (
    (node.Simple (simple.Assign (record { targets = to_slot 0 ∷ []; values = expr.Apply (op.Make (number (pos 0)) true) (int 1 ∷ []) ∷ [] })) ∷ node.Select (record { comm = comm.Default; list = 1 } ∷ record { comm = comm.Send (slot 0) (int 7); list = 2 } ∷ []) ∷ [])
    ∷ (println (int 0) ∷ [])
    ∷ (println (expr.Receive (slot 0)) ∷ [])
    ∷ [])

case_is_ready : replayed selects (steps 9 1 ++ Step 1 2 0 0 ∷ steps 11 1) ≡ Some (record { output = codes "7\n"; end = Some ends.Returned })
unfolding on_value on_flag on_number on_text on_channel calculated compared indexed a_text cut_text measured made closed_by closed written printed locked unlocked set_number added waited has branch each decided matched compare assign constant pushed digits encode step act_of put lone apply replay_from value_of wrap first_rune Rattle.go_meaning.specs.declared.expr.Expr.TheViews.out-Expr denote.Hole.Carrier.out Rattle.go_meaning.specs.declared.expr.Expr.TheBlock.shown-the_row-Expr-1 denote.Hole.Carrier.shown denote.Hole.Carrier.hidden
case_is_ready = refl

no_default : replay selects (steps 9 1 ++ Step 1 1 0 0 ∷ []) ≡ None
unfolding on_value on_flag on_number on_text on_channel calculated compared indexed a_text cut_text measured made closed_by closed written printed locked unlocked set_number added waited has branch each decided matched compare assign constant pushed digits encode step act_of put lone apply replay_from value_of wrap first_rune Rattle.go_meaning.specs.declared.expr.Expr.TheViews.out-Expr denote.Hole.Carrier.out Rattle.go_meaning.specs.declared.expr.Expr.TheBlock.shown-the_row-Expr-1 denote.Hole.Carrier.shown denote.Hole.Carrier.hidden
no_default = refl

-- c := make(chan int, 2); c <- 1; c <- 2; close(c); for v := range c { fmt.Println(v) }
abbrev pulls : Parts
pulls = program 2 [] (
    (node.Simple (sets 0 (make (Some 2))) ∷ node.Simple (simple.Send (slot 0) (int 1)) ∷ node.Simple (simple.Send (slot 0) (int 2)) ∷ does (expr.Apply op.Close (slot 0 ∷ [])) ∷ node.RangeChannel (to_slot 1) (slot 0) 1 ∷ [])
    ∷ (println (slot 1) ∷ [])
    ∷ [])

drains : ran pulls ≡ record { output = codes "1\n2\n"; end = Some ends.Returned }
unfolding exact fault on_value on_flag on_number on_text on_channel calculated compared indexed a_text cut_text measured made closed_by closed written printed locked unlocked set_number added waited has branch each decided matched compare assign constant pushed digits encode step act_of put lone apply replay_from value_of wrap first_rune Rattle.go_meaning.specs.declared.expr.Expr.TheViews.out-Expr denote.Hole.Carrier.out Rattle.go_meaning.specs.declared.expr.Expr.TheBlock.shown-the_row-Expr-1 denote.Hole.Carrier.shown denote.Hole.Carrier.hidden
drains = refl

-- c := make(chan int); close(c); v, ok := <-c; fmt.Println(v, ok); c <- 1
abbrev closes : Parts
closes = program 3 [] (
    (node.Simple (sets 0 (make None)) ∷ does (expr.Apply op.Close (slot 0 ∷ [])) ∷ node.Simple (simple.Assign (record { targets = to_slot 1 ∷ to_slot 2 ∷ []; values = expr.ReceiveOk (slot 0) ∷ [] })) ∷ prints (slot 1 ∷ slot 2 ∷ []) ∷ node.Simple (simple.Send (slot 0) (int 1)) ∷ [])
    ∷ [])

zero_when_closed : ran closes ≡ record { output = codes "0 false\n"; end = Some (ends.Panic (codes "send on closed channel")) }
unfolding exact fault on_value on_flag on_number on_text on_channel calculated compared indexed a_text cut_text measured made closed_by closed written printed locked unlocked set_number added waited has branch each decided matched compare assign constant pushed digits encode step act_of put lone apply replay_from value_of wrap first_rune Rattle.go_meaning.specs.declared.expr.Expr.TheViews.out-Expr denote.Hole.Carrier.out Rattle.go_meaning.specs.declared.expr.Expr.TheBlock.shown-the_row-Expr-1 denote.Hole.Carrier.shown denote.Hole.Carrier.hidden
zero_when_closed = refl

-- c := make(chan int); c <- 1: no goroutine has a step
abbrev blocks : Parts
blocks = program 1 [] ((node.Simple (sets 0 (make None)) ∷ node.Simple (simple.Send (slot 0) (int 1)) ∷ []) ∷ [])

abbrev blocked : Config
blocked = run_on blocks 20 (start blocks)

both_none : {A B : Type 0} (b : Bool) (f : A → B) (o : Option A) → o ≡ None → cond b None (option_map f o) ≡ None
both_none true f o e = refl
both_none false f o e = ap (option_map f) e

no_partner : (i k j q : ℕ) → together blocks blocked k q (slice_get blocked.goroutines i) (slice_get blocked.goroutines j) ≡ None
unfolding exact fault on_value on_flag on_number on_text on_channel calculated compared indexed a_text cut_text measured made closed_by closed written printed locked unlocked set_number added waited has branch each decided matched compare assign constant pushed digits encode step act_of put lone apply replay_from value_of wrap first_rune Rattle.go_meaning.specs.declared.expr.Expr.TheViews.out-Expr denote.Hole.Carrier.out Rattle.go_meaning.specs.declared.expr.Expr.TheBlock.shown-the_row-Expr-1 denote.Hole.Carrier.shown denote.Hole.Carrier.hidden
no_partner zero zero zero zero = refl
no_partner zero zero zero (suc q) = refl
no_partner zero zero (suc zero) zero = refl
no_partner zero zero (suc zero) (suc q) = refl
no_partner zero zero (suc (suc j)) zero = refl
no_partner zero zero (suc (suc j)) (suc q) = refl
no_partner zero (suc k) j q = refl
no_partner (suc zero) zero j q = refl
no_partner (suc zero) (suc k) j q = refl
no_partner (suc (suc i)) zero j q = refl
no_partner (suc (suc i)) (suc k) j q = refl

deadlock : IsDead blocks blocked
unfolding exact fault on_value on_flag on_number on_text on_channel calculated compared indexed a_text cut_text measured made closed_by closed written printed locked unlocked set_number added waited has branch each decided matched compare assign constant pushed digits encode step act_of put lone apply replay_from value_of wrap first_rune Rattle.go_meaning.specs.declared.expr.Expr.TheViews.out-Expr denote.Hole.Carrier.out Rattle.go_meaning.specs.declared.expr.Expr.TheBlock.shown-the_row-Expr-1 denote.Hole.Carrier.shown denote.Hole.Carrier.hidden
deadlock (Step zero k p q) = refl
deadlock (Step (suc zero) zero zero zero) = refl
deadlock (Step (suc zero) (suc k) zero zero) = refl
deadlock (Step (suc (suc zero)) k zero zero) = refl
deadlock (Step (suc (suc (suc i))) k zero zero) = refl
deadlock (Step (suc i) k zero (suc q)) = refl
deadlock (Step (suc i) k (suc j) q) = both_none (i == j) (arrive_both blocked i j) (together blocks blocked k q (slice_get blocked.goroutines i) (slice_get blocked.goroutines j)) (no_partner i k j q)
deadlock (Count zero u) = refl
deadlock (Count (suc zero) u) = refl
deadlock (Count (suc (suc zero)) u) = refl
deadlock (Count (suc (suc (suc i))) u) = refl
