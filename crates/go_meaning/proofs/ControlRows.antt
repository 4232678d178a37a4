-- Small programs of statements, calls and panics, run step by step.
use Rattle.std.proofs.Common.{◌≡◌, true, [], ◌∷◌, Some, None, refl}
use Rattle.std.specs.Fmt.{digits}
use lib.Utf8.{encode}
use Rattle.std.specs.Prelude.{codes, pos}
use Rattle.go_meaning.specs.declared.expr.Expr.{Expr}
use Rattle.go_meaning.specs.declared.expr.Expr.TheVariants as expr
use Rattle.go_meaning.specs.declared.expr.Op.TheVariants as op
use Rattle.go_meaning.specs.declared.node.NodeForm.TheVariants as node
use Rattle.go_meaning.specs.declared.node.Simple.TheVariants as simple
use Rattle.go_meaning.specs.declared.event.End.TheVariants as ends
use Rattle.go_meaning.specs.declared.expr.Variable.TheVariants.{Slot}
use Rattle.go_meaning.specs.declared.expr.Target.TheVariants as target
use Rattle.go_meaning.specs.declared.expr.Relation.TheVariants as relation
use Rattle.go_meaning.specs.declared.node.Deferral.TheVariants as deferral
use Rattle.go_value.specs.Integers.{value_of, wrap}
use Rattle.go_meaning.specs.Values.{first_rune}
use Rattle.go_meaning.specs.Histories.{replay_from}
use Rattle.go_meaning.specs.Programs.{Parts}
use Rattle.go_meaning.specs.Operations.{apply, on_value, on_flag, on_number, on_text, on_channel, calculated, compared, indexed, a_text, cut_text, measured, made, closed_by, closed, written, printed, locked, unlocked, set_number, added, waited}
use Rattle.go_meaning.specs.Acts.{act_of, has, branch, each, decided, matched, compare, assign, constant, pushed}
use Rattle.go_meaning.specs.Moves.{put}
use Rattle.go_meaning.specs.Channels.{lone}
use Rattle.go_meaning.specs.Steps.{step}
use Rattle.go_meaning.proofs.Small.{program, println, int, text, slot, to_slot, steps, ran, replayed, prints, does, sets, stops}
use Rattle.go_value.specs.declared.operation.IntOp.TheVariants.{Add}
use Rattle.go_value.specs.Operations.{exact, fault}

-- fmt.Println("a"): 8 steps, and not 7
abbrev prints_a : Parts
prints_a = program 0 [] ((println (text (codes "a")) ∷ []) ∷ [])

one_line : replayed prints_a (steps 8 1) ≡ Some (record { output = codes "a\n"; end = Some ends.Returned })
unfolding on_value on_flag on_number on_text on_channel calculated compared indexed a_text cut_text measured made closed_by closed written printed locked unlocked set_number added waited has branch each decided matched compare assign constant pushed digits encode step act_of put lone apply replay_from value_of wrap first_rune Rattle.go_meaning.specs.declared.expr.Expr.TheViews.out-Expr denote.Hole.Carrier.out Rattle.go_meaning.specs.declared.expr.Expr.TheBlock.shown-the_row-Expr-1 denote.Hole.Carrier.shown denote.Hole.Carrier.hidden
one_line = refl

not_before : replayed prints_a (steps 7 1) ≡ Some (record { output = codes "a\n"; end = None })
unfolding on_value on_flag on_number on_text on_channel calculated compared indexed a_text cut_text measured made closed_by closed written printed locked unlocked set_number added waited has branch each decided matched compare assign constant pushed digits encode step act_of put lone apply replay_from value_of wrap first_rune Rattle.go_meaning.specs.declared.expr.Expr.TheViews.out-Expr denote.Hole.Carrier.out Rattle.go_meaning.specs.declared.expr.Expr.TheBlock.shown-the_row-Expr-1 denote.Hole.Carrier.shown denote.Hole.Carrier.hidden
not_before = refl

-- for i, r := range "ab" { if i == 1 { break }; fmt.Println(r) }; fmt.Println(9)
abbrev pub ranges : Parts
ranges = program 2 [] (
    (node.RangeText (to_slot 0) (to_slot 1) (text (codes "ab")) 1 ∷ println (int 9) ∷ [])
    ∷ (node.If None (expr.Apply (op.Compare relation.Equal) (slot 0 ∷ int 1 ∷ [])) 2 None ∷ println (slot 1) ∷ [])
    ∷ (node.Break 0 ∷ [])
    ∷ [])

breaks_out : ran ranges ≡ record { output = codes "97\n9\n"; end = Some ends.Returned }
unfolding on_value on_flag on_number on_text on_channel calculated compared indexed a_text cut_text measured made closed_by closed written printed locked unlocked set_number added waited has branch each decided matched compare assign constant pushed digits encode step act_of put lone apply replay_from value_of wrap first_rune Rattle.go_meaning.specs.declared.expr.Expr.TheViews.out-Expr denote.Hole.Carrier.out Rattle.go_meaning.specs.declared.expr.Expr.TheBlock.shown-the_row-Expr-1 denote.Hole.Carrier.shown denote.Hole.Carrier.hidden
breaks_out = refl

-- switch 2 { case 1: fmt.Println(1); case 2: fmt.Println(2); fallthrough; default: fmt.Println(3) }
abbrev switches : Parts
switches = program 0 [] (
    (node.Switch None (int 2) (record { values = Some (int 1 ∷ []); list = 1 } ∷ record { values = Some (int 2 ∷ []); list = 2 } ∷ record { values = None; list = 3 } ∷ []) ∷ [])
    ∷ (println (int 1) ∷ [])
    ∷ (println (int 2) ∷ node.Fallthrough 3 ∷ [])
    ∷ (println (int 3) ∷ [])
    ∷ [])

falls_through : ran switches ≡ record { output = codes "2\n3\n"; end = Some ends.Returned }
unfolding on_value on_flag on_number on_text on_channel calculated compared indexed a_text cut_text measured made closed_by closed written printed locked unlocked set_number added waited has branch each decided matched compare assign constant pushed digits encode step act_of put lone apply replay_from value_of wrap first_rune Rattle.go_meaning.specs.declared.expr.Expr.TheViews.out-Expr denote.Hole.Carrier.out Rattle.go_meaning.specs.declared.expr.Expr.TheBlock.shown-the_row-Expr-1 denote.Hole.Carrier.shown denote.Hole.Carrier.hidden
falls_through = refl

-- defer fmt.Println(1); defer fmt.Println(2); panic("x")
abbrev defers : Parts
defers = program 0 [] (
    (node.Defer (deferral.Println 1) (int 1 ∷ []) ∷ node.Defer (deferral.Println 1) (int 2 ∷ []) ∷ node.Simple (simple.Eval (expr.Apply op.Panic (text (codes "x") ∷ [])) 0 true) ∷ [])
    ∷ [])

last_deferred_first : ran defers ≡ record { output = codes "2\n1\n"; end = Some (ends.Panic (codes "x")) }
unfolding on_value on_flag on_number on_text on_channel calculated compared indexed a_text cut_text measured made closed_by closed written printed locked unlocked set_number added waited has branch each decided matched compare assign constant pushed digits encode step act_of put lone apply replay_from value_of wrap first_rune Rattle.go_meaning.specs.declared.expr.Expr.TheViews.out-Expr denote.Hole.Carrier.out Rattle.go_meaning.specs.declared.expr.Expr.TheBlock.shown-the_row-Expr-1 denote.Hole.Carrier.shown denote.Hole.Carrier.hidden
last_deferred_first = refl

-- for i := 0; i < 3; i++ { fmt.Println(i) }
abbrev loops : Parts
loops = program 1 [] (
    (node.For (Some (sets 0 (int 0))) (Some (expr.Apply (op.Compare relation.Less) (slot 0 ∷ int 3 ∷ []))) (Some (simple.Update (Slot 0) (op.Arithmetic Add) (int 1))) 1 ∷ [])
    ∷ (println (slot 0) ∷ [])
    ∷ [])

goes_round : ran loops ≡ record { output = codes "0\n1\n2\n"; end = Some ends.Returned }
unfolding exact fault on_value on_flag on_number on_text on_channel calculated compared indexed a_text cut_text measured made closed_by closed written printed locked unlocked set_number added waited has branch each decided matched compare assign constant pushed digits encode step act_of put lone apply replay_from value_of wrap first_rune Rattle.go_meaning.specs.declared.expr.Expr.TheViews.out-Expr denote.Hole.Carrier.out Rattle.go_meaning.specs.declared.expr.Expr.TheBlock.shown-the_row-Expr-1 denote.Hole.Carrier.shown denote.Hole.Carrier.hidden
goes_round = refl

-- outer: for i := range "ab" { for j := range "cd" { if j == 1 { continue outer }; fmt.Println(i, j) } }
abbrev nested : Parts
nested = program 2 [] (
    (node.RangeText (to_slot 0) target.Blank (text (codes "ab")) 1 ∷ [])
    ∷ (node.RangeText (to_slot 1) target.Blank (text (codes "cd")) 2 ∷ [])
    ∷ (node.If None (expr.Apply (op.Compare relation.Equal) (slot 1 ∷ int 1 ∷ [])) 3 None ∷ prints (slot 0 ∷ slot 1 ∷ []) ∷ [])
    ∷ (node.Continue 1 ∷ [])
    ∷ [])

continues_outside : ran nested ≡ record { output = codes "0 0\n1 0\n"; end = Some ends.Returned }
unfolding exact fault on_value on_flag on_number on_text on_channel calculated compared indexed a_text cut_text measured made closed_by closed written printed locked unlocked set_number added waited has branch each decided matched compare assign constant pushed digits encode step act_of put lone apply replay_from value_of wrap first_rune Rattle.go_meaning.specs.declared.expr.Expr.TheViews.out-Expr denote.Hole.Carrier.out Rattle.go_meaning.specs.declared.expr.Expr.TheBlock.shown-the_row-Expr-1 denote.Hole.Carrier.shown denote.Hole.Carrier.hidden
continues_outside = refl

-- func f() int { panic("second") }; defer f(); panic("first")
abbrev panics : Parts
panics = program 0 (record { name = codes "f"; params = 0; results = 1; slots = 0; body = 1 } ∷ []) (
    (node.Defer (deferral.Call 1) [] ∷ stops (codes "first") ∷ [])
    ∷ (stops (codes "second") ∷ [])
    ∷ [])

second_panic : ran panics ≡ record { output = []; end = Some (ends.Panic (codes "second")) }
unfolding exact fault on_value on_flag on_number on_text on_channel calculated compared indexed a_text cut_text measured made closed_by closed written printed locked unlocked set_number added waited has branch each decided matched compare assign constant pushed digits encode step act_of put lone apply replay_from value_of wrap first_rune Rattle.go_meaning.specs.declared.expr.Expr.TheViews.out-Expr denote.Hole.Carrier.out Rattle.go_meaning.specs.declared.expr.Expr.TheBlock.shown-the_row-Expr-1 denote.Hole.Carrier.shown denote.Hole.Carrier.hidden
second_panic = refl

-- func f(x int) (int, int) { defer fmt.Println(x); return x, 2 }; a, b := f(1); fmt.Println(a, b); os.Exit(3)
abbrev calls : Parts
calls = program 2 (record { name = codes "f"; params = 1; results = 2; slots = 1; body = 1 } ∷ []) (
    (node.Simple (simple.Assign (record { targets = to_slot 0 ∷ to_slot 1 ∷ []; values = expr.Call 1 (int 1 ∷ []) ∷ [] })) ∷ prints (slot 0 ∷ slot 1 ∷ []) ∷ does (expr.Apply op.Exit (int 3 ∷ [])) ∷ [])
    ∷ (node.Defer (deferral.Println 1) (slot 0 ∷ []) ∷ node.Return (slot 0 ∷ int 2 ∷ []) 2 ∷ [])
    ∷ [])

returns_two : ran calls ≡ record { output = codes "1\n1 2\n"; end = Some (ends.Exit (pos 3)) }
unfolding exact fault on_value on_flag on_number on_text on_channel calculated compared indexed a_text cut_text measured made closed_by closed written printed locked unlocked set_number added waited has branch each decided matched compare assign constant pushed digits encode step act_of put lone apply replay_from value_of wrap first_rune Rattle.go_meaning.specs.declared.expr.Expr.TheViews.out-Expr denote.Hole.Carrier.out Rattle.go_meaning.specs.declared.expr.Expr.TheBlock.shown-the_row-Expr-1 denote.Hole.Carrier.shown denote.Hole.Carrier.hidden
returns_two = refl
