-- Small programs of integers, texts and locks, run step by step.
use Rattle.std.proofs.Common.{◌≡◌, true, false, [], ◌∷◌, Some, refl}
use Rattle.std.specs.Fmt.{digits}
use lib.Utf8.{encode}
use Rattle.std.specs.Prelude.{codes, negsuc}
use Rattle.go_meaning.specs.declared.value.Value.TheVariants as value
use Rattle.go_meaning.specs.declared.expr.Expr.{Expr}
use Rattle.go_meaning.specs.declared.expr.Expr.TheVariants as expr
use Rattle.go_meaning.specs.declared.expr.Op.TheVariants as op
use Rattle.go_meaning.specs.declared.node.NodeForm.TheVariants as node
use Rattle.go_meaning.specs.declared.event.End.TheVariants as ends
use Rattle.go_meaning.specs.declared.expr.Relation.TheVariants as relation
use Rattle.go_value.specs.Integers.{value_of, wrap}
use Rattle.go_meaning.specs.Values.{first_rune}
use Rattle.go_meaning.specs.Histories.{replay_from}
use Rattle.go_meaning.specs.Programs.{Parts}
use Rattle.go_meaning.specs.Operations.{number, apply, on_value, on_flag, on_number, on_text, on_channel, calculated, compared, indexed, a_text, cut_text, measured, made, closed_by, closed, written, printed, locked, unlocked, set_number, added, waited}
use Rattle.go_meaning.specs.Acts.{act_of, has, branch, each, decided, matched, compare, assign, constant, pushed}
use Rattle.go_meaning.specs.Moves.{put}
use Rattle.go_meaning.specs.Channels.{lone}
use Rattle.go_meaning.specs.Steps.{step}
use Rattle.go_meaning.proofs.Small.{program, println, int, text, slot, to_slot, ran, prints, does, sets}
use Rattle.go_value.specs.declared.operation.IntOp.TheVariants.{Div, Rem}
use Rattle.go_value.specs.Operations.{exact, fault}
use Rattle.go_meaning.specs.declared.program.Global.TheVariants as global

-- for i, r := range "\xff\xc3\xa9" { fmt.Println(i, r) }
abbrev invalid : Parts
invalid = program 2 [] ((node.RangeText (to_slot 0) (to_slot 1) (text (255 ∷ 195 ∷ 169 ∷ [])) 1 ∷ []) ∷ (prints (slot 0 ∷ slot 1 ∷ []) ∷ []) ∷ [])

reads_invalid : ran invalid ≡ record { output = codes "0 65533\n1 233\n"; end = Some ends.Returned }
unfolding exact fault on_value on_flag on_number on_text on_channel calculated compared indexed a_text cut_text measured made closed_by closed written printed locked unlocked set_number added waited has branch each decided matched compare assign constant pushed digits encode step act_of put lone apply replay_from value_of wrap first_rune Rattle.go_meaning.specs.declared.expr.Expr.TheViews.out-Expr denote.Hole.Carrier.out Rattle.go_meaning.specs.declared.expr.Expr.TheBlock.shown-the_row-Expr-1 denote.Hole.Carrier.shown denote.Hole.Carrier.hidden
reads_invalid = refl

-- x := -9223372036854775808; y := -1; fmt.Println(x / y, x % y); y = 0; fmt.Println(x / y)
abbrev divides : Parts
divides = program 2 [] (
    (node.Simple (sets 0 (expr.Value (number (negsuc 9223372036854775807)))) ∷ node.Simple (sets 1 (expr.Value (number (negsuc 0)))) ∷ prints (expr.Apply (op.Arithmetic Div) (slot 0 ∷ slot 1 ∷ []) ∷ expr.Apply (op.Arithmetic Rem) (slot 0 ∷ slot 1 ∷ []) ∷ []) ∷ node.Simple (sets 1 (int 0)) ∷ println (expr.Apply (op.Arithmetic Div) (slot 0 ∷ slot 1 ∷ [])) ∷ [])
    ∷ [])

least_by_minus_one : ran divides ≡ record { output = codes "-9223372036854775808 0\n"; end = Some (ends.Panic (codes "runtime error: integer divide by zero")) }
unfolding exact fault on_value on_flag on_number on_text on_channel calculated compared indexed a_text cut_text measured made closed_by closed written printed locked unlocked set_number added waited has branch each decided matched compare assign constant pushed digits encode step act_of put lone apply replay_from value_of wrap first_rune Rattle.go_meaning.specs.declared.expr.Expr.TheViews.out-Expr denote.Hole.Carrier.out Rattle.go_meaning.specs.declared.expr.Expr.TheBlock.shown-the_row-Expr-1 denote.Hole.Carrier.shown denote.Hole.Carrier.hidden
least_by_minus_one = refl

-- fmt.Println("abcd"[1:3], "abc"[1], false && "abc"[7] == 0)
abbrev texts : Parts
texts = program 0 [] ((prints (expr.Apply (op.Cut true true) (text (codes "abcd") ∷ int 1 ∷ int 3 ∷ []) ∷ expr.Apply op.Index (text (codes "abc") ∷ int 1 ∷ []) ∷ expr.And (expr.Value (value.Flag false)) (expr.Apply (op.Compare relation.Equal) (expr.Apply op.Index (text (codes "abc") ∷ int 7 ∷ []) ∷ int 0 ∷ [])) ∷ []) ∷ []) ∷ [])

cuts_and_skips : ran texts ≡ record { output = codes "bc 98 false\n"; end = Some ends.Returned }
unfolding exact fault on_value on_flag on_number on_text on_channel calculated compared indexed a_text cut_text measured made closed_by closed written printed locked unlocked set_number added waited has branch each decided matched compare assign constant pushed digits encode step act_of put lone apply replay_from value_of wrap first_rune Rattle.go_meaning.specs.declared.expr.Expr.TheViews.out-Expr denote.Hole.Carrier.out Rattle.go_meaning.specs.declared.expr.Expr.TheBlock.shown-the_row-Expr-1 denote.Hole.Carrier.shown denote.Hole.Carrier.hidden
cuts_and_skips = refl

-- var mu sync.Mutex; var wg sync.WaitGroup; mu.Lock(); mu.Unlock(); wg.Add(1); wg.Done(); wg.Wait(); mu.Unlock()
abbrev locks : Parts
locks = record (program 0 [] (
    (does (expr.Apply (op.Lock 0) []) ∷ does (expr.Apply (op.Unlock 0) []) ∷ does (expr.Apply (op.Add 0) (int 1 ∷ [])) ∷ does (expr.Apply (op.Done 0) []) ∷ does (expr.Apply (op.Wait 0) []) ∷ does (expr.Apply (op.Unlock 0) []) ∷ [])
    ∷ [])) { globals = global.Mutex ∷ global.Group ∷ [] }

unlocks_free : ran locks ≡ record { output = []; end = Some (ends.Fatal (codes "sync: unlock of unlocked mutex")) }
unfolding exact fault on_value on_flag on_number on_text on_channel calculated compared indexed a_text cut_text measured made closed_by closed written printed locked unlocked set_number added waited has branch each decided matched compare assign constant pushed digits encode step act_of put lone apply replay_from value_of wrap first_rune Rattle.go_meaning.specs.declared.expr.Expr.TheViews.out-Expr denote.Hole.Carrier.out Rattle.go_meaning.specs.declared.expr.Expr.TheBlock.shown-the_row-Expr-1 denote.Hole.Carrier.shown denote.Hole.Carrier.hidden
unlocks_free = refl
