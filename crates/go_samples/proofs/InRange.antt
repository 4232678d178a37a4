-- The numbers of the programs are in range, and their lists stand in order.
use Rattle.std.proofs.Common.{◌≡◌, ℕ, zero, suc, ◌≤◌, List, [], ◌∷◌, refl, sym, ap₂, subst, arith, ℤ, pos, ◌++◌}
use Rattle.std.specs.Prelude.{slice_get, codes}
use Rattle.std.specs.Option.{MatchOption}
use Rattle.go_meaning.specs.declared.node.Node.{Node}
use Rattle.go_meaning.specs.declared.program.Function.{Function}
use Rattle.go_meaning.specs.Programs.{Parts, form_at}
use Rattle.go_meaning.specs.Lists.{cutting_order}
use Rattle.go_meaning.specs.declared.value.Value.{Value}
use Rattle.go_meaning.specs.declared.expr.Expr.{Expr, fold_out-Expr}
use Rattle.go_meaning.specs.declared.expr.Expr.TheVariants as expr
use Rattle.go_meaning.specs.declared.expr.Op.{Op}
use Rattle.go_meaning.specs.declared.expr.Op.TheVariants as op
use Rattle.go_meaning.specs.declared.expr.Variable.TheVariants.{Slot}
use Rattle.go_meaning.specs.WellFormed.{IsProgram, IsStatement, Use, variable, group, function, uses, uses_layer, uses_of_op, uses_of_form, AreThere}
use Rattle.go_samples.specs.Samples.{program, main_function, two_functions, slot, int, applied, make, sending, counts_to, counting, spinning, turning, turning_functions, text, starts, shows_length, adds, doubling, program_with_group, working_functions, working, does, calls, adds_two}

abbrev AreStatements : Parts → Type 0
AreStatements P = (k i : ℕ) → MatchOption (slice_get (cutting_order P) k) (Unit {0}) (λ at. MatchOption (form_at P at.list i) (Unit {0}) (IsStatement P at))

spinning_statements : AreStatements (program two_functions spinning)
unfolding uses
spinning_statements zero zero = record { uses = (omega arith, tt); within = tt }
spinning_statements zero (suc zero) = record { uses = tt; within = tt }
spinning_statements zero (suc (suc i)) = tt
spinning_statements (suc zero) zero = tt
spinning_statements (suc zero) (suc i) = tt
spinning_statements (suc (suc zero)) zero = record { uses = tt; within = tt }
spinning_statements (suc (suc zero)) (suc i) = tt
spinning_statements (suc (suc (suc zero))) zero = tt
spinning_statements (suc (suc (suc zero))) (suc i) = tt
spinning_statements (suc (suc (suc (suc k)))) i = tt

spinning_ok : IsProgram (program two_functions spinning)
spinning_ok = record {
  ordered = refl;
  statements = spinning_statements;
  params = params;
  main = omega arith;
  packages = refl;
}
  where
    params : (f : ℕ) → MatchOption (slice_get two_functions f) (Unit {0}) (λ (g : Function). g.params ≤ g.slots)
    params zero = omega arith
    params (suc zero) = omega arith
    params (suc (suc f)) = tt

pub spinning_is : (fs : List Function) (ls : List (List Node)) → fs ≡ two_functions → ls ≡ spinning → IsProgram (program fs ls)
spinning_is fs ls e f = subst IsProgram (ap₂ program (sym e) (sym f)) spinning_ok

-- ---- what an expression uses

uses_value : (v : Value) → uses (expr.Value v) ≡ []
unfolding uses Rattle.go_meaning.specs.declared.expr.Expr.TheViews.out-Expr denote.Hole.Carrier.out Rattle.go_meaning.specs.declared.expr.Expr.TheBlock.shown-the_row-Expr-1 denote.Hole.Carrier.shown denote.Hole.Carrier.hidden
uses_value v = fold_out-Expr (List Use) uses_layer (expr.Value v)

uses_slot : (s : ℕ) → uses (slot s) ≡ variable (Slot s) ∷ []
unfolding uses Rattle.go_meaning.specs.declared.expr.Expr.TheViews.out-Expr denote.Hole.Carrier.out Rattle.go_meaning.specs.declared.expr.Expr.TheBlock.shown-the_row-Expr-1 denote.Hole.Carrier.shown denote.Hole.Carrier.hidden
uses_slot s = fold_out-Expr (List Use) uses_layer (slot s)

uses_none : (o : Op) → uses (applied o []) ≡ uses_of_op o ++ []
unfolding uses Rattle.go_meaning.specs.declared.expr.Expr.TheViews.out-Expr denote.Hole.Carrier.out Rattle.go_meaning.specs.declared.expr.Expr.TheBlock.shown-the_row-Expr-1 denote.Hole.Carrier.shown denote.Hole.Carrier.hidden
uses_none o = fold_out-Expr (List Use) uses_layer (applied o [])

uses_one : (o : Op) (a : Expr) → uses (applied o (a ∷ [])) ≡ uses_of_op o ++ (uses a ++ [])
unfolding uses Rattle.go_meaning.specs.declared.expr.Expr.TheViews.out-Expr denote.Hole.Carrier.out Rattle.go_meaning.specs.declared.expr.Expr.TheBlock.shown-the_row-Expr-1 denote.Hole.Carrier.shown denote.Hole.Carrier.hidden
uses_one o a = fold_out-Expr (List Use) uses_layer (applied o (a ∷ []))

uses_two : (o : Op) (a b : Expr) → uses (applied o (a ∷ b ∷ [])) ≡ uses_of_op o ++ (uses a ++ (uses b ++ []))
unfolding uses Rattle.go_meaning.specs.declared.expr.Expr.TheViews.out-Expr denote.Hole.Carrier.out Rattle.go_meaning.specs.declared.expr.Expr.TheBlock.shown-the_row-Expr-1 denote.Hole.Carrier.shown denote.Hole.Carrier.hidden
uses_two o a b = fold_out-Expr (List Use) uses_layer (applied o (a ∷ b ∷ []))

there : (P : Parts) (slots : ℕ) (us vs : List Use) → us ≡ vs → AreThere P slots vs → AreThere P slots us
there P slots us vs e h = subst (AreThere P slots) (sym e) h

make_uses : uses_of_form make ≡ variable (Slot 0) ∷ []
make_uses = simp uses_none

send_uses : uses (slot 0) ++ uses (int (pos 1)) ≡ variable (Slot 0) ∷ []
send_uses = simp (uses_value, uses_slot)

counts_uses : (n : ℤ) (body : ℕ) → uses_of_form (counts_to n body) ≡ variable (Slot 0) ∷ variable (Slot 0) ∷ variable (Slot 0) ∷ variable (Slot 0) ∷ []
counts_uses n body = simp (uses_value, uses_slot, uses_two)

sending_statements : AreStatements (program (main_function 1 ∷ []) sending)
sending_statements zero zero = record { uses = there (program (main_function 1 ∷ []) sending) 1 _ _ make_uses (omega arith, tt); within = tt }
sending_statements zero (suc zero) = record { uses = there (program (main_function 1 ∷ []) sending) 1 _ _ send_uses (omega arith, tt); within = tt }
sending_statements zero (suc (suc i)) = tt
sending_statements (suc k) i = tt

one_params : (f : ℕ) → MatchOption (slice_get (main_function 1 ∷ []) f) (Unit {0}) (λ (g : Function). g.params ≤ g.slots)
one_params zero = omega arith
one_params (suc f) = tt

pub sending_is : (fs : List Function) (ls : List (List Node)) → fs ≡ main_function 1 ∷ [] → ls ≡ sending → IsProgram (program fs ls)
sending_is fs ls e f = subst IsProgram (ap₂ program (sym e) (sym f)) (record { ordered = refl; statements = sending_statements; params = one_params; main = omega arith; packages = refl })

counting_statements : (n : ℤ) → AreStatements (program (main_function 1 ∷ []) (counting n))
counting_statements n zero zero = record { uses = there (program (main_function 1 ∷ []) (counting n)) 1 _ _ (counts_uses n 1) (omega arith, (omega arith, (omega arith, (omega arith, tt)))); within = tt }
counting_statements n zero (suc i) = tt
counting_statements n (suc zero) zero = tt
counting_statements n (suc zero) (suc i) = tt
counting_statements n (suc (suc k)) i = tt

pub counting_is : (n : ℤ) (fs : List Function) (ls : List (List Node)) → fs ≡ main_function 1 ∷ [] → ls ≡ counting n → IsProgram (program fs ls)
counting_is n fs ls e f = subst IsProgram (ap₂ program (sym e) (sym f)) (record { ordered = refl; statements = counting_statements n; params = one_params; main = omega arith; packages = refl })

starts_uses : uses_of_form starts ≡ variable (Slot 1) ∷ []
starts_uses = simp uses_value

shows_uses : uses_of_form shows_length ≡ variable (Slot 1) ∷ []
shows_uses = simp (uses_slot, uses_one)

adds_text : uses_of_form (adds (text (codes "a"))) ≡ variable (Slot 1) ∷ variable (Slot 1) ∷ []
adds_text = simp (uses_value, uses_slot, uses_two)

adds_itself : uses_of_form (adds (slot 1)) ≡ variable (Slot 1) ∷ variable (Slot 1) ∷ variable (Slot 1) ∷ []
adds_itself = simp (uses_slot, uses_two)

doubling_statements : AreStatements (program (main_function 2 ∷ []) doubling)
doubling_statements zero zero = record { uses = there (program (main_function 2 ∷ []) doubling) 2 _ _ starts_uses (omega arith, tt); within = tt }
doubling_statements zero (suc zero) = record { uses = there (program (main_function 2 ∷ []) doubling) 2 _ _ (counts_uses (pos 20) 1) (omega arith, (omega arith, (omega arith, (omega arith, tt)))); within = tt }
doubling_statements zero (suc (suc zero)) = record { uses = there (program (main_function 2 ∷ []) doubling) 2 _ _ shows_uses (omega arith, tt); within = tt }
doubling_statements zero (suc (suc (suc zero))) = record { uses = there (program (main_function 2 ∷ []) doubling) 2 _ _ adds_text (omega arith, (omega arith, tt)); within = tt }
doubling_statements zero (suc (suc (suc (suc i)))) = tt
doubling_statements (suc zero) zero = record { uses = there (program (main_function 2 ∷ []) doubling) 2 _ _ adds_itself (omega arith, (omega arith, (omega arith, tt))); within = tt }
doubling_statements (suc zero) (suc i) = tt
doubling_statements (suc (suc k)) i = tt

two_params : (f : ℕ) → MatchOption (slice_get (main_function 2 ∷ []) f) (Unit {0}) (λ (g : Function). g.params ≤ g.slots)
two_params zero = omega arith
two_params (suc f) = tt

pub doubling_is : (fs : List Function) (ls : List (List Node)) → fs ≡ main_function 2 ∷ [] → ls ≡ doubling → IsProgram (program fs ls)
doubling_is fs ls e f = subst IsProgram (ap₂ program (sym e) (sym f)) (record { ordered = refl; statements = doubling_statements; params = two_params; main = omega arith; packages = refl })

-- ---- two goroutines that take turns

abbrev turns : Parts
turns = program turning_functions turning

turning_statements : AreStatements turns
turning_statements zero zero = record { uses = (omega arith, tt); within = tt }
turning_statements zero (suc zero) = record { uses = there turns 1 _ _ (counts_uses (pos 76) 1) (omega arith, (omega arith, (omega arith, (omega arith, tt)))); within = tt }
turning_statements zero (suc (suc zero)) = record { uses = tt; within = omega arith }
turning_statements zero (suc (suc (suc i))) = tt
turning_statements (suc zero) zero = tt
turning_statements (suc zero) (suc i) = tt
turning_statements (suc (suc zero)) zero = record { uses = there turns 1 _ _ (counts_uses (pos 76) 3) (omega arith, (omega arith, (omega arith, (omega arith, tt)))); within = tt }
turning_statements (suc (suc zero)) (suc zero) = record { uses = tt; within = tt }
turning_statements (suc (suc zero)) (suc (suc i)) = tt
turning_statements (suc (suc (suc zero))) zero = tt
turning_statements (suc (suc (suc zero))) (suc i) = tt
turning_statements (suc (suc (suc (suc k)))) i = tt

turning_params : (f : ℕ) → MatchOption (slice_get turning_functions f) (Unit {0}) (λ (g : Function). g.params ≤ g.slots)
turning_params zero = omega arith
turning_params (suc zero) = omega arith
turning_params (suc (suc f)) = tt

pub turning_is : (fs : List Function) (ls : List (List Node)) → fs ≡ turning_functions → ls ≡ turning → IsProgram (program fs ls)
turning_is fs ls e f = subst IsProgram (ap₂ program (sym e) (sym f)) (record { ordered = refl; statements = turning_statements; params = turning_params; main = omega arith; packages = refl })

-- ---- two workers

uses_call : (f : ℕ) → uses (expr.Call f []) ≡ function f ∷ []
unfolding uses Rattle.go_meaning.specs.declared.expr.Expr.TheViews.out-Expr denote.Hole.Carrier.out Rattle.go_meaning.specs.declared.expr.Expr.TheBlock.shown-the_row-Expr-1 denote.Hole.Carrier.shown denote.Hole.Carrier.hidden
uses_call f = fold_out-Expr (List Use) uses_layer (expr.Call f [])

abbrev works : Parts
works = program_with_group 2 working_functions working

done_uses : uses_of_form (does (op.Done 0) []) ≡ group 0 ∷ []
done_uses = simp uses_none

call_uses : uses_of_form (calls 1) ≡ function 1 ∷ []
call_uses = simp uses_call

adds_uses : uses_of_form adds_two ≡ group 0 ∷ []
adds_uses = simp (uses_value, uses_one)

wait_uses : uses_of_form (does (op.Wait 0) []) ≡ group 0 ∷ []
wait_uses = simp uses_none

working_statements : AreStatements works
working_statements zero zero = record { uses = there works 1 _ _ (counts_uses (pos 1000) 1) (omega arith, (omega arith, (omega arith, (omega arith, tt)))); within = tt }
working_statements zero (suc zero) = record { uses = there works 1 _ _ done_uses (omega arith, tt); within = tt }
working_statements zero (suc (suc i)) = tt
working_statements (suc zero) zero = record { uses = there works 1 _ _ call_uses (omega arith, tt); within = tt }
working_statements (suc zero) (suc i) = tt
working_statements (suc (suc zero)) zero = tt
working_statements (suc (suc zero)) (suc i) = tt
working_statements (suc (suc (suc zero))) zero = record { uses = there works 0 _ _ adds_uses (omega arith, tt); within = tt }
working_statements (suc (suc (suc zero))) (suc zero) = record { uses = (omega arith, tt); within = tt }
working_statements (suc (suc (suc zero))) (suc (suc zero)) = record { uses = (omega arith, tt); within = tt }
working_statements (suc (suc (suc zero))) (suc (suc (suc zero))) = record { uses = there works 0 _ _ wait_uses (omega arith, tt); within = tt }
working_statements (suc (suc (suc zero))) (suc (suc (suc (suc i)))) = tt
working_statements (suc (suc (suc (suc k)))) i = tt

three_params : (f : ℕ) → MatchOption (slice_get working_functions f) (Unit {0}) (λ (g : Function). g.params ≤ g.slots)
three_params zero = omega arith
three_params (suc zero) = omega arith
three_params (suc (suc zero)) = omega arith
three_params (suc (suc (suc f))) = tt

pub working_is : (fs : List Function) (ls : List (List Node)) → fs ≡ working_functions → ls ≡ working → IsProgram (program_with_group 2 fs ls)
working_is fs ls e f = subst IsProgram (ap₂ (program_with_group 2) (sym e) (sym f)) (record { ordered = refl; statements = working_statements; params = three_params; main = omega arith; packages = refl })
