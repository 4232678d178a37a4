-- The numbers of the programs are in range, and their lists stand in order.
use Rattle.std.proofs.Common.{◌≡◌, ℕ, zero, suc, ◌≤◌, List, [], ◌∷◌, refl, sym, ap₂, subst, arith, ℤ, pos, ◌++◌}
use Rattle.std.specs.Prelude.{slice_get, codes, true}
use Rattle.std.specs.Option.{MatchOption}
use Rattle.go_meaning.specs.declared.node.Node.{Node}
use Rattle.go_meaning.specs.declared.program.Function.{Function}
use Rattle.go_meaning.specs.Programs.{Parts, form_at}
use Rattle.go_meaning.specs.Lists.{cutting_order}
use Rattle.go_meaning.specs.declared.value.Value.{Value}
use Rattle.go_meaning.specs.declared.expr.Expr.{Expr, fold_out-Expr}
use Rattle.go_meaning.specs.declared.expr.Expr.TheVariants as expr
use Rattle.go_meaning.specs.declared.expr.Op.{Op}
use Rattle.go_meaning.specs.declared.expr.Op.TheVariants as op
use Rattle.go_meaning.specs.declared.expr.Variable.TheVariants.{Slot}
use Rattle.go_meaning.specs.WellFormed.{IsProgram, IsStatement, Use, variable, group, function, uses, uses_layer, uses_of_op, uses_of_form, AreThere}
use Rattle.go_samples.specs.Samples.{slot, int, text, applied, counts_to, program_with_group, working_functions, does, calls}
use Rattle.threads_rows.specs.Rows.{crowd, crowd_lists, adds_eight, adds_one, stuck, finishing, failing, panics, exits, leaving, leaving_lists, two_functions, waiting_main}

abbrev AreStatements : Parts → Type 0
AreStatements P = (k i : ℕ) → MatchOption (slice_get (cutting_order P) k) (Unit {0}) (λ at. MatchOption (form_at P at.list i) (Unit {0}) (IsStatement P at))

-- ---- what an expression uses

uses_value : (v : Value) → uses (expr.Value v) ≡ []
unfolding uses Rattle.go_meaning.specs.declared.expr.Expr.TheViews.out-Expr denote.Hole.Carrier.out Rattle.go_meaning.specs.declared.expr.Expr.TheBlock.shown-the_row-Expr-1 denote.Hole.Carrier.shown denote.Hole.Carrier.hidden
uses_value v = fold_out-Expr (List Use) uses_layer (expr.Value v)

uses_slot : (s : ℕ) → uses (slot s) ≡ variable (Slot s) ∷ []
unfolding uses Rattle.go_meaning.specs.declared.expr.Expr.TheViews.out-Expr denote.Hole.Carrier.out Rattle.go_meaning.specs.declared.expr.Expr.TheBlock.shown-the_row-Expr-1 denote.Hole.Carrier.shown denote.Hole.Carrier.hidden
uses_slot s = fold_out-Expr (List Use) uses_layer (slot s)

uses_none : (o : Op) → uses (applied o []) ≡ uses_of_op o ++ []
unfolding uses Rattle.go_meaning.specs.declared.expr.Expr.TheViews.out-Expr denote.Hole.Carrier.out Rattle.go_meaning.specs.declared.expr.Expr.TheBlock.shown-the_row-Expr-1 denote.Hole.Carrier.shown denote.Hole.Carrier.hidden
uses_none o = fold_out-Expr (List Use) uses_layer (applied o [])

uses_one : (o : Op) (a : Expr) → uses (applied o (a ∷ [])) ≡ uses_of_op o ++ (uses a ++ [])
unfolding uses Rattle.go_meaning.specs.declared.expr.Expr.TheViews.out-Expr denote.Hole.Carrier.out Rattle.go_meaning.specs.declared.expr.Expr.TheBlock.shown-the_row-Expr-1 denote.Hole.Carrier.shown denote.Hole.Carrier.hidden
uses_one o a = fold_out-Expr (List Use) uses_layer (applied o (a ∷ []))

uses_two : (o : Op) (a b : Expr) → uses (applied o (a ∷ b ∷ [])) ≡ uses_of_op o ++ (uses a ++ (uses b ++ []))
unfolding uses Rattle.go_meaning.specs.declared.expr.Expr.TheViews.out-Expr denote.Hole.Carrier.out Rattle.go_meaning.specs.declared.expr.Expr.TheBlock.shown-the_row-Expr-1 denote.Hole.Carrier.shown denote.Hole.Carrier.hidden
uses_two o a b = fold_out-Expr (List Use) uses_layer (applied o (a ∷ b ∷ []))

uses_call : (f : ℕ) → uses (expr.Call f []) ≡ function f ∷ []
unfolding uses Rattle.go_meaning.specs.declared.expr.Expr.TheViews.out-Expr denote.Hole.Carrier.out Rattle.go_meaning.specs.declared.expr.Expr.TheBlock.shown-the_row-Expr-1 denote.Hole.Carrier.shown denote.Hole.Carrier.hidden
uses_call f = fold_out-Expr (List Use) uses_layer (expr.Call f [])

there : (P : Parts) (slots : ℕ) (us vs : List Use) → us ≡ vs → AreThere P slots vs → AreThere P slots us
there P slots us vs e h = subst (AreThere P slots) (sym e) h

counts_uses : (n : ℤ) (body : ℕ) → uses_of_form (counts_to n body) ≡ variable (Slot 0) ∷ variable (Slot 0) ∷ variable (Slot 0) ∷ variable (Slot 0) ∷ []
counts_uses n body = simp (uses_value, uses_slot, uses_two)

done_uses : uses_of_form (does (op.Done 0) []) ≡ group 0 ∷ []
done_uses = simp uses_none

call_uses : uses_of_form (calls 1) ≡ function 1 ∷ []
call_uses = simp uses_call

wait_uses : uses_of_form (does (op.Wait 0) []) ≡ group 0 ∷ []
wait_uses = simp uses_none

eight_uses : uses_of_form adds_eight ≡ group 0 ∷ []
eight_uses = simp (uses_value, uses_one)

one_uses : uses_of_form adds_one ≡ group 0 ∷ []
one_uses = simp (uses_value, uses_one)

panic_uses : uses_of_form panics ≡ []
panic_uses = simp (uses_value, uses_one)

exit_uses : uses_of_form exits ≡ []
exit_uses = simp (uses_value, uses_one)

-- ---- eight workers

crowd_statements : AreStatements crowd
crowd_statements zero zero = record { uses = there crowd 1 _ _ (counts_uses (pos 1000) 1) (omega arith, (omega arith, (omega arith, (omega arith, tt)))); within = tt }
crowd_statements zero (suc zero) = record { uses = there crowd 1 _ _ done_uses (omega arith, tt); within = tt }
crowd_statements zero (suc (suc i)) = tt
crowd_statements (suc zero) zero = record { uses = there crowd 1 _ _ call_uses (omega arith, tt); within = tt }
crowd_statements (suc zero) (suc i) = tt
crowd_statements (suc (suc zero)) zero = tt
crowd_statements (suc (suc zero)) (suc i) = tt
crowd_statements (suc (suc (suc zero))) zero = record { uses = there crowd 0 _ _ eight_uses (omega arith, tt); within = tt }
crowd_statements (suc (suc (suc zero))) (suc zero) = record { uses = (omega arith, tt); within = tt }
crowd_statements (suc (suc (suc zero))) (suc (suc zero)) = record { uses = (omega arith, tt); within = tt }
crowd_statements (suc (suc (suc zero))) (suc (suc (suc zero))) = record { uses = (omega arith, tt); within = tt }
crowd_statements (suc (suc (suc zero))) (suc (suc (suc (suc zero)))) = record { uses = (omega arith, tt); within = tt }
crowd_statements (suc (suc (suc zero))) (suc (suc (suc (suc (suc zero))))) = record { uses = (omega arith, tt); within = tt }
crowd_statements (suc (suc (suc zero))) (suc (suc (suc (suc (suc (suc zero)))))) = record { uses = (omega arith, tt); within = tt }
crowd_statements (suc (suc (suc zero))) (suc (suc (suc (suc (suc (suc (suc zero))))))) = record { uses = (omega arith, tt); within = tt }
crowd_statements (suc (suc (suc zero))) (suc (suc (suc (suc (suc (suc (suc (suc zero)))))))) = record { uses = (omega arith, tt); within = tt }
crowd_statements (suc (suc (suc zero))) (suc (suc (suc (suc (suc (suc (suc (suc (suc zero))))))))) = record { uses = there crowd 0 _ _ wait_uses (omega arith, tt); within = tt }
crowd_statements (suc (suc (suc zero))) (suc (suc (suc (suc (suc (suc (suc (suc (suc (suc i)))))))))) = tt
crowd_statements (suc (suc (suc (suc k)))) i = tt

three_params : (f : ℕ) → MatchOption (slice_get working_functions f) (Unit {0}) (λ (g : Function). g.params ≤ g.slots)
three_params zero = omega arith
three_params (suc zero) = omega arith
three_params (suc (suc zero)) = omega arith
three_params (suc (suc (suc f))) = tt

pub crowd_is : (fs : List Function) (ls : List (List Node)) → fs ≡ working_functions → ls ≡ crowd_lists → IsProgram (program_with_group 2 fs ls)
crowd_is fs ls e f = subst IsProgram (ap₂ (program_with_group 2) (sym e) (sym f)) (record { ordered = refl; statements = crowd_statements; params = three_params; main = omega arith; packages = refl })

-- ---- ends

two_params : (body f : ℕ) → MatchOption (slice_get (two_functions body) f) (Unit {0}) (λ (g : Function). g.params ≤ g.slots)
two_params body zero = omega arith
two_params body (suc zero) = omega arith
two_params body (suc (suc f)) = tt

stuck_statements : AreStatements stuck
stuck_statements zero zero = tt
stuck_statements zero (suc i) = tt
stuck_statements (suc zero) zero = record { uses = there stuck 0 _ _ one_uses (omega arith, tt); within = tt }
stuck_statements (suc zero) (suc zero) = record { uses = (omega arith, tt); within = tt }
stuck_statements (suc zero) (suc (suc zero)) = record { uses = there stuck 0 _ _ wait_uses (omega arith, tt); within = tt }
stuck_statements (suc zero) (suc (suc (suc i))) = tt
stuck_statements (suc (suc k)) i = tt

pub stuck_is : (fs : List Function) (ls : List (List Node)) → fs ≡ two_functions 1 → ls ≡ [] ∷ waiting_main ∷ [] → IsProgram (program_with_group 1 fs ls)
stuck_is fs ls e f = subst IsProgram (ap₂ (program_with_group 1) (sym e) (sym f)) (record { ordered = refl; statements = stuck_statements; params = two_params 1; main = omega arith; packages = refl })

finishing_statements : AreStatements finishing
finishing_statements zero zero = record { uses = there finishing 0 _ _ done_uses (omega arith, tt); within = tt }
finishing_statements zero (suc i) = tt
finishing_statements (suc zero) zero = record { uses = there finishing 0 _ _ one_uses (omega arith, tt); within = tt }
finishing_statements (suc zero) (suc zero) = record { uses = (omega arith, tt); within = tt }
finishing_statements (suc zero) (suc (suc zero)) = record { uses = there finishing 0 _ _ wait_uses (omega arith, tt); within = tt }
finishing_statements (suc zero) (suc (suc (suc i))) = tt
finishing_statements (suc (suc k)) i = tt

pub finishing_is : (fs : List Function) (ls : List (List Node)) → fs ≡ two_functions 1 → ls ≡ finishing.lists → IsProgram (program_with_group 1 fs ls)
finishing_is fs ls e f = subst IsProgram (ap₂ (program_with_group 1) (sym e) (sym f)) (record { ordered = refl; statements = finishing_statements; params = two_params 1; main = omega arith; packages = refl })

failing_statements : AreStatements failing
failing_statements zero zero = record { uses = there failing 0 _ _ panic_uses tt; within = tt }
failing_statements zero (suc i) = tt
failing_statements (suc zero) zero = record { uses = there failing 0 _ _ one_uses (omega arith, tt); within = tt }
failing_statements (suc zero) (suc zero) = record { uses = (omega arith, tt); within = tt }
failing_statements (suc zero) (suc (suc zero)) = record { uses = there failing 0 _ _ wait_uses (omega arith, tt); within = tt }
failing_statements (suc zero) (suc (suc (suc i))) = tt
failing_statements (suc (suc k)) i = tt

pub failing_is : (fs : List Function) (ls : List (List Node)) → fs ≡ two_functions 1 → ls ≡ failing.lists → IsProgram (program_with_group 1 fs ls)
failing_is fs ls e f = subst IsProgram (ap₂ (program_with_group 1) (sym e) (sym f)) (record { ordered = refl; statements = failing_statements; params = two_params 1; main = omega arith; packages = refl })

leaving_statements : AreStatements leaving
leaving_statements zero zero = record { uses = tt; within = tt }
leaving_statements zero (suc i) = tt
leaving_statements (suc zero) zero = tt
leaving_statements (suc zero) (suc i) = tt
leaving_statements (suc (suc zero)) zero = record { uses = (omega arith, tt); within = tt }
leaving_statements (suc (suc zero)) (suc zero) = record { uses = (omega arith, tt); within = tt }
leaving_statements (suc (suc zero)) (suc (suc zero)) = record { uses = there leaving 0 _ _ exit_uses tt; within = tt }
leaving_statements (suc (suc zero)) (suc (suc (suc i))) = tt
leaving_statements (suc (suc (suc k))) i = tt

pub leaving_is : (fs : List Function) (ls : List (List Node)) → fs ≡ two_functions 2 → ls ≡ leaving_lists → IsProgram (program_with_group 1 fs ls)
leaving_is fs ls e f = subst IsProgram (ap₂ (program_with_group 1) (sym e) (sym f)) (record { ordered = refl; statements = leaving_statements; params = two_params 2; main = omega arith; packages = refl })
