-- What package variables begin with, and how many values they are given.
use Rattle.std.proofs.Common.{Bool, true, false, cond, ◌≡◌, ℕ, suc, ◌==◌, List, [], ◌∷◌, length, Option, refl, ap, eqb-true}
use Rattle.std.specs.Prelude.{nat_lt}
use Rattle.go_ast.specs.declared.kind.SourceKind.TheVariants as source
use Rattle.go_ast.specs.declared.expr.Expr.{Expr as Written}
use Rattle.go_meaning.specs.declared.value.Value.{Value}
use Rattle.go_meaning.specs.declared.value.Value.TheVariants as value'
use Rattle.go_meaning.specs.declared.expr.Op.{Op}
use Rattle.go_meaning.specs.declared.expr.Op.TheVariants as op
use Rattle.go_meaning.specs.declared.expr.Expr.{Expr, out-Expr}
use Rattle.go_meaning.specs.declared.expr.Expr.TheOpen.{Expr-F}
use Rattle.go_meaning.specs.declared.program.Global.{Global}
use Rattle.go_meaning.specs.WellFormed.{is_value}
use Rattle.go_types.specs.declared.types.ValueType.{ValueType}
use Rattle.go_types.specs.declared.names.Names.{Names}
use Rattle.go_types.specs.declared.operand.Term.{Term}
use Rattle.go_types.specs.declared.operand.Term.TheVariants.{Value as Computed}
use Rattle.go_types.specs.declared.operand.Operand.{Operand}
use Rattle.go_types.specs.declared.operand.Operand.TheVariants as operand
use Rattle.go_types.specs.declared.operand.Argument.{Argument}
use Rattle.go_types.specs.declared.given.Given.{Given}
use Rattle.go_types.specs.declared.given.Given.TheVariants.{Each as Apart, Whole}
use Rattle.go_types.specs.Checking.{Checked}
use Rattle.go_types.specs.Expressions.{check, value_of, values_of}
use Rattle.go_types.specs.Statements.{whole_code, whole_term, whole_operand, given_whole, given_each, given, wanted_code}
use Rattle.go_packages.specs.Variables.{is_fixed, sized, made, made_by, global_of, global_in, initial_of}
use Rattle.go_packages.specs.Mentions.{size_at}
use Rattle.go_bounds.proofs.Sure.{Sure, Finds, sure_ok, sure_err, sure_then, sure_if, sure_any, finds_then, finds_pure, finds_lift}

-- ---- a variable begins with a value or with a channel that is made

abbrev Begins : Global → Type 0
Begins g = is_value g ≡ true

sized_sure : (zero : Value) (at : ℕ) (x : Expr-F Expr) → Sure (sized zero at x) Begins
sized_sure zero at (Expr-F.Value (value'.Number i)) = sure_ok _ refl
sized_sure zero at x = sure_err at source.NotConstant

made_sure : (zero : Value) (xs : List Expr) (at : ℕ) → Sure (made zero xs at) Begins
made_sure zero [] at = sure_ok _ refl
made_sure zero (x ∷ xs) at = sized_sure zero at (out-Expr x)

made_by_sure : (o : Op) (xs : List Expr) (at size : ℕ) → Sure (made_by o xs at size) Begins
made_by_sure (op.Make zero b) xs at size = made_sure zero xs size
made_by_sure o xs at size = sure_err at source.NotConstant

global_sure : (b : Bool) (at size : ℕ) (x : Expr-F Expr) → Sure (global_of b at size x) Begins
global_sure true at size (Expr-F.Value v) = sure_ok _ refl
global_sure false at size (Expr-F.Apply o xs) = made_by_sure o xs at size
global_sure b at size x = sure_err at source.NotConstant

pub initial_sure : (w : Option ValueType) (a : Argument) (e : Written) → Sure (initial_of w a e) (λ i. is_value i.global ≡ true)
unfolding initial_of global_in
initial_sure w a e =
    sure_then (sure_any (wanted_code w a)) (λ x u. sure_then (global_sure (is_fixed a.term) a.at (size_at e) (out-Expr x)) (λ g h. sure_ok _ h))

-- ---- values that are given one by one are as many as the expressions, and as the places

sure_when : {A : Type 0} {Q : A → Type 0} (b : Bool) {r t : Checked A} → (b ≡ true → Sure r Q) → Sure t Q → Sure (cond b r t) Q
sure_when true h k = h refl
sure_when false h k = k

values_counted : (es : List Written) (ns : Names) → Finds (values_of Written check es ns) (λ as'. length as' ≡ length es)
values_counted [] ns = finds_pure [] refl
values_counted (e ∷ es) ns = finds_then (any_value e ns) (λ a u. finds_then (values_counted es ns) (λ as' h. finds_pure (a ∷ as') (ap suc h)))
  where
    any_value : (e : Written) (ns : Names) → Finds (value_of Written check e ns) (λ a. Unit {0})
    any_value e ns = record { sure = λ m. sure_any (value_of Written check e ns m) }

abbrev pub Amounts : ℕ → List Written → Given → Type 0
Amounts n es (Apart as') = (length as' ≡ n) × (length as' ≡ length es)
Amounts n es (Whole at ts x) = Unit {0}

each_amounts : (at n : ℕ) (es : List Written) (ns : Names) → Finds (given_each at n es ns) (Amounts n es)
each_amounts at n es ns =
    finds_then (values_counted es ns) (λ as' h. finds_lift (sure_when (length as' == n) (λ e. sure_ok (Apart as') (eqb-true (length as') n e, h)) (sure_err at source.WrongCount)))

code_amounts : (at n i : ℕ) (t : ValueType) (es : List Written) (x : Expr-F Expr) → Sure (whole_code at n i t x) (Amounts n es)
code_amounts at n i t es (Expr-F.Receive c) = sure_if _ (sure_ok _ tt) (sure_err at source.WrongCount)
code_amounts at n i t es x = sure_err at source.WrongCount

term_amounts : (ok : Bool) (at n i : ℕ) (es : List Written) (x : Term) → Sure (whole_term ok at n i x) (Amounts n es)
term_amounts true at n i es (Computed t e) = code_amounts at n i t es (out-Expr e)
term_amounts ok at n i es x = sure_err at source.WrongCount

operand_amounts : (ok : Bool) (at n i : ℕ) (es : List Written) (o : Operand) → Sure (whole_operand ok at n i o) (Amounts n es)
operand_amounts ok at n i es (operand.Results ts e) = sure_if _ (sure_ok _ tt) (sure_err at source.WrongCount)
operand_amounts ok at n i es (operand.Term t) = term_amounts ok at n i es t
operand_amounts ok at n i es o = sure_err i source.WrongType

whole_amounts : (ok : Bool) (at n : ℕ) (e : Written) (es : List Written) (ns : Names) → Finds (given_whole ok at n e ns) (Amounts n es)
whole_amounts ok at n e es ns = finds_then any_part (λ p u. finds_lift (operand_amounts ok at n p.at es p.operand))
  where
    any_part : Finds (check e ns) (λ p. Unit {0})
    any_part = record { sure = λ m. sure_any (check e ns m) }

pub given_amounts : (ok : Bool) (at n : ℕ) (es : List Written) (ns : Names) → Finds (given ok at n es ns) (Amounts n es)
given_amounts ok at n [] ns = each_amounts at n [] ns
given_amounts ok at n (e ∷ []) ns = by (nat_lt 1 n)
  where
    by : (t : Bool) → Finds (cond t (given_whole ok at n e ns) (given_each at n (e ∷ []) ns)) (Amounts n (e ∷ []))
    by true = whole_amounts ok at n e (e ∷ []) ns
    by false = each_amounts at n (e ∷ []) ns
given_amounts ok at n (e ∷ f ∷ es) ns = each_amounts at n (e ∷ f ∷ es) ns
