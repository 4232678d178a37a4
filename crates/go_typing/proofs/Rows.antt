-- The rows of `specs/Rows`, derived rule by rule.
use Rattle.std.proofs.Common.{◌≡◌, false, refl, sym, ap, ◌∙◌, subst}
use Rattle.std.specs.Prelude.{codes}
use Rattle.std.proofs.lemmas.Option.{none-some}
use Rattle.go_ast.specs.declared.expr.Expr.{Expr}
use Rattle.go_ast.specs.declared.expr.ExprForm.TheOpen.{ExprForm-F}
use Rattle.go_ast.specs.declared.expr.BinaryOp.{BinaryOp}
use Rattle.go_ast.specs.declared.expr.BinaryOp.TheVariants as binary
use Rattle.go_ast.specs.declared.expr.UnaryOp.TheVariants as unary
use Rattle.go_types.specs.declared.types.Basic.TheVariants as basic
use Rattle.go_types.specs.declared.types.ValueType.{ValueType}
use Rattle.go_types.specs.declared.kinds.Untyped.TheVariants as untyped
use Rattle.go_types.specs.declared.kinds.OperandKind.{OperandKind}
use Rattle.go_types.specs.declared.kinds.OperandKind.TheVariants.{Typed, Untyped as Bare}
use Rattle.go_types.specs.declared.operator.Operator.{Operator}
use Rattle.go_types.specs.declared.names.Meaning.TheVariants as meaning
use Rattle.go_types.specs.declared.names.Names.{Names}
use Rattle.go_types.specs.Kinds.{common}
use Rattle.go_types.specs.Operands.{shifts}
use Rattle.go_types.specs.Operators.{operator_of}
use Rattle.go_types.specs.Types as types
use Rattle.go_typing.specs.Sorts.{Value, Sort, constant, typed, value}
use Rattle.go_typing.specs.Rules as rules
use Rattle.go_typing.specs.Rules.{IsShift, Operated, AreOf}
use Rattle.go_typing.specs.Typing as typing
use Rattle.go_typing.specs.Typing.{shape, Has}
use Rattle.go_typing.specs.Rows.{SumWithRune, IsVariable, SumOfInt8, LessThanOne, ReceivedText, SumOfTwoTypes}
use Rattle.go_typing.proofs.Basics.{not_both}
use Rattle.go_typing.proofs.Agreement.{common_is}
use Rattle.go_typing.proofs.OneSort.{is_shift, one_form, value_in}

plain_operator : (o : Operator) → shifts o ≡ false → IsShift o → ⊥
plain_operator o e s = not_both (shifts o) (is_shift o s) e

literal : (ns : Names) (e : Expr) (x : _) (s : Sort) → shape e ≡ x → Has ns x s → Has ns (shape e) s
literal ns e x s is h = subst (λ y. Has ns y s) (sym is) h

variable : (ns : Names) (e : Expr) (t : ValueType) → IsVariable ns e t → Has ns (shape e) (value (typed t))
variable ns e t (n, v, is, f) = literal ns e (ExprForm-F.Plain n) (value (typed t)) is (typing.plain n (meaning.Variable v t) f)

pub sum_with_rune : SumWithRune
sum_with_rune ns a b ia ib =
    typing.operated binary.Add a b (constant (Bare untyped.Int)) (constant (Bare untyped.Rune)) _
    (literal ns a (ExprForm-F.Int (codes "1")) _ ia (typing.int (codes "1"))) (literal ns b (ExprForm-F.Rune 97) _ ib (typing.rune 97))
    (rules.constants (operator_of binary.Add) (Bare untyped.Int) (Bare untyped.Rune) (Bare untyped.Rune) (plain_operator _ refl) (rules.untyped untyped.Int untyped.Rune untyped.Rune refl) refl)

with_one : (ns : Names) (o : _) (a b : Expr) → IsVariable ns a (types.basic basic.Int8) → shape b ≡ ExprForm-F.Int (codes "1") → (x : Value) → Operated (operator_of o) (typed (types.basic basic.Int8)) (constant (Bare untyped.Int)) x
    → Has ns (ExprForm-F.Binary o a b) (value x)
with_one ns o a b ia ib x r =
    typing.operated o a b (typed (types.basic basic.Int8)) (constant (Bare untyped.Int)) x (variable ns a (types.basic basic.Int8) ia) (literal ns b (ExprForm-F.Int (codes "1")) _ ib (typing.int (codes "1"))) r

int8_and_one : AreOf (Typed (types.basic basic.Int8)) (Bare untyped.Int) (Typed (types.basic basic.Int8))
int8_and_one = rules.left (types.basic basic.Int8) (Bare untyped.Int) (rules.representable (types.basic basic.Int8) untyped.Int refl)

pub sum_of_int8 : SumOfInt8
sum_of_int8 ns a b ia ib = with_one ns binary.Add a b ia ib _ (rules.values _ _ _ (types.basic basic.Int8) (plain_operator _ refl) refl int8_and_one refl)

pub less_than_one : LessThanOne
less_than_one ns a b ia ib = with_one ns binary.Less a b ia ib _ (rules.values _ _ _ (types.basic basic.Int8) (plain_operator _ refl) refl int8_and_one refl)

pub received_text : ReceivedText
received_text ns c ic = typing.signed unary.Receive c _ _ (variable ns c _ ic) (rules.receive _ _ refl refl)

no_operated : (o : Operator) (v w x : Value) → shifts o ≡ false → ((m : OperandKind) → AreOf v.kind w.kind m → ⊥) → Operated o v w x → ⊥
no_operated _ _ _ _ e none (rules.constants o k l m n a f) = none m a
no_operated _ _ _ _ e none (rules.values o v w t n c a f) = none (Typed t) a
no_operated _ _ _ _ e none (rules.constant_shift o k l s i j) = plain_operator o e s
no_operated _ _ _ _ e none (rules.shift o v w t s c k i j) = plain_operator o e s

apart : (k l m : OperandKind) → k ≡ Typed (types.basic basic.Int8) → l ≡ Typed (types.basic basic.Int16) → AreOf k l m → ⊥
apart k l m e f a = none-some m (sym (ap (λ x. common x l) e ∙ ap (λ x. common (Typed (types.basic basic.Int8)) x) f) ∙ common_is k l m a)

operands : (ns : Names) (o : BinaryOp) (a b : Expr) (s : Sort) → Has ns (ExprForm-F.Binary o a b) s → (v : Value) × (w : Value) × (x : Value) × Has ns (shape a) (value v) × Has ns (shape b) (value w) × Operated (operator_of o) v w x
operands ns _ _ _ _ (typing.operated o a b v w x h k r) = (v, w, x, h, k, r)

pub sum_of_two_types : SumOfTwoTypes
sum_of_two_types ns a b s ia ib h =
    let p = operands ns binary.Add a b s h in
    let int8 : ValueType = types.basic basic.Int8 in
    let int16 : ValueType = types.basic basic.Int16 in
    let e = ap (λ (r : Sort). (value_in r).kind) (one_form ns (shape a) (value p.0) (value (typed int8)) p.3 (variable ns a int8 ia)) in
    let f = ap (λ (r : Sort). (value_in r).kind) (one_form ns (shape b) (value p.1) (value (typed int16)) p.4 (variable ns b int16 ib)) in
    no_operated (operator_of binary.Add) p.0 p.1 p.2 refl (λ m k. apart p.0.kind p.1.kind m e f k) p.5
