-- Operators that are accepted take their operands.
use Rattle.std.proofs.Common.{◌≡◌, ℕ, Bool, true, false, cond, Some, None, Ok, refl, sym, ap, ◌∙◌, subst}
use Rattle.std.specs.Prelude.{◌&&◌, not, is_some}
use Rattle.std.proofs.lemmas.Option.{cond_some}
use Rattle.go_ast.specs.declared.kind.SourceKind.TheVariants as source
use Rattle.go_ast.specs.declared.expr.UnaryOp.{UnaryOp}
use Rattle.go_ast.specs.declared.expr.UnaryOp.TheVariants as unary'
use Rattle.go_meaning.specs.declared.expr.Expr.{Expr}
use Rattle.go_value.specs.declared.operation.IntOp.TheVariants as int
use Rattle.go_types.specs.declared.types.ValueType.{ValueType}
use Rattle.go_types.specs.declared.kinds.OperandKind.{OperandKind}
use Rattle.go_types.specs.declared.kinds.OperandKind.TheVariants.{Typed, Untyped as Bare, Nil}
use Rattle.go_types.specs.declared.operator.Operator.{Operator}
use Rattle.go_types.specs.declared.operator.Operator.TheVariants.{Arithmetic, Compare, Both, Either}
use Rattle.go_types.specs.declared.operand.Term.{Term}
use Rattle.go_types.specs.declared.operand.Term.TheVariants.{Constant as Fixed, Nil as Nothing, Value as Computed}
use Rattle.go_types.specs.declared.operand.Argument.{Argument}
use Rattle.go_types.specs.Types as types
use Rattle.go_types.specs.Kinds.{common, is_integer, is_flag}
use Rattle.go_types.specs.Operators.{is_for, result_kind, shift_kind, kind_if, received_kind}
use Rattle.go_types.specs.Checking.{and_then}
use Rattle.go_types.specs.Constants.{within, binary_constant, unary_constant}
use Rattle.go_types.specs.Operands.{kind_of, kind_at, own_type, fitted, or_wrong, is_negative_constant, is_zero_constant, divides, shifts, operation, computed, of_kind, plain, shifted, shift_by, shift_of, shift, binary, before, unary_of, unary, in_own_type}
use Rattle.go_typing.specs.Sorts.{Value, constant, typed, value_found}
use Rattle.go_typing.specs.Rules as rules
use Rattle.go_typing.specs.Rules.{AreOf, left, right, untyped, IsShift, to_the_left, to_the_right, type_given, both_constant, Operated, Signed}
use Rattle.go_typing.specs.Laws.{is_of_kind}
use Rattle.go_typing.proofs.Basics.{not_both, same_ok, no_fault, ok_then, ok_if, ok_unless, right_of}
use Rattle.go_typing.proofs.Agreement.{common_from}
use Rattle.go_typing.proofs.OneSort.{is_shift}
use Rattle.go_typing.proofs.Values.{term_fits, in_one_kind, within_same, constant_found, binary_fits, unary_fits, no_received}

abbrev pub argument : ℕ → Term → Argument
argument i s = record { at = i; term = s }

pub kind_is : (s : Term) → (value_found s).kind ≡ kind_of s
kind_is (Fixed k c) = refl
kind_is Nothing = refl
kind_is (Computed t e) = refl

-- an operator that takes what two terms are and gives what a third is
abbrev pub Takes : Operator → Term → Term → Term → Type 0
Takes o s t r = Operated o (value_found s) (value_found t) (value_found r) × (term_fits r ≡ true)

-- ---- shifts

shift_from : (o : Operator) → shifts o ≡ true → IsShift o
shift_from (Arithmetic int.Shl) e = to_the_left
shift_from (Arithmetic int.Shr) e = to_the_right
shift_from o e = not_both false e refl

shift_gives : (o : Operator) (k : OperandKind) → shifts o ≡ true → result_kind o k ≡ k
shift_gives (Arithmetic i) k e = refl
shift_gives (Compare r) k e = not_both false e refl
shift_gives Both k e = refl
shift_gives Either k e = refl

shifted_found : (o : Operator) (t : ValueType) (a b : Argument) (r : Term) → shifted o t a b ≡ Ok r → (e : Expr) × (Computed t e ≡ r)
shifted_found o t a b r e =
    let p = ok_then (in_own_type b) _ r e in
    let q = ok_then (fitted a.at t a.term) _ r p.2 in
    (operation o t q.0 p.0, same_ok (Computed t (operation o t q.0 p.0)) r q.2)

shift_typed : (at : ℕ) (o : Operator) (i : ℕ) (s : Term) (k : OperandKind) (j : ℕ) (t r : Term) → IsShift o → both_constant (value_found s) (value_found t) ≡ false
    → (value_found s).kind ≡ k → is_integer k ≡ true → is_integer (value_found t).kind ≡ true → shift_by at o (argument i s) k (argument j t) ≡ Ok r → Takes o s t r
shift_typed at o i s (Typed u) j t r sh c ks x y e =
    let p = shifted_found o u (argument i s) (argument j t) r e in
    subst (Takes o s t) p.1 (rules.shift o (value_found s) (value_found t) u sh c ks x y, refl)
shift_typed at o i s (Bare u) j t r sh c ks x y e = no_fault _ r e
shift_typed at o i s Nil j t r sh c ks x y e = no_fault _ r e

shift_found : (at : ℕ) (o : Operator) (i : ℕ) (s : Term) (j : ℕ) (t r : Term) → shifts o ≡ true → term_fits s ≡ true → is_integer (kind_of s) ≡ true → is_integer (kind_of t) ≡ true
    → shift_of at o i s j t ≡ Ok r → Takes o s t r
shift_found at o i (Fixed k c) j (Fixed l d) r sh fs x y e =
    let p = constant_found at k (binary_constant at o c d) r e in
    let f : is_of_kind k p.0 ≡ true = subst (λ q. is_of_kind q p.0 ≡ true) (shift_gives o k sh) (binary_fits at o k c d p.0 fs p.1) in
    subst (Takes o (Fixed k c) (Fixed l d)) p.2 (rules.constant_shift o k l (shift_from o sh) x y, f)
shift_found at o i (Fixed k c) j Nothing r sh fs x y e = shift_typed at o i (Fixed k c) k j Nothing r (shift_from o sh) refl refl x y e
shift_found at o i (Fixed k c) j (Computed t z) r sh fs x y e = shift_typed at o i (Fixed k c) k j (Computed t z) r (shift_from o sh) refl refl x y e
shift_found at o i Nothing j t r sh fs x y e = not_both false x refl
shift_found at o i (Computed u z) j t r sh fs x y e =
    shift_typed at o i (Computed u z) (Typed u) j t r (shift_from o sh) refl refl x (subst (λ k. is_integer k ≡ true) (sym (kind_is t)) y) e

-- ---- other binary operators

no_shift_from : (o : Operator) → shifts o ≡ false → IsShift o → ⊥
no_shift_from o e s = not_both (shifts o) (is_shift o s) e

given_is : (o : Operator) (t : ValueType) → own_type (result_kind o (Typed t)) ≡ type_given o t
given_is (Arithmetic i) t = refl
given_is (Compare r) t = refl
given_is Both t = refl
given_is Either t = refl

computed_found : (at : ℕ) (o : Operator) (t : ValueType) (a b : Argument) (r : Term) → computed at o t a b ≡ Ok r → (e : Expr) × (Computed (own_type (result_kind o (Typed t))) e ≡ r)
computed_found at o t a b r e =
    let p = ok_then (fitted a.at t a.term) _ r e in
    let q = ok_then (fitted b.at t b.term) _ r p.2 in
    let z = operation o t p.0 q.0 in
    let d = ok_unless (divides o && is_zero_constant b.term) (Ok (Computed (own_type (result_kind o (Typed t))) z)) at source.ConstDivide r q.2 in
    (z, same_ok _ r d.1)

abbrev is_bare : OperandKind → Bool
is_bare (Bare u) = true
is_bare k = false

typed_one : (k l m : OperandKind) → AreOf k l m → (is_bare k && is_bare l) ≡ false → (t : ValueType) × (m ≡ Typed t)
typed_one _ _ _ (left t k a) b = (t, refl)
typed_one _ _ _ (right t k a) b = (t, refl)
typed_one _ _ _ (untyped u v w e) b = not_both true refl b

not_bare : (s t : Term) → both_constant (value_found s) (value_found t) ≡ false → (is_bare (kind_of s) && is_bare (kind_of t)) ≡ false
not_bare (Fixed p c) (Fixed q d) e = not_both true refl e
not_bare (Fixed (Bare u) c) Nothing e = refl
not_bare (Fixed (Typed u) c) Nothing e = refl
not_bare (Fixed Nil c) Nothing e = refl
not_bare (Fixed (Bare u) c) (Computed t z) e = refl
not_bare (Fixed (Typed u) c) (Computed t z) e = refl
not_bare (Fixed Nil c) (Computed t z) e = refl
not_bare Nothing t e = refl
not_bare (Computed u z) t e = refl

typed_found : (at : ℕ) (o : Operator) (i : ℕ) (s : Term) (j : ℕ) (t : Term) (k : OperandKind) (r : Term) → (u : ValueType) × (k ≡ Typed u) → shifts o ≡ false
    → both_constant (value_found s) (value_found t) ≡ false → AreOf (kind_of s) (kind_of t) k → is_for o k ≡ true → computed at o (own_type k) (argument i s) (argument j t) ≡ Ok r → Takes o s t r
typed_found at o i s j t k r (u, is) sh c a f e =
    let a' : AreOf (value_found s).kind (value_found t).kind (Typed u) = subst (λ x. AreOf x (value_found t).kind (Typed u)) (sym (kind_is s)) (subst (λ x. AreOf (kind_of s) x (Typed u)) (sym (kind_is t)) (subst (AreOf (kind_of s) (kind_of t)) is a)) in
    let f' : is_for o (Typed u) ≡ true = subst (λ x. is_for o x ≡ true) is f in
    let e' : computed at o u (argument i s) (argument j t) ≡ Ok r = subst (λ x. computed at o (own_type x) (argument i s) (argument j t) ≡ Ok r) is e in
    let p = computed_found at o u (argument i s) (argument j t) r e' in
    let g : Takes o s t (Computed (own_type (result_kind o (Typed u))) p.0) =
    (subst (λ x. Operated o (value_found s) (value_found t) (typed x)) (sym (given_is o u)) (rules.values o (value_found s) (value_found t) u (no_shift_from o sh) c a' f'), refl) in
    subst (Takes o s t) p.1 g

any_typed : (at : ℕ) (o : Operator) (i : ℕ) (s : Term) (j : ℕ) (t : Term) (k : OperandKind) (r : Term) → shifts o ≡ false
    → both_constant (value_found s) (value_found t) ≡ false → AreOf (kind_of s) (kind_of t) k → is_for o k ≡ true → computed at o (own_type k) (argument i s) (argument j t) ≡ Ok r → Takes o s t r
any_typed at o i s j t k r sh c a f e = typed_found at o i s j t k r (typed_one (kind_of s) (kind_of t) k a (not_bare s t c)) sh c a f e

of_kind_found : (at : ℕ) (o : Operator) (i : ℕ) (s : Term) (j : ℕ) (t : Term) (k : OperandKind) (r : Term) → shifts o ≡ false → term_fits s ≡ true
    → AreOf (kind_of s) (kind_of t) k → is_for o k ≡ true → of_kind at o k i s j t ≡ Ok r → Takes o s t r
of_kind_found at o i (Fixed p c) j (Fixed q d) k r sh fs a f e =
    let x = ok_then (within i k c) _ r e in
    let y = ok_then (within j k d) _ r x.2 in
    let z = constant_found at (result_kind o k) (binary_constant at o x.0 y.0) r y.2 in
    let g : is_of_kind k x.0 ≡ true = subst (λ w. is_of_kind k w ≡ true) (within_same i k c x.0 x.1) (in_one_kind p q k c a fs) in
    subst (Takes o (Fixed p c) (Fixed q d)) z.2 (rules.constants o p q k (no_shift_from o sh) a f, binary_fits at o k x.0 y.0 z.0 g z.1)
of_kind_found at o i (Fixed p c) j Nothing k r sh fs a f e = any_typed at o i (Fixed p c) j Nothing k r sh refl a f e
of_kind_found at o i (Fixed p c) j (Computed u x) k r sh fs a f e = any_typed at o i (Fixed p c) j (Computed u x) k r sh refl a f e
of_kind_found at o i Nothing j t k r sh fs a f e = any_typed at o i Nothing j t k r sh refl a f e
of_kind_found at o i (Computed u x) j t k r sh fs a f e = any_typed at o i (Computed u x) j t k r sh refl a f e

plain_found : (at : ℕ) (o : Operator) (a b : Argument) (r : Term) → shifts o ≡ false → term_fits a.term ≡ true → plain at o a b ≡ Ok r → Takes o a.term b.term r
plain_found at o a b r sh fs e =
    let p = ok_then (or_wrong at (common (kind_at a) (kind_at b))) _ r e in
    let q = ok_if (is_for o p.0) (of_kind at o p.0 a.at a.term b.at b.term) at source.WrongType r p.2 in
    of_kind_found at o a.at a.term b.at b.term p.0 r sh fs (common_from (kind_at a) (kind_at b) p.0 (right_of at (common (kind_at a) (kind_at b)) p.0 p.1)) q.0 q.1

integers : (k l : OperandKind) → not (is_some (shift_kind k l)) ≡ false → (is_integer k ≡ true) × (is_integer l ≡ true)
integers k l e = go (is_integer k) (is_integer l) refl refl e
  where
    go : (x y : Bool) → is_integer k ≡ x → is_integer l ≡ y → not (is_some (cond (x && y) (Some k) None)) ≡ false → (is_integer k ≡ true) × (is_integer l ≡ true)
    go true true h g e = (h, g)
    go true false h g e = not_both true refl e
    go false y h g e = not_both true refl e

shifts_found : (at : ℕ) (o : Operator) (a b : Argument) (r : Term) → shifts o ≡ true → term_fits a.term ≡ true → shift at o a b ≡ Ok r → Takes o a.term b.term r
shifts_found at o a b r sh fs e =
    let p = ok_unless (not (is_some (shift_kind (kind_at a) (kind_at b)))) _ at source.WrongType r e in
    let q = ok_unless (is_negative_constant b.term) (shift_of at o a.at a.term b.at b.term) b.at source.ConstRange r p.1 in
    let k = integers (kind_at a) (kind_at b) p.0 in
    shift_found at o a.at a.term b.at b.term r sh fs k.0 k.1 q.1

pub binary_found : (at : ℕ) (o : Operator) (a b : Argument) (r : Term) → term_fits a.term ≡ true → binary at o a b ≡ Ok r → Takes o a.term b.term r
unfolding binary
binary_found at o a b r fs e = go (shifts o) refl e
  where
    go : (x : Bool) → shifts o ≡ x → cond x (shift at o a b) (plain at o a b) ≡ Ok r → Takes o a.term b.term r
    go true h e = shifts_found at o a b r h fs e
    go false h e = plain_found at o a b r h fs e

-- ---- unary operators

abbrev pub Signs : UnaryOp → Term → Term → Type 0
Signs o s r = Signed o (value_found s) (value_found r) × (term_fits r ≡ true)

-- an operator that keeps the kind
same_kind : (at : ℕ) (o : UnaryOp) (k : OperandKind) (s r : Term) → kind_of s ≡ k → ((v : Value) → v.kind ≡ k → Signed o v v) → term_fits s ≡ true → unary_of at o k s ≡ Ok r → Signs o s r
same_kind at o k (Fixed l c) r is rule fs e =
    let p = constant_found at k (unary_constant at o l c) r e in
    let f : is_of_kind k c ≡ true = subst (λ x. is_of_kind x c ≡ true) is fs in
    subst (Signs o (Fixed l c)) p.2 (subst (λ x. Signed o (constant l) (constant x)) is (rule (constant l) is), unary_fits at o k l c p.0 f p.1)
same_kind at o k Nothing r is rule fs e = no_fault _ r e
same_kind at o k (Computed t x) r is rule fs e =
    let z = before o x in
    let g : Signs o (Computed t x) (Computed (own_type k) z) = (subst (λ y. Signed o (typed t) (typed (own_type y))) is (rule (typed t) is), refl) in
    subst (Signs o (Computed t x)) (same_ok (Computed (own_type k) z) r e) g

abbrev Tests : (OperandKind → Bool) → UnaryOp → Type 0
Tests test o = (v : Value) → test v.kind ≡ true → Signed o v v

keeping : (test : OperandKind → Bool) (at : ℕ) (o : UnaryOp) (s : Term) (r : Term) → Tests test o → term_fits s ≡ true → and_then (or_wrong at (kind_if (test (kind_of s)) (kind_of s))) (λ k. unary_of at o k s) ≡ Ok r → Signs o s r
keeping test at o s r rule fs e =
    let p = ok_then (or_wrong at (kind_if (test (kind_of s)) (kind_of s))) (λ k. unary_of at o k s) r e in
    let q = cond_some (test (kind_of s)) (kind_of s) p.0 (right_of at _ p.0 p.1) in
    let h : test p.0 ≡ true = subst (λ k. test k ≡ true) q.1 q.0 in
    same_kind at o p.0 s r q.1 (λ v i. rule v (subst (λ k. test k ≡ true) (sym i) h)) fs p.2

received : (at : ℕ) (s r : Term) → and_then (or_wrong at (received_kind (kind_of s))) (λ k. unary_of at unary'.Receive k s) ≡ Ok r → Signs unary'.Receive s r
received at (Fixed l c) r e =
    let p = ok_then (or_wrong at (received_kind l)) (λ k. unary_of at unary'.Receive k (Fixed l c)) r e in
    let q = constant_found at p.0 (unary_constant at unary'.Receive l c) r p.2 in
    no_received at l c q.0 q.1
received at Nothing r e = no_fault _ r e
received at (Computed t x) r e =
    let p = ok_then (or_wrong at (kind_if (types.is_channel t) (Typed (types.element t)))) (λ k. unary_of at unary'.Receive k (Computed t x)) r e in
    let q = cond_some (types.is_channel t) (Typed (types.element t)) p.0 (right_of at _ p.0 p.1) in
    let z = before unary'.Receive x in
    let g : Computed (own_type p.0) z ≡ r = same_ok (Computed (own_type p.0) z) r p.2 in
    let h : Computed (types.element t) z ≡ r = ap (λ k. Computed (own_type k) z) q.1 ∙ g in
    subst (Signs unary'.Receive (Computed t x)) h (rules.receive (typed t) t refl q.0, refl)

pub unary_found : (at : ℕ) (o : UnaryOp) (a : Argument) (r : Term) → term_fits a.term ≡ true → unary at o a ≡ Ok r → Signs o a.term r
unfolding unary
unary_found at unary'.Plus a r fs e = keeping is_integer at unary'.Plus a.term r rules.plus fs e
unary_found at unary'.Minus a r fs e = keeping is_integer at unary'.Minus a.term r rules.minus fs e
unary_found at unary'.Flip a r fs e = keeping is_integer at unary'.Flip a.term r rules.flip fs e
unary_found at unary'.Not a r fs e = keeping is_flag at unary'.Not a.term r rules.not_ fs e
unary_found at unary'.Receive a r fs e = received at a.term r e
