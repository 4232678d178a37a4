-- The values of constants are of their kinds, and stay so under operators and conversions.
use Rattle.std.proofs.Common.{◌≡◌, ℕ, ℤ, Bool, true, false, cond, List, Option, Some, None, Ok, refl, sym, ap, ◌∙◌, subst}
use Rattle.std.specs.Prelude.{◌==◌, ◌&&◌, is_some, option_map}
use Rattle.std.proofs.lemmas.Option.{none-some, same_Some}
use Rattle.std.proofs.lemmas.Bool.{and_parts, and_right}
use Rattle.go_ast.specs.declared.expr.UnaryOp.{UnaryOp}
use Rattle.go_ast.specs.declared.expr.UnaryOp.TheVariants as unary
use Rattle.go_meaning.specs.declared.expr.Relation.TheVariants as relation
use Rattle.go_value.specs.declared.operation.IntOp.TheVariants as int
use Rattle.go_value.specs.declared.kind.Kind.{Kind}
use Rattle.go_types.specs.declared.types.Basic.{Basic}
use Rattle.go_types.specs.declared.types.Basic.TheVariants as basic
use Rattle.go_types.specs.declared.types.ValueType.{ValueType}
use Rattle.go_types.specs.declared.kinds.Untyped.{Untyped}
use Rattle.go_types.specs.declared.kinds.Untyped.TheVariants as untyped'
use Rattle.go_types.specs.declared.kinds.OperandKind.{OperandKind}
use Rattle.go_types.specs.declared.kinds.OperandKind.TheVariants.{Typed, Untyped as Bare, Nil}
use Rattle.go_types.specs.declared.operator.Operator.{Operator}
use Rattle.go_types.specs.declared.operator.Operator.TheVariants.{Arithmetic, Compare, Both, Either}
use Rattle.go_types.specs.declared.conversion.Conversion.{Conversion}
use Rattle.go_types.specs.declared.conversion.Conversion.TheVariants.{Convert, Spell, Keep}
use Rattle.go_types.specs.declared.constant.Constant.{Constant}
use Rattle.go_types.specs.declared.constant.Constant.TheVariants.{Flag, Number, Text}
use Rattle.go_types.specs.declared.operand.Term.{Term}
use Rattle.go_types.specs.declared.operand.Term.TheVariants as term
use Rattle.go_types.specs.declared.operand.Operand.{Operand}
use Rattle.go_types.specs.declared.operand.Operand.TheVariants as operand
use Rattle.go_types.specs.Types as types
use Rattle.go_types.specs.Kinds.{joined, is_integer, is_text, is_flag, is_assignable}
use Rattle.go_types.specs.Operators.{result_kind, conversion_to}
use Rattle.go_types.specs.Checking.{Checked}
use Rattle.go_types.specs.Constants.{fits, within, number_of, on_numbers, on_texts, on_flags, binary_constant, unary_constant, converted}
use Rattle.go_types.specs.Operands.{constant_at}
use Rattle.go_typing.specs.Rules.{IsAssignable, identical, representable, nil, AreOf, left, right, untyped, IsConvertible, number, spelling, unchanged}
use Rattle.go_typing.specs.Laws.{is_of_kind, is_found_of_kind}
use Rattle.go_typing.proofs.Basics.{not_both, same_ok, no_fault, ok_then, ok_if}
use Rattle.go_typing.proofs.Agreement.{assignable_from}

abbrev pub term_fits : Term → Bool
term_fits (term.Constant k c) = is_of_kind k c
term_fits t = true

abbrev pub operand_fits : Operand → Bool
operand_fits (operand.Term t) = term_fits t
operand_fits o = true

pub fits_as_found : (o : Operand) → operand_fits o ≡ true → is_found_of_kind o ≡ true
fits_as_found (operand.Term (term.Constant k c)) h = h
fits_as_found (operand.Term term.Nil) h = refl
fits_as_found (operand.Term (term.Value t x)) h = refl
fits_as_found (operand.Results ts x) h = refl
fits_as_found (operand.Type t) h = refl
fits_as_found (operand.Callee c) h = refl
fits_as_found operand.Other h = refl

-- ---- a kind is of one sort of values

abbrev IsOther : Basic → Type 0
IsOther b = (types.same_basic b basic.String ≡ false) × (types.same_basic b basic.Bool ≡ false)

other_base : (c : Bool) (b : Basic) → is_some (cond c None (types.int_kind b)) ≡ true → IsOther b
other_base true b e = not_both false e refl
other_base false basic.Bool e = not_both false e refl
other_base false basic.String e = not_both false e refl
other_base false b e = (refl, refl)

pub integer_no_text : (k : OperandKind) → is_integer k ≡ true → is_text k ≡ false
integer_no_text (Typed t) e = and_right (t.channels == 0) _ (other_base (types.is_channel t) t.base e).0
integer_no_text (Bare untyped'.Int) e = refl
integer_no_text (Bare untyped'.Rune) e = refl
integer_no_text (Bare u) e = not_both false e refl
integer_no_text Nil e = refl

pub integer_no_flag : (k : OperandKind) → is_integer k ≡ true → is_flag k ≡ false
integer_no_flag (Typed t) e = and_right (t.channels == 0) _ (other_base (types.is_channel t) t.base e).1
integer_no_flag (Bare untyped'.Int) e = refl
integer_no_flag (Bare untyped'.Rune) e = refl
integer_no_flag (Bare u) e = not_both false e refl
integer_no_flag Nil e = refl

flag_base : (b : Basic) → types.same_basic b basic.Bool ≡ true → types.same_basic b basic.String ≡ false
flag_base basic.Bool e = refl
flag_base b e = not_both false e refl

pub flag_no_text : (k : OperandKind) → is_flag k ≡ true → is_text k ≡ false
flag_no_text (Typed t) e = and_right (t.channels == 0) _ (flag_base t.base (and_parts (t.channels == 0) _ e).1)
flag_no_text (Bare untyped'.Bool) e = refl
flag_no_text (Bare u) e = not_both false e refl
flag_no_text Nil e = refl

-- ---- constants in other kinds

pub assigned : (t : ValueType) (k : OperandKind) (c : Constant) → IsAssignable t k → is_of_kind k c ≡ true → is_of_kind (Typed t) c ≡ true
assigned _ _ c (identical t) h = h
assigned _ _ (Flag b) (representable t untyped'.Bool e) h = e
assigned _ _ (Text s) (representable t untyped'.String e) h = e
assigned _ _ (Number z) (representable t untyped'.Int e) h = e
assigned _ _ (Number z) (representable t untyped'.Rune e) h = e
assigned _ _ (Flag b) (representable t u e) h = not_both false h refl
assigned _ _ (Text s) (representable t u e) h = not_both false h refl
assigned _ _ (Number z) (representable t u e) h = not_both false h refl
assigned _ _ (Flag b) (nil t e) h = not_both false h refl
assigned _ _ (Text s) (nil t e) h = not_both false h refl
assigned _ _ (Number z) (nil t e) h = not_both false h refl

int_or_rune : (c : Constant) → is_of_kind (Bare untyped'.Int) c ≡ is_of_kind (Bare untyped'.Rune) c
int_or_rune (Number z) = refl
int_or_rune (Text s) = refl
int_or_rune (Flag b) = refl

bare : (u v : Untyped) (c : Constant) → Some u ≡ Some v → is_of_kind (Bare u) c ≡ true → is_of_kind (Bare v) c ≡ true
bare u v c e h = subst (λ x. is_of_kind (Bare x) c ≡ true) (same_Some u v e) h

together : (u v w : Untyped) (c : Constant) → joined u v ≡ Some w → is_of_kind (Bare u) c ≡ true → is_of_kind (Bare w) c ≡ true
together untyped'.Bool untyped'.Bool w c e h = bare untyped'.Bool w c e h
together untyped'.String untyped'.String w c e h = bare untyped'.String w c e h
together untyped'.Int untyped'.Int w c e h = bare untyped'.Int w c e h
together untyped'.Int untyped'.Rune w c e h = bare untyped'.Rune w c e (sym (int_or_rune c) ∙ h)
together untyped'.Rune untyped'.Int w c e h = bare untyped'.Rune w c e h
together untyped'.Rune untyped'.Rune w c e h = bare untyped'.Rune w c e h
together u v w c e h = absurd (none-some w e)

pub in_one_kind : (k l m : OperandKind) (c : Constant) → AreOf k l m → is_of_kind k c ≡ true → is_of_kind m c ≡ true
in_one_kind _ _ _ c (left t k a) h = h
in_one_kind _ _ _ c (right t k a) h = assigned t k c a h
in_one_kind _ _ _ c (untyped u v w e) h = together u v w c e h

-- ---- results

pub within_same : (at : ℕ) (k : OperandKind) (c d : Constant) → within at k c ≡ Ok d → c ≡ d
within_same at (Typed t) c d e = same_ok c d (ok_if (fits t c) (Ok c) at _ d e).1
within_same at (Bare u) c d e = same_ok c d e
within_same at Nil c d e = same_ok c d e

pub constant_found : (at : ℕ) (k : OperandKind) (r : Checked Constant) (t : Term) → constant_at at k r ≡ Ok t → (c : Constant) × (r ≡ Ok c) × (term.Constant k c ≡ t)
constant_found at k r t e =
    let p = ok_then r _ t e in
    let q = ok_then (within at k p.0) (λ d. Ok (term.Constant k d)) t p.2 in
    (p.0, p.1, ap (term.Constant k) (within_same at k p.0 q.0 q.1) ∙ same_ok (term.Constant k q.0) t q.2)

pub as_found : (k : OperandKind) (c d : Constant) → ◌≡◌ {A = Checked Constant} (Ok c) (Ok d) → is_of_kind k c ≡ true → is_of_kind k d ≡ true
as_found k c d e h = subst (λ x. is_of_kind k x ≡ true) (same_ok c d e) h

number_fits : (k : OperandKind) (r : Checked ℤ) (x : Constant) → is_integer k ≡ true → number_of r ≡ Ok x → is_of_kind k x ≡ true
number_fits k r x h e = let p = ok_then r (λ z. Ok (Number z)) x e in as_found k (Number p.0) x p.2 h

on_numbers_fit : (at : ℕ) (o : Operator) (k : OperandKind) (a b : ℤ) (x : Constant) → is_integer k ≡ true → on_numbers at o a b ≡ Ok x → is_of_kind (result_kind o k) x ≡ true
on_numbers_fit at (Arithmetic i) k a b x h e = number_fits k _ x h e
on_numbers_fit at (Compare r) k a b x h e = as_found (Bare untyped'.Bool) _ x e refl
on_numbers_fit at Both k a b x h e = no_fault _ x e
on_numbers_fit at Either k a b x h e = no_fault _ x e

on_texts_fit : (at : ℕ) (o : Operator) (k : OperandKind) (a b : List ℕ) (x : Constant) → is_text k ≡ true → on_texts at o a b ≡ Ok x → is_of_kind (result_kind o k) x ≡ true
on_texts_fit at (Arithmetic int.Add) k a b x h e = as_found k _ x e h
on_texts_fit at (Compare r) k a b x h e = as_found (Bare untyped'.Bool) _ x e refl
on_texts_fit at o k a b x h e = no_fault _ x e

on_flags_fit : (at : ℕ) (o : Operator) (k : OperandKind) (a b : Bool) (x : Constant) → is_flag k ≡ true → on_flags at o a b ≡ Ok x → is_of_kind (result_kind o k) x ≡ true
on_flags_fit at (Compare relation.Equal) k a b x h e = as_found (Bare untyped'.Bool) _ x e refl
on_flags_fit at (Compare relation.NotEqual) k a b x h e = as_found (Bare untyped'.Bool) _ x e refl
on_flags_fit at Both k a b x h e = as_found k _ x e h
on_flags_fit at Either k a b x h e = as_found k _ x e h
on_flags_fit at o k a b x h e = no_fault _ x e

pub binary_fits : (at : ℕ) (o : Operator) (k : OperandKind) (c d x : Constant) → is_of_kind k c ≡ true → binary_constant at o c d ≡ Ok x → is_of_kind (result_kind o k) x ≡ true
binary_fits at o k (Number a) (Number b) x h e = on_numbers_fit at o k a b x h e
binary_fits at o k (Text a) (Text b) x h e = on_texts_fit at o k a b x h e
binary_fits at o k (Flag a) (Flag b) x h e = on_flags_fit at o k a b x h e
binary_fits at o k (Number a) (Text b) x h e = no_fault _ x e
binary_fits at o k (Number a) (Flag b) x h e = no_fault _ x e
binary_fits at o k (Text a) (Number b) x h e = no_fault _ x e
binary_fits at o k (Text a) (Flag b) x h e = no_fault _ x e
binary_fits at o k (Flag a) (Number b) x h e = no_fault _ x e
binary_fits at o k (Flag a) (Text b) x h e = no_fault _ x e

-- a receive is for no constant
pub unary_fits : (at : ℕ) (o : UnaryOp) (k l : OperandKind) (c x : Constant) → is_of_kind k c ≡ true → unary_constant at o l c ≡ Ok x → is_of_kind k x ≡ true
unary_fits at unary.Plus k l (Number a) x h e = as_found k _ x e h
unary_fits at unary.Minus k l (Number a) x h e = number_fits k _ x h e
unary_fits at unary.Flip k l (Number a) x h e = number_fits k _ x h e
unary_fits at unary.Not k l (Flag a) x h e = as_found k _ x e h
unary_fits at o k l c x h e = no_fault _ x e

pub no_received : {A : Type 0} (at : ℕ) (l : OperandKind) (c x : Constant) → unary_constant at unary.Receive l c ≡ Ok x → A
no_received at l (Number a) x e = no_fault _ x e
no_received at l (Text a) x e = no_fault _ x e
no_received at l (Flag a) x e = no_fault _ x e

-- ---- conversions

-- the type takes values of the kind, and its constants stay constants of the type
abbrev Converts : ValueType → OperandKind → Conversion → Type 0
Converts t k how = IsConvertible t k × ((at : ℕ) (c d : Constant) → is_of_kind k c ≡ true → converted at how t c ≡ Ok d → is_of_kind (Typed t) d ≡ true)

kept_as : (at : ℕ) (t : ValueType) (c d : Constant) → within at (Typed t) c ≡ Ok d → is_of_kind (Typed t) c ≡ true → is_of_kind (Typed t) d ≡ true
kept_as at t c d e h = subst (λ x. is_of_kind (Typed t) x ≡ true) (within_same at (Typed t) c d e) h

spelled : (t : ValueType) (k : OperandKind) → is_integer k ≡ true → types.is_text t ≡ true → (at : ℕ) (c d : Constant) → is_of_kind k c ≡ true → converted at Spell t c ≡ Ok d → is_of_kind (Typed t) d ≡ true
spelled t k i x at (Number z) d h e = as_found (Typed t) _ d e x
spelled t k i x at (Text s) d h e = kept_as at t (Text s) d e x
spelled t k i x at (Flag b) d h e = not_both (is_flag k) h (integer_no_flag k i)

as_integer : (t : ValueType) (k : OperandKind) → is_integer k ≡ true → types.is_integer t ≡ true → (at : ℕ) (j : Kind) (c d : Constant) → is_of_kind k c ≡ true → converted at (Convert j) t c ≡ Ok d → is_of_kind (Typed t) d ≡ true
as_integer t k i x at j (Number z) d h e = kept_as at t (Number z) d e x
as_integer t k i x at j (Text s) d h e = not_both (is_text k) h (integer_no_text k i)
as_integer t k i x at j (Flag b) d h e = not_both (is_flag k) h (integer_no_flag k i)

integers : (t : ValueType) (k : OperandKind) (how : Conversion) (o : Option Kind) → is_integer k ≡ true → types.kind_of t ≡ o → option_map Convert o ≡ Some how → Converts t k how
integers t k how None i x e = absurd (none-some how e)
integers t k how (Some j) i x e = subst (Converts t k) (same_Some (Convert j) how e) (number t k i (ap is_some x), λ at. as_integer t k i (ap is_some x) at j)

keeps : (t : ValueType) (k : OperandKind) (how : Conversion) (b : Bool) → is_assignable t k ≡ b → cond b (Some Keep) None ≡ Some how → Converts t k how
keeps t k how false a e = absurd (none-some how e)
keeps t k how true a e =
    let h = assignable_from t k a in
    subst (Converts t k) (same_Some Keep how e) (unchanged t k h, λ at c d f g. kept_as at t c d g (assigned t k c h f))

by_sort : (t : ValueType) (k : OperandKind) (how : Conversion) (i x : Bool) → is_integer k ≡ i → types.is_text t ≡ x
    → cond (i && x) (Some Spell) (cond i (option_map Convert (types.kind_of t)) (cond (is_assignable t k) (Some Keep) None)) ≡ Some how → Converts t k how
by_sort t k how true true i x e = subst (Converts t k) (same_Some Spell how e) (spelling t k i x, spelled t k i x)
by_sort t k how true false i x e = integers t k how (types.kind_of t) i refl e
by_sort t k how false x i _ e = keeps t k how (is_assignable t k) refl e

pub conversion_found : (t : ValueType) (k : OperandKind) (how : Conversion) → conversion_to t k ≡ Some how → Converts t k how
conversion_found t k how e = by_sort t k how (is_integer k) (types.is_text t) refl refl e
