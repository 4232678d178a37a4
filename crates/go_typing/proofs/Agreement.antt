-- The one kind of two operands, by the rules and as it is found.
use Rattle.std.proofs.Common.{◌≡◌, ℕ, zero, suc, Bool, true, false, Option, Some, None, refl, sym, ap, ap₂, ◌∙◌, subst, arith}
use Rattle.std.specs.Prelude.{◌==◌, nat_lt, ◌&&◌, option_map}
use Rattle.std.proofs.lemmas.Bool.{eq-eqb, eqb-true, and_parts, and_from, and_left, false_from_ne_true}
use Rattle.std.proofs.lemmas.Option.{none-some, same_Some, cond_some}
use Rattle.go_types.specs.declared.types.Basic.{Basic}
use Rattle.go_types.specs.declared.types.Basic.TheVariants as basic
use Rattle.go_types.specs.declared.types.ValueType.{ValueType}
use Rattle.go_types.specs.declared.kinds.Untyped.{Untyped}
use Rattle.go_types.specs.declared.kinds.OperandKind.{OperandKind}
use Rattle.go_types.specs.declared.kinds.OperandKind.TheVariants.{Typed, Untyped as Bare, Nil}
use Rattle.go_types.specs.Types as types
use Rattle.go_types.specs.Kinds.{takes, joined, common, is_assignable, typed_if}
use Rattle.go_typing.specs.Rules.{IsAssignable, identical, representable, nil, AreOf, left, right, untyped}
use Rattle.go_typing.proofs.Basics.{not_both}

-- ---- types that are the same

abbrev by_number : ℕ → Basic
by_number zero = basic.Bool
by_number (suc zero) = basic.String
by_number (suc (suc zero)) = basic.Int
by_number (suc (suc (suc zero))) = basic.Int8
by_number (suc (suc (suc (suc zero)))) = basic.Int16
by_number (suc (suc (suc (suc (suc zero))))) = basic.Int32
by_number (suc (suc (suc (suc (suc (suc zero)))))) = basic.Int64
by_number (suc (suc (suc (suc (suc (suc (suc zero))))))) = basic.Uint
by_number (suc (suc (suc (suc (suc (suc (suc (suc zero)))))))) = basic.Uint8
by_number (suc (suc (suc (suc (suc (suc (suc (suc (suc zero))))))))) = basic.Uint16
by_number (suc (suc (suc (suc (suc (suc (suc (suc (suc (suc zero)))))))))) = basic.Uint32
by_number (suc (suc (suc (suc (suc (suc (suc (suc (suc (suc (suc zero))))))))))) = basic.Uint64
by_number n = basic.Bool

its_number : (b : Basic) → by_number (types.number b) ≡ b
its_number basic.Bool = refl
its_number basic.String = refl
its_number basic.Int = refl
its_number basic.Int8 = refl
its_number basic.Int16 = refl
its_number basic.Int32 = refl
its_number basic.Int64 = refl
its_number basic.Uint = refl
its_number basic.Uint8 = refl
its_number basic.Uint16 = refl
its_number basic.Uint32 = refl
its_number basic.Uint64 = refl

same_basic_refl : (b : Basic) → types.same_basic b b ≡ true
same_basic_refl b = eq-eqb (types.number b) (types.number b) refl

pub same_refl : (t : ValueType) → types.same t t ≡ true
same_refl t = and_from _ _ (eq-eqb t.channels t.channels refl) (same_basic_refl t.base)

pub same_from : (s t : ValueType) → types.same s t ≡ true → s ≡ t
same_from s t e =
    let p = and_parts _ _ e in
    let b : s.base ≡ t.base = sym (its_number s.base) ∙ ap by_number (eqb-true _ _ p.1) ∙ its_number t.base in
    let c : s.channels ≡ t.channels = eqb-true _ _ p.0 in
    ap₂ (λ (n : ℕ) (x : Basic). record { channels = n; base = x }) c b

channels_none : (n : ℕ) (x : Bool) → nat_lt 0 n ≡ true → (n == 0 && x) ≡ false
channels_none zero x e = not_both false e refl
channels_none (suc n) x e = and_left _ _ (false_from_ne_true (suc n == 0) (λ h. let f : suc n ≡ 0 = eqb-true (suc n) 0 h in absurd (omega (arith, f))))

pub channel_no_text : (t : ValueType) → types.is_channel t ≡ true → types.is_text t ≡ false
channel_no_text t e = channels_none t.channels (types.same_basic t.base basic.String) e

-- ---- a value as one of a type

pub assignable_from : (t : ValueType) (k : OperandKind) → is_assignable t k ≡ true → IsAssignable t k
assignable_from t (Typed s) e = subst (λ u. IsAssignable t (Typed u)) (sym (same_from s t e)) (identical t)
assignable_from t (Bare u) e = representable t u e
assignable_from t Nil e = nil t e

-- ---- one kind

common_left : (t : ValueType) (k : OperandKind) → IsAssignable t k → common (Typed t) k ≡ Some (Typed t)
common_left _ _ (identical t) = rw (same_refl t) refl
common_left _ _ (representable t u e) = rw e refl
common_left _ _ (nil t e) = rw e refl

common_right : (t : ValueType) (k : OperandKind) → IsAssignable t k → common k (Typed t) ≡ Some (Typed t)
common_right _ _ (identical t) = rw (same_refl t) refl
common_right _ _ (representable t u e) = rw e refl
common_right _ _ (nil t e) = rw e refl

pub common_is : (k l m : OperandKind) → AreOf k l m → common k l ≡ Some m
common_is _ _ _ (left t k a) = common_left t k a
common_is _ _ _ (right t k a) = common_right t k a
common_is _ _ _ (untyped u v w e) = ap (option_map Bare) e

typed_some : (b : Bool) (t : ValueType) (m : OperandKind) → typed_if b t ≡ Some m → (b ≡ true) × (Typed t ≡ m)
typed_some b t m e = cond_some b (Typed t) m e

left_from : (t : ValueType) (k m : OperandKind) (b : Bool) → (b ≡ true → IsAssignable t k) → typed_if b t ≡ Some m → AreOf (Typed t) k m
left_from t k m b h e = let p = typed_some b t m e in subst (λ x. AreOf (Typed t) k x) p.1 (left t k (h p.0))

right_from : (t : ValueType) (k m : OperandKind) (b : Bool) → (b ≡ true → IsAssignable t k) → typed_if b t ≡ Some m → AreOf k (Typed t) m
right_from t k m b h e = let p = typed_some b t m e in subst (λ x. AreOf k (Typed t) x) p.1 (right t k (h p.0))

untyped_from : (u v : Untyped) (o : Option Untyped) (m : OperandKind) → joined u v ≡ o → option_map Bare o ≡ Some m → AreOf (Bare u) (Bare v) m
untyped_from u v None m j e = absurd (none-some m e)
untyped_from u v (Some w) m j e = subst (λ x. AreOf (Bare u) (Bare v) x) (same_Some (Bare w) m e) (untyped u v w j)

pub common_from : (k l m : OperandKind) → common k l ≡ Some m → AreOf k l m
common_from (Typed s) (Typed t) m e = left_from s (Typed t) m (types.same t s) (λ h. assignable_from s (Typed t) h) e
common_from (Typed s) (Bare v) m e = left_from s (Bare v) m (takes s v) (λ h. representable s v h) e
common_from (Typed s) Nil m e = left_from s Nil m (types.is_channel s) (λ h. nil s h) e
common_from (Bare u) (Typed t) m e = right_from t (Bare u) m (takes t u) (λ h. representable t u h) e
common_from (Bare u) (Bare v) m e = untyped_from u v (joined u v) m refl e
common_from (Bare u) Nil m e = absurd (none-some m e)
common_from Nil (Typed t) m e = right_from t Nil m (types.is_channel t) (λ h. nil t h) e
common_from Nil (Bare v) m e = absurd (none-some m e)
common_from Nil Nil m e = absurd (none-some m e)
