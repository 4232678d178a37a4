-- An expression is of one sort: what a rule gives is a function of its parts' sorts.
use Rattle.std.proofs.Common.{◌≡◌, Bool, true, false, cond, List, [], ◌∷◌, Option, Some, None, refl, sym, ap, ap₂, ◌∙◌}
use Rattle.std.specs.Prelude.{option_map, slice_get}
use Rattle.std.proofs.lemmas.Option.{same_Some}
use Rattle.go_ast.specs.declared.name.Name.{Name}
use Rattle.go_ast.specs.declared.expr.TypeExpr.{TypeExpr}
use Rattle.go_ast.specs.declared.expr.TypeForm.{TypeForm}
use Rattle.go_ast.specs.declared.expr.TypeForm.TheOpen.{TypeForm-F}
use Rattle.go_ast.specs.declared.expr.Expr.{Expr}
use Rattle.go_ast.specs.declared.expr.ExprForm.{ExprForm}
use Rattle.go_ast.specs.declared.expr.ExprForm.TheOpen.{ExprForm-F}
use Rattle.go_ast.specs.declared.expr.UnaryOp.{UnaryOp}
use Rattle.go_ast.specs.declared.expr.UnaryOp.TheVariants as unary
use Rattle.go_value.specs.declared.operation.IntOp.TheVariants as int'
use Rattle.go_types.specs.declared.types.ValueType.{ValueType}
use Rattle.go_types.specs.declared.kinds.OperandKind.{OperandKind}
use Rattle.go_types.specs.declared.kinds.OperandKind.TheVariants.{Typed, Nil}
use Rattle.go_types.specs.declared.operator.Operator.{Operator}
use Rattle.go_types.specs.declared.operator.Operator.TheVariants.{Arithmetic}
use Rattle.go_types.specs.declared.names.Callee.{Callee}
use Rattle.go_types.specs.declared.names.Callee.TheVariants as callees
use Rattle.go_types.specs.declared.names.Meaning.{Meaning}
use Rattle.go_types.specs.declared.names.Meaning.TheVariants as meaning
use Rattle.go_types.specs.declared.names.Imported.{Imported}
use Rattle.go_types.specs.declared.names.Imported.TheVariants as imported
use Rattle.go_types.specs.declared.names.Names.{Names}
use Rattle.go_types.specs.Types as types
use Rattle.go_types.specs.Kinds.{common, is_text}
use Rattle.go_types.specs.Names.{find, last_named, names_of, of_table, standard, known, mutex_methods, group_methods}
use Rattle.go_types.specs.Operands.{shifts}
use Rattle.go_types.specs.Operators.{operator_of, result_kind}
use Rattle.go_types.specs.Expressions.{channel_of}
use Rattle.go_typing.specs.Sorts.{Value, constant, computed, typed, Sort, value, results, type_, callee, sort_meant}
use Rattle.go_typing.specs.Rules as rules
use Rattle.go_typing.specs.Rules.{AreOf, IsShift, to_the_left, to_the_right, type_given, both_constant, Operated, Signed, Gives, IsChannel, channel, given, signature_of}
use Rattle.go_typing.specs.Typing as typing
use Rattle.go_typing.specs.Typing.{IsMember, of_library, of_package, of_mutex, of_group, type_shape, IsType, shape, Has, IsBound, AreValues}
use Rattle.go_typing.specs.Laws.{OneSort, OneType}
use Rattle.go_typing.proofs.Basics.{not_both}
use Rattle.go_typing.proofs.Agreement.{common_is, channel_no_text}

-- ---- operators

pub is_shift : (o : Operator) → IsShift o → shifts o ≡ true
is_shift _ to_the_left = refl
is_shift _ to_the_right = refl

pub no_shift : (o : Operator) → (IsShift o → ⊥) → shifts o ≡ false
no_shift (Arithmetic int'.Shl) n = absurd (n to_the_left)
no_shift (Arithmetic int'.Shr) n = absurd (n to_the_right)
no_shift o n = refl

abbrev picked : Bool → Bool → Operator → OperandKind → Option OperandKind → Value
picked true c o k m = record { constant = c; kind = k }
picked false true o k (Some m) = constant (result_kind o m)
picked false false o k (Some (Typed t)) = typed (type_given o t)
picked s c o k m = computed k

abbrev operated : Operator → Value → Value → Value
operated o v w = picked (shifts o) (both_constant v w) o v.kind (common v.kind w.kind)

operated_is : (o : Operator) (v w x : Value) → Operated o v w x → x ≡ operated o v w
operated_is _ _ _ _ (rules.constants o k l m n a f) = sym (ap₂ (λ s j. picked s true o k j) (no_shift o n) (common_is k l m a))
operated_is _ _ _ _ (rules.values o v w t n c a f) = rw (no_shift o n, c, common_is v.kind w.kind (Typed t) a) refl
operated_is _ _ _ _ (rules.constant_shift o k l s i j) = sym (ap (λ s. picked s true o k (common k l)) (is_shift o s))
operated_is _ _ _ _ (rules.shift o v w t s c e i j) = rw (is_shift o s, c, e) refl

abbrev type_in : OperandKind → ValueType
type_in (Typed t) = t
type_in k = types.int

abbrev signed : UnaryOp → Value → Value
signed unary.Receive v = typed (types.element (type_in v.kind))
signed o v = v

signed_is : (o : UnaryOp) (v w : Value) → Signed o v w → w ≡ signed o v
signed_is _ _ _ (rules.plus v e) = refl
signed_is _ _ _ (rules.minus v e) = refl
signed_is _ _ _ (rules.flip v e) = refl
signed_is _ _ _ (rules.not_ v e) = refl
signed_is _ _ _ (rules.receive v t e c) = rw e refl

-- ---- calls

no_text : (k : OperandKind) → IsChannel k → is_text k ≡ false
no_text _ (channel t e) = channel_no_text t e

abbrev length_of : Value → Sort
length_of v = cond (is_text v.kind) (value (record { constant = v.constant; kind = Typed types.int })) (value (typed types.int))

abbrev gives : Names → Callee → List Value → Sort
gives ns (callees.Function f) vs = given (signature_of ns f).results
gives ns callees.Len (v ∷ vs) = length_of v
gives ns callees.Cap vs = value (typed types.int)
gives ns callees.Itoa vs = value (typed types.text)
gives ns c vs = results []

gives_is : (ns : Names) (c : Callee) (vs : List Value) (s : Sort) → Gives ns c vs s → s ≡ gives ns c vs
gives_is ns _ _ _ (rules.function f vs p) = refl
gives_is ns _ _ _ (rules.length v e) = rw e refl
gives_is ns _ _ _ (rules.buffered v e) = rw (no_text v.kind e) refl
gives_is ns _ _ _ (rules.capacity v e) = refl
gives_is ns _ _ _ (rules.spelled v e) = refl
gives_is ns _ _ _ (rules.printed vs e) = refl
gives_is ns _ _ _ (rules.closed v e) = refl
gives_is ns _ _ _ (rules.panics v e) = refl
gives_is ns _ _ _ (rules.exits v e) = refl
gives_is ns _ _ _ (rules.locked m) = refl
gives_is ns _ _ _ (rules.unlocked m) = refl
gives_is ns _ _ _ (rules.added g v e) = refl
gives_is ns _ _ _ (rules.done g) = refl
gives_is ns _ _ _ (rules.waited g) = refl

-- ---- names

abbrev in_import : Names → Name → Option Imported → Option Meaning
in_import ns n (Some (imported.Standard s)) = option_map known (of_table (standard s) n.text)
in_import ns n (Some (imported.Package q)) = last_named n.text (names_of ns q)
in_import ns n None = None

abbrev member_meant : Names → Name → Option Meaning → Option Meaning
member_meant ns n (Some (meaning.Import i)) = in_import ns n (slice_get ns.imports i)
member_meant ns n (Some (meaning.Mutex m)) = option_map known (of_table (mutex_methods m) n.text)
member_meant ns n (Some (meaning.Group g)) = option_map known (of_table (group_methods g) n.text)
member_meant ns n x = None

member_is : (ns : Names) (p n : Name) (x : Meaning) → IsMember ns p n x → member_meant ns n (find ns p.text) ≡ Some x
member_is ns _ _ _ (of_library p n i s x a b c) = ap (member_meant ns n) a ∙ ap (in_import ns n) b ∙ ap (option_map known) c
member_is ns _ _ _ (of_package p n i q x a b c d) = ap (member_meant ns n) a ∙ ap (in_import ns n) b ∙ c
member_is ns _ _ _ (of_mutex p n m x a c) = ap (member_meant ns n) a ∙ ap (option_map known) c
member_is ns _ _ _ (of_group p n g x a c) = ap (member_meant ns n) a ∙ ap (option_map known) c

one_member : (ns : Names) (p n : Name) (x y : Meaning) → IsMember ns p n x → IsMember ns p n y → x ≡ y
one_member ns p n x y h k = same_Some x y (sym (member_is ns p n x h) ∙ member_is ns p n y k)

-- ---- types

abbrev type_meant : Meaning → ValueType
type_meant (meaning.Type t) = t
type_meant x = types.int

one_shape : (ns : Names) (x : TypeForm-F TypeForm TypeExpr) (t u : ValueType) → IsType ns x t → IsType ns x u → t ≡ u
one_shape ns _ _ _ (typing.plain n t e) (typing.plain _ u f) = ap type_meant (same_Some (meaning.Type t) (meaning.Type u) (sym e ∙ f))
one_shape ns _ _ _ (typing.member p n t e) (typing.member _ _ u f) = ap type_meant (one_member ns p n (meaning.Type t) (meaning.Type u) e f)
one_shape ns _ _ _ (typing.channel e t h) (typing.channel _ u k) = ap channel_of (one_shape ns (type_shape e) t u h k)

pub one_type : OneType
one_type ns e t u h k = one_shape ns (type_shape e) t u h k

-- ---- sorts

abbrev pub value_in : Sort → Value
value_in (value v) = v
value_in s = computed Nil

abbrev type_of_sort : Sort → ValueType
type_of_sort (type_ t) = t
type_of_sort s = types.int

abbrev callee_in : Sort → Callee
callee_in (callee c) = c
callee_in s = callees.Make

abbrev is_type : Sort → Bool
is_type (type_ t) = true
is_type s = false

apart : {A : Type 0} (s t : Sort) → s ≡ t → is_type s ≡ true → is_type t ≡ false → A
apart s t e a b = not_both (is_type s) a (ap is_type e ∙ b)

mutual
  pub one_form : (ns : Names) (x : ExprForm-F ExprForm Expr) (s t : Sort) → Has ns x s → Has ns x t → s ≡ t
  one_form ns _ _ _ (typing.int b) (typing.int _) = refl
  one_form ns _ _ _ (typing.rune c) (typing.rune _) = refl
  one_form ns _ _ _ (typing.text b) (typing.text _) = refl
  one_form ns _ _ _ (typing.plain n x e) (typing.plain _ y f) = ap sort_meant (same_Some x y (sym e ∙ f))
  one_form ns _ _ _ (typing.member p n x e) (typing.member _ _ y f) = ap sort_meant (one_member ns p n x y e f)
  one_form ns _ _ _ (typing.channel e t h) (typing.channel _ u k) = ap (λ r. type_ (channel_of r)) (one_shape ns (type_shape e) t u h k)
  one_form ns _ _ _ (typing.parens e s h) (typing.parens _ t k) = one_form ns (shape e) s t h k
  one_form ns _ _ _ (typing.signed o a v w h r) (typing.signed _ _ v' w' h' r') =
      ap value (signed_is o v w r ∙ ap (signed o) (ap value_in (one_form ns (shape a) (value v) (value v') h h')) ∙ sym (signed_is o v' w' r'))
  one_form ns _ _ _ (typing.operated o a b v w x h k r) (typing.operated _ _ _ v' w' x' h' k' r') =
      ap value (operated_is (operator_of o) v w x r
      ∙ ap₂ (operated (operator_of o)) (ap value_in (one_form ns (shape a) (value v) (value v') h h')) (ap value_in (one_form ns (shape b) (value w) (value w') k k'))
      ∙ sym (operated_is (operator_of o) v' w' x' r'))
  one_form ns _ _ _ (typing.indexed a i v w h e k f) (typing.indexed _ _ v' w' h' e' k' f') = refl
  one_form ns _ _ _ (typing.cut a low high v h e i j) (typing.cut _ _ _ v' h' e' i' j') = refl
  one_form ns _ _ _ (typing.converted f a t v h k r) (typing.converted _ _ t' v' h' k' r') =
      ap₂ (λ (u : ValueType) (w : Value). value (record { constant = w.constant; kind = Typed u })) (ap type_of_sort (one_form ns (shape f) (type_ t) (type_ t') h h')) (ap value_in (one_form ns (shape a) (value v) (value v') k k'))
  one_form ns _ _ _ (typing.converted f a t v h k r) (typing.made _ _ t' h' k' r') = apart (type_ t) (callee callees.Make) (one_form ns (shape f) (type_ t) (callee callees.Make) h h') refl refl
  one_form ns _ _ _ (typing.converted f a t v h k r) (typing.called _ _ c vs s h' k' r') = apart (type_ t) (callee c) (one_form ns (shape f) (type_ t) (callee c) h h') refl refl
  one_form ns _ _ _ (typing.made f a t h k r) (typing.converted _ _ t' v h' k' r') = apart (type_ t) (value v) (one_form ns (shape a) (type_ t) (value v) k k') refl refl
  one_form ns _ _ _ (typing.made f a t h k r) (typing.made _ _ t' h' k' r') = ap (λ u. value (typed u)) (ap type_of_sort (one_form ns (shape a) (type_ t) (type_ t') k k'))
  one_form ns _ _ _ (typing.made f a t h k r) (typing.called _ _ c _ s h' (typing.more _ _ v _ k' _) r') = apart (type_ t) (value v) (one_form ns (shape a) (type_ t) (value v) k k') refl refl
  one_form ns _ _ _ (typing.made_of_size f a b t v h k r m i) (typing.made_of_size _ _ _ t' v' h' k' r' m' i') = ap (λ u. value (typed u)) (ap type_of_sort (one_form ns (shape a) (type_ t) (type_ t') k k'))
  one_form ns _ _ _ (typing.made_of_size f a b t v h k r m i) (typing.called _ _ c _ s h' (typing.more _ _ w _ k' _) r') = apart (type_ t) (value w) (one_form ns (shape a) (type_ t) (value w) k k') refl refl
  one_form ns _ _ _ (typing.called f _ c _ s h k r) (typing.converted _ _ t v h' k' r') = apart (type_ t) (callee c) (sym (one_form ns (shape f) (callee c) (type_ t) h h')) refl refl
  one_form ns _ _ _ (typing.called f _ c _ s h (typing.more a _ w _ k _) r) (typing.made _ _ t h' k' r') = apart (type_ t) (value w) (sym (one_form ns (shape a) (value w) (type_ t) k k')) refl refl
  one_form ns _ _ _ (typing.called f _ c _ s h (typing.more a _ w _ k _) r) (typing.made_of_size _ _ b t v h' k' r' m i) = apart (type_ t) (value w) (sym (one_form ns (shape a) (value w) (type_ t) k k')) refl refl
  one_form ns _ _ _ (typing.called f es c vs s h k r) (typing.called _ _ c' vs' s' h' k' r') =
      gives_is ns c vs s r ∙ ap₂ (gives ns) (ap callee_in (one_form ns (shape f) (callee c) (callee c') h h')) (same_values ns es vs vs' k k') ∙ sym (gives_is ns c' vs' s' r')

  same_values : (ns : Names) (es : List Expr) (vs ws : List Value) → AreValues ns es vs → AreValues ns es ws → vs ≡ ws
  same_values ns _ _ _ typing.none typing.none = refl
  same_values ns _ _ _ (typing.more e es v vs h k) (typing.more _ _ w ws h' k') = ap₂ (λ (x : Value) xs. x ∷ xs) (ap value_in (one_form ns (shape e) (value v) (value w) h h')) (same_values ns es vs ws k k')

pub one_sort : OneSort
one_sort ns e s t h k = one_form ns (shape e) s t h k
