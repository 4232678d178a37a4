-- What the rules of operators compute is there.
use Rattle.std.proofs.Common.{◌≡◌, ℕ, Bool, true, false, cond, List, [], ◌∷◌, ◌++◌, Option, Some, None, refl, is_some}
use Rattle.go_ast.specs.declared.kind.SourceKind.TheVariants as source
use Rattle.go_ast.specs.declared.expr.UnaryOp.{UnaryOp}
use Rattle.go_ast.specs.declared.expr.UnaryOp.TheVariants as unary'
use Rattle.go_value.specs.declared.operation.IntOp.TheVariants as int
use Rattle.go_meaning.specs.declared.expr.Expr.{Expr}
use Rattle.go_meaning.specs.declared.expr.Expr.TheVariants as expr
use Rattle.go_meaning.specs.declared.expr.Op.{Op}
use Rattle.go_meaning.specs.declared.expr.Op.TheVariants as op
use Rattle.go_meaning.specs.Programs.{Parts}
use Rattle.go_meaning.specs.WellFormed.{function, uses_of_op, IsThere, AreThere}
use Rattle.go_types.specs.declared.types.ValueType.{ValueType}
use Rattle.go_types.specs.declared.kinds.OperandKind.{OperandKind}
use Rattle.go_types.specs.declared.kinds.OperandKind.TheVariants as kind
use Rattle.go_types.specs.declared.operator.Operator.{Operator}
use Rattle.go_types.specs.declared.operator.Operator.TheVariants.{Arithmetic, Compare, Both, Either}
use Rattle.go_types.specs.declared.constant.Constant.{Constant}
use Rattle.go_types.specs.declared.operand.Term.{Term}
use Rattle.go_types.specs.declared.operand.Term.TheVariants.{Constant as Fixed, Nil, Value as Computed}
use Rattle.go_types.specs.declared.operand.Operand.{Operand}
use Rattle.go_types.specs.declared.operand.Operand.TheVariants as operand
use Rattle.go_types.specs.declared.operand.Part.{Part}
use Rattle.go_types.specs.declared.operand.Argument.{Argument}
use Rattle.go_types.specs.Types as types
use Rattle.go_types.specs.Checking.{Checked}
use Rattle.go_types.specs.Constants.{within, binary_constant}
use Rattle.go_types.specs.Operators.{result_kind, is_for}
use Rattle.go_types.specs.Kinds.{common}
use Rattle.go_types.specs.Operands.{kind_of, kind_at, own_type, fitted, into, in_own_type, or_wrong, valued, value, valued_part, operation, constant_at, computed, of_kind, plain, shifted, shift_by, shift_of, shift, binary, before, unary_of, unary, place, place_type, text_at, index, place_if, cut}
use Rattle.go_bounds.specs.Known.{Each, IsTerm, IsOperand}
use Rattle.go_bounds.proofs.Sure.{Sure, sure_ok, sure_err, sure_then, sure_if, sure_any}
use Rattle.go_bounds.proofs.Uses.{Computes, c_value, c_and, c_or, c_apply, c_receive}
use Rattle.go_bounds.proofs.Naming.{Perhaps, each_append}

module _ (P : Parts) (slots : ℕ) where
  abbrev C : Expr → Type 0
  C = Computes P slots

  abbrev T : Term → Type 0
  T = IsTerm P slots

  abbrev pub IsArgument : Argument → Type 0
  IsArgument a = T a.term

  -- an operation that names nothing
  pub c_quiet : (o : Op) (es : List Expr) → uses_of_op o ≡ [] → Each C es → C (expr.Apply o es)
  c_quiet o es e k = c_apply P slots o es (there _ e) k
    where
      there : (us : List Rattle.go_meaning.specs.WellFormed.Use) → us ≡ [] → AreThere P slots us
      there [] h = tt
      there (u ∷ us) h = cc

  pub fitted_sure : (at : ℕ) (t : ValueType) (x : Term) → T x → Sure (fitted at t x) C
  fitted_sure at t (Fixed k c) h = sure_then (sure_any _) (λ d u. sure_ok _ (c_value P slots _))
  fitted_sure at t Nil h = sure_ok _ (c_value P slots _)
  fitted_sure at t (Computed s e) h = sure_ok e (record { there = h })

  pub into_sure : (t : ValueType) (a : Argument) → IsArgument a → Sure (into t a) C
  into_sure t a h = sure_if _ (fitted_sure a.at t a.term h) (sure_err a.at source.WrongType)

  pub own_sure : (a : Argument) → IsArgument a → Sure (in_own_type a) C
  own_sure a h = fitted_sure a.at (own_type (kind_at a)) a.term h

  pub valued_sure : (at : ℕ) (o : Operand) → IsOperand P slots o → Sure (valued at o) IsArgument
  valued_sure at (operand.Term t) h = sure_ok _ h
  valued_sure at (operand.Results ts e) h = sure_err at source.WrongCount
  valued_sure at o h = sure_err at source.WrongType

  abbrev pub IsPart : Part → Type 0
  IsPart p = IsOperand P slots p.operand

  pub value_sure : (p : Part) → IsPart p → Sure (value p) IsArgument
  value_sure p h = valued_sure p.at p.operand h

  pub valued_part_sure : (p : Part) → IsPart p → Sure (valued_part p) IsPart
  valued_part_sure p h = sure_then (value_sure p h) (λ a k. sure_ok _ k)

  -- ---- binary operators

  joins : (b : Bool) → uses_of_op (cond b op.Join (op.Arithmetic int.Add)) ≡ []
  joins true = refl
  joins false = refl

  operation_there : (o : Operator) (t : ValueType) (x y : Expr) → C x → C y → C (operation o t x y)
  operation_there (Arithmetic int.Add) t x y h k = c_quiet _ (x ∷ y ∷ []) (joins (types.is_text t)) (h, (k, tt))
  operation_there (Arithmetic i) t x y h k = c_quiet _ (x ∷ y ∷ []) refl (h, (k, tt))
  operation_there (Compare r) t x y h k = c_quiet _ (x ∷ y ∷ []) refl (h, (k, tt))
  operation_there Both t x y h k = c_and P slots x y h k
  operation_there Either t x y h k = c_or P slots x y h k

  pub constant_sure : (at : ℕ) (k : OperandKind) (r : Checked Constant) → Sure (constant_at at k r) T
  constant_sure at k r = sure_then (sure_any r) (λ c u. sure_then (sure_any (within at k c)) (λ d v. sure_ok (Fixed k d) tt))

  computed_sure : (at : ℕ) (o : Operator) (t : ValueType) (a b : Argument) → IsArgument a → IsArgument b → Sure (computed at o t a b) T
  computed_sure at o t a b h k =
      sure_then (fitted_sure a.at t a.term h) (λ x p.
      sure_then (fitted_sure b.at t b.term k) (λ y q.
      sure_if _ (sure_err at source.ConstDivide) (sure_ok _ (operation_there o t x y p q).there)))

  of_kind_sure : (at : ℕ) (o : Operator) (k : OperandKind) (i : ℕ) (s : Term) (j : ℕ) (t : Term) → T s → T t → Sure (of_kind at o k i s j t) T
  of_kind_sure at o k i (Fixed p c) j (Fixed q d) h l = sure_then (sure_any (within i k c)) (λ x u. sure_then (sure_any (within j k d)) (λ y v. constant_sure at (result_kind o k) (binary_constant at o x y)))
  of_kind_sure at o k i s j t h l = computed_sure at o (own_type k) (record { at = i; term = s }) (record { at = j; term = t }) h l

  plain_sure : (at : ℕ) (o : Operator) (a b : Argument) → IsArgument a → IsArgument b → Sure (plain at o a b) T
  plain_sure at o a b h k =
      sure_then (sure_any (or_wrong at (common (kind_at a) (kind_at b)))) (λ l u. sure_if (is_for o l) (of_kind_sure at o l a.at a.term b.at b.term h k) (sure_err at source.WrongType))

  shifted_sure : (o : Operator) (t : ValueType) (a b : Argument) → IsArgument a → IsArgument b → Sure (shifted o t a b) T
  shifted_sure o t a b h k =
      sure_then (own_sure b k) (λ y q. sure_then (fitted_sure a.at t a.term h) (λ x p. sure_ok _ (operation_there o t x y p q).there))

  shift_by_sure : (at : ℕ) (o : Operator) (a : Argument) (k : OperandKind) (b : Argument) → IsArgument a → IsArgument b → Sure (shift_by at o a k b) T
  shift_by_sure at o a (kind.Typed t) b h l = shifted_sure o t a b h l
  shift_by_sure at o a k b h l = sure_err at source.UntypedShift

  shift_of_sure : (at : ℕ) (o : Operator) (i : ℕ) (s : Term) (j : ℕ) (t : Term) → T s → T t → Sure (shift_of at o i s j t) T
  shift_of_sure at o i (Fixed k c) j (Fixed l d) h m = constant_sure at k _
  shift_of_sure at o i s j t h m = shift_by_sure at o (record { at = i; term = s }) (kind_of s) (record { at = j; term = t }) h m

  shift_sure : (at : ℕ) (o : Operator) (a b : Argument) → IsArgument a → IsArgument b → Sure (shift at o a b) T
  shift_sure at o a b h k =
      sure_if _ (sure_err at source.WrongType) (sure_if _ (sure_err b.at source.ConstRange) (shift_of_sure at o a.at a.term b.at b.term h k))

  pub binary_sure : (at : ℕ) (o : Operator) (a b : Argument) → IsArgument a → IsArgument b → Sure (binary at o a b) T
  unfolding binary
  binary_sure at o a b h k = sure_if _ (shift_sure at o a b h k) (plain_sure at o a b h k)

  -- ---- unary operators

  before_there : (o : UnaryOp) (x : Expr) → C x → C (before o x)
  before_there unary'.Plus x h = c_quiet op.Plus (x ∷ []) refl (h, tt)
  before_there unary'.Minus x h = c_quiet op.Minus (x ∷ []) refl (h, tt)
  before_there unary'.Not x h = c_quiet op.Not (x ∷ []) refl (h, tt)
  before_there unary'.Flip x h = c_quiet op.Flip (x ∷ []) refl (h, tt)
  before_there unary'.Receive x h = c_receive P slots x h

  unary_of_sure : (at : ℕ) (o : UnaryOp) (k : OperandKind) (t : Term) → T t → Sure (unary_of at o k t) T
  unary_of_sure at o k (Fixed l c) h = constant_sure at k _
  unary_of_sure at o k Nil h = sure_err at source.WrongType
  unary_of_sure at o k (Computed t e) h = sure_ok _ (before_there o e (record { there = h })).there

  pub unary_sure : (at : ℕ) (o : UnaryOp) (a : Argument) → IsArgument a → Sure (unary at o a) T
  unfolding unary
  unary_sure at o a h = sure_then (sure_any _) (λ k u. unary_of_sure at o k a.term h)

  -- ---- indices and cuts

  pub place_sure : (a : Argument) → IsArgument a → Sure (place a) C
  unfolding place
  place_sure a h = sure_if _ (sure_err a.at source.WrongType) (sure_if _ (sure_err a.at source.ConstRange) (fitted_sure a.at (place_type (kind_at a)) a.term h))

  pub text_sure : (at : ℕ) (a : Argument) → IsArgument a → Sure (text_at at a) C
  text_sure at a h = sure_if _ (fitted_sure a.at types.text a.term h) (sure_err at source.WrongType)

  pub index_sure : (at : ℕ) (s i : Argument) → IsArgument s → IsArgument i → Sure (index at s i) T
  unfolding index
  index_sure at s i h k = sure_then (text_sure at s h) (λ x p. sure_then (place_sure i k) (λ y q. sure_ok _ (c_quiet op.Index (x ∷ y ∷ []) refl (p, (q, tt))).there))

  pub place_if_sure : (o : Option Argument) → Perhaps IsArgument o → Sure (place_if o) (Each C)
  place_if_sure None h = sure_ok [] tt
  place_if_sure (Some a) h = sure_then (place_sure a h) (λ x p. sure_ok (x ∷ []) (p, tt))

  pub cut_sure : (at : ℕ) (s : Argument) (low high : Option Argument) → IsArgument s → Perhaps IsArgument low → Perhaps IsArgument high → Sure (cut at s low high) T
  unfolding cut
  cut_sure at s low high h k l =
      sure_then (text_sure at s h) (λ x p.
      sure_then (place_if_sure low k) (λ i q.
      sure_then (place_if_sure high l) (λ j r.
      sure_ok _ (c_quiet (op.Cut (is_some low) (is_some high)) (x ∷ i ++ j) refl (p, each_append C i j q r)).there)))
