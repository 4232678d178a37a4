-- The rules of operators, conversions and calls for values of given kinds. Go specification, "Operators",
-- "Arithmetic operators", "Comparison operators", "Logical operators", "Receive operator", "Conversions",
-- "Assignability", "Calls", "Length and capacity" and "Constant expressions".
use Rattle.std.specs.Prelude.{◌≡◌, ℕ, Bool, true, false, ◌&&◌, List, [], ◌∷◌, Some, slice_get, unwrap_or}
use Rattle.go_ast.specs.declared.expr.UnaryOp.{UnaryOp}
use Rattle.go_ast.specs.declared.expr.UnaryOp.TheVariants as unary
use Rattle.go_value.specs.declared.operation.IntOp.TheVariants as int
use Rattle.go_types.specs.declared.types.ValueType.{ValueType}
use Rattle.go_types.specs.declared.kinds.Untyped.{Untyped}
use Rattle.go_types.specs.declared.kinds.OperandKind.{OperandKind}
use Rattle.go_types.specs.declared.kinds.OperandKind.TheVariants.{Typed, Untyped as Bare, Nil}
use Rattle.go_types.specs.declared.operator.Operator.{Operator}
use Rattle.go_types.specs.declared.operator.Operator.TheVariants.{Arithmetic, Compare}
use Rattle.go_types.specs.declared.names.Callee.{Callee}
use Rattle.go_types.specs.declared.names.Callee.TheVariants as callees
use Rattle.go_types.specs.declared.names.Signature.{Signature}
use Rattle.go_types.specs.declared.names.Names.{Names}
use Rattle.go_types.specs.Types as types
use Rattle.go_types.specs.Kinds.{takes, joined, is_integer, is_text, is_flag}
use Rattle.go_types.specs.Operators.{is_for, result_kind}
use Rattle.go_typing.specs.Sorts.{Value, constant, typed, Sort, value, results}

-- ---- types that values take

-- A value of a kind can be used as one of a type: it has the type, an untyped constant can take it, or `nil` stands for a channel.
pub data IsAssignable : ValueType → OperandKind → Type 0 where
  identical : (t : ValueType) → IsAssignable t (Typed t)
  representable : (t : ValueType) (u : Untyped) → takes t u ≡ true → IsAssignable t (Bare u)
  nil : (t : ValueType) → types.is_channel t ≡ true → IsAssignable t Nil

-- The one kind of two operands. Their types are identical, or one has a type and the other can be used as one of it, or
-- both are untyped constants: then of two numbers a rune comes before an integer.
pub data AreOf : OperandKind → OperandKind → OperandKind → Type 0 where
  left : (t : ValueType) (k : OperandKind) → IsAssignable t k → AreOf (Typed t) k (Typed t)
  right : (t : ValueType) (k : OperandKind) → IsAssignable t k → AreOf k (Typed t) (Typed t)
  untyped : (u v w : Untyped) → joined u v ≡ Some w → AreOf (Bare u) (Bare v) (Bare w)

pub data IsChannel : OperandKind → Type 0 where
  channel : (t : ValueType) → types.is_channel t ≡ true → IsChannel (Typed t)

-- ---- operators

pub data IsShift : Operator → Type 0 where
  to_the_left : IsShift (Arithmetic int.Shl)
  to_the_right : IsShift (Arithmetic int.Shr)

-- two operands of a type give one of it, but where they are compared a bool
abbrev pub type_given : Operator → ValueType → ValueType
type_given (Compare r) t = types.flag
type_given o t = t

abbrev pub both_constant : Value → Value → Bool
both_constant v w = v.constant && w.constant

-- Operated o v w x: an operator takes values v and w, and gives x.
pub data Operated : Operator → Value → Value → Value → Type 0 where
  -- of two constants of one kind the result is constant; a comparison gives an untyped bool
  constants : (o : Operator) (k l m : OperandKind) → (IsShift o → ⊥) → AreOf k l m → is_for o m ≡ true
      → Operated o (constant k) (constant l) (constant (result_kind o m))
  -- else the operands have one type
  values : (o : Operator) (v w : Value) (t : ValueType) → (IsShift o → ⊥) → both_constant v w ≡ false → AreOf v.kind w.kind (Typed t) → is_for o (Typed t) ≡ true
      → Operated o v w (typed (type_given o t))
  -- a shift has integers on both sides and the kind of the left one, which has a type unless both are constant
  constant_shift : (o : Operator) (k l : OperandKind) → IsShift o → is_integer k ≡ true → is_integer l ≡ true
      → Operated o (constant k) (constant l) (constant k)
  shift : (o : Operator) (v w : Value) (t : ValueType) → IsShift o → both_constant v w ≡ false → v.kind ≡ Typed t → types.is_integer t ≡ true → is_integer w.kind ≡ true
      → Operated o v w (typed t)

-- Signed o v w: the operator before v gives w.
pub data Signed : UnaryOp → Value → Value → Type 0 where
  plus : (v : Value) → is_integer v.kind ≡ true → Signed unary.Plus v v
  minus : (v : Value) → is_integer v.kind ≡ true → Signed unary.Minus v v
  flip : (v : Value) → is_integer v.kind ≡ true → Signed unary.Flip v v
  not_ : (v : Value) → is_flag v.kind ≡ true → Signed unary.Not v v
  receive : (v : Value) (t : ValueType) → v.kind ≡ Typed t → types.is_channel t ≡ true → Signed unary.Receive v (typed (types.element t))

-- ---- conversions

-- an integer to an integer type or to a string, and else what can be used as a value of the type
pub data IsConvertible : ValueType → OperandKind → Type 0 where
  number : (t : ValueType) (k : OperandKind) → is_integer k ≡ true → types.is_integer t ≡ true → IsConvertible t k
  spelling : (t : ValueType) (k : OperandKind) → is_integer k ≡ true → types.is_text t ≡ true → IsConvertible t k
  unchanged : (t : ValueType) (k : OperandKind) → IsAssignable t k → IsConvertible t k

-- ---- calls

-- each value can be used as one of its parameter's type
pub data ArePassed : List ValueType → List Value → Type 0 where
  none : ArePassed [] []
  more : (t : ValueType) (ts : List ValueType) (v : Value) (vs : List Value) → IsAssignable t v.kind → ArePassed ts vs → ArePassed (t ∷ ts) (v ∷ vs)

-- an integer, a string or a bool
pub data IsPrintable : OperandKind → Type 0 where
  number : (k : OperandKind) → is_integer k ≡ true → IsPrintable k
  text : (k : OperandKind) → is_text k ≡ true → IsPrintable k
  flag : (k : OperandKind) → is_flag k ≡ true → IsPrintable k

pub data ArePrintable : List Value → Type 0 where
  none : ArePrintable []
  more : (v : Value) (vs : List Value) → IsPrintable v.kind → ArePrintable vs → ArePrintable (v ∷ vs)

-- a call of a function that has one result is a value
abbrev pub given : List ValueType → Sort
given (t ∷ []) = value (typed t)
given ts = results ts

-- the signature of a function by its number
abbrev pub signature_of : Names → ℕ → Signature
signature_of ns f = unwrap_or (slice_get ns.signatures f) (record { params = []; results = [] })

-- Gives ns c vs s: a call of c with values is of the sort. `make` is apart, since it takes a type.
pub data Gives (ns : Names) : Callee → List Value → Sort → Type 0 where
  function : (f : ℕ) (vs : List Value) → ArePassed (signature_of ns f).params vs → Gives ns (callees.Function f) vs (given (signature_of ns f).results)
  -- the length of a constant string is constant
  length : (v : Value) → is_text v.kind ≡ true → Gives ns callees.Len (v ∷ []) (value (record { constant = v.constant; kind = Typed types.int }))
  buffered : (v : Value) → IsChannel v.kind → Gives ns callees.Len (v ∷ []) (value (typed types.int))
  capacity : (v : Value) → IsChannel v.kind → Gives ns callees.Cap (v ∷ []) (value (typed types.int))
  spelled : (v : Value) → IsAssignable types.int v.kind → Gives ns callees.Itoa (v ∷ []) (value (typed types.text))
  printed : (vs : List Value) → ArePrintable vs → Gives ns callees.Println vs (results [])
  closed : (v : Value) → IsChannel v.kind → Gives ns callees.Close (v ∷ []) (results [])
  panics : (v : Value) → IsPrintable v.kind → Gives ns callees.Panic (v ∷ []) (results [])
  exits : (v : Value) → IsAssignable types.int v.kind → Gives ns callees.Exit (v ∷ []) (results [])
  locked : (m : ℕ) → Gives ns (callees.Lock m) [] (results [])
  unlocked : (m : ℕ) → Gives ns (callees.Unlock m) [] (results [])
  added : (g : ℕ) (v : Value) → IsAssignable types.int v.kind → Gives ns (callees.Add g) (v ∷ []) (results [])
  done : (g : ℕ) → Gives ns (callees.Done g) [] (results [])
  waited : (g : ℕ) → Gives ns (callees.Wait g) [] (results [])
