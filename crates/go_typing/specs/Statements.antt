-- Which simple statements, conditions and results are well typed. Go specification, "Send statements", "IncDec statements",
-- "Assignment statements", "Short variable declarations", "Return statements", "If statements" and "Receive operator".
-- Which expressions may stand as statements is a matter of their form alone, and isn't said here.
use Rattle.std.specs.Prelude.{◌≡◌, ℕ, Bool, true, false, List, [], ◌∷◌, drop, map, Option, Some, None, Ok}
use Rattle.go_ast.specs.declared.name.Name.{Name}
use Rattle.go_ast.specs.declared.expr.Expr.{Expr}
use Rattle.go_ast.specs.declared.expr.BinaryOp.{BinaryOp}
use Rattle.go_ast.specs.declared.block.Target.{Target}
use Rattle.go_ast.specs.declared.block.Target.TheVariants as target
use Rattle.go_ast.specs.declared.block.Block.{Block}
use Rattle.go_ast.specs.declared.block.Other.{Other}
use Rattle.go_ast.specs.declared.block.CaseClause.{CaseClause}
use Rattle.go_ast.specs.declared.block.CommClause.{CommClause}
use Rattle.go_ast.specs.declared.block.Stmt.{Stmt}
use Rattle.go_ast.specs.declared.block.StmtForm.{StmtForm}
use Rattle.go_ast.specs.declared.block.StmtForm.TheOpen.{StmtForm-F}
use Rattle.go_meaning.specs.declared.expr.Expr.{Expr as Code}
use Rattle.go_meaning.specs.declared.expr.Variable.{Variable}
use Rattle.go_meaning.specs.declared.node.Simple.{Simple}
use Rattle.go_meaning.specs.declared.node.NodeForm.{NodeForm}
use Rattle.go_value.specs.declared.operation.IntOp.TheVariants as int
use Rattle.go_types.specs.declared.types.ValueType.{ValueType}
use Rattle.go_types.specs.declared.kinds.Untyped.{Untyped}
use Rattle.go_types.specs.declared.kinds.Untyped.TheVariants as untyped
use Rattle.go_types.specs.declared.kinds.OperandKind.{OperandKind}
use Rattle.go_types.specs.declared.kinds.OperandKind.TheVariants.{Typed, Untyped as Bare}
use Rattle.go_types.specs.declared.operator.Operator.TheVariants.{Arithmetic}
use Rattle.go_types.specs.declared.names.Binding.{Binding}
use Rattle.go_types.specs.declared.names.Meaning.TheVariants as meaning
use Rattle.go_types.specs.declared.names.Names.{Names}
use Rattle.go_types.specs.declared.walk.Walk.{Walk}
use Rattle.go_types.specs.Types as types
use Rattle.go_types.specs.Names.{find, last_named}
use Rattle.go_types.specs.Operators.{operator_of}
use Rattle.go_types.specs.Scopes.{is_blank}
use Rattle.go_types.specs.Statements.{return_of}
use Rattle.go_types.specs.Bodies.{condition, simple_form}
use Rattle.go_typing.specs.Sorts.{Value, constant, typed, Sort, value, results}
use Rattle.go_typing.specs.Rules.{IsAssignable, Operated}
use Rattle.go_typing.specs.Typing.{IsMember, shape, Has, AreValues}
use Rattle.go_typing.specs.Laws.{ConstantsAreOfKind}

-- ---- what takes values

-- a variable of a type
pub data IsVariable (ns : Names) : Target → ValueType → Type 0 where
  plain : (n : Name) (v : Variable) (t : ValueType) → find ns n.text ≡ Some (meaning.Variable v t) → IsVariable ns (target.Plain n) t
  member : (p n : Name) (v : Variable) (t : ValueType) → IsMember ns p n (meaning.Variable v t) → IsVariable ns (target.Member p n) t

-- A target takes values of a type, or, as the blank identifier, of any.
pub data Takes (ns : Names) : Target → Option ValueType → Type 0 where
  blank : (n : Name) → is_blank n.text ≡ true → Takes ns (target.Plain n) None
  variable : (x : Target) (t : ValueType) → IsVariable ns x t → Takes ns x (Some t)

pub data TakeAll (ns : Names) : List Target → List (Option ValueType) → Type 0 where
  none : TakeAll ns [] []
  more : (x : Target) (xs : List Target) (w : Option ValueType) (ws : List (Option ValueType)) → Takes ns x w → TakeAll ns xs ws → TakeAll ns (x ∷ xs) (w ∷ ws)

-- A name left of `:=` is a variable of this very scope, or is declared with the type of its value, or is blank.
pub data Defines (scope : List Binding) : Name → Option ValueType → Type 0 where
  blank : (n : Name) → is_blank n.text ≡ true → Defines scope n None
  new : (n : Name) → last_named n.text scope ≡ None → Defines scope n None
  variable : (n : Name) (v : Variable) (t : ValueType) → last_named n.text scope ≡ Some (meaning.Variable v t) → Defines scope n (Some t)

pub data DefineAll (scope : List Binding) : List Name → List (Option ValueType) → Type 0 where
  none : DefineAll scope [] []
  more : (n : Name) (ns : List Name) (w : Option ValueType) (ws : List (Option ValueType)) → Defines scope n w → DefineAll scope ns ws → DefineAll scope (n ∷ ns) (w ∷ ws)

-- ---- values that are given

-- a value for a type, or for none: then it isn't `nil`
pub data Suits : Option ValueType → OperandKind → Type 0 where
  as_type : (t : ValueType) (k : OperandKind) → IsAssignable t k → Suits (Some t) k
  own_type : (t : ValueType) → Suits None (Typed t)
  default_type : (u : Untyped) → Suits None (Bare u)

pub data SuitEach : List (Option ValueType) → List Value → Type 0 where
  none : SuitEach [] []
  more : (w : Option ValueType) (ws : List (Option ValueType)) (v : Value) (vs : List Value) → Suits w v.kind → SuitEach ws vs → SuitEach (w ∷ ws) (v ∷ vs)

-- the types of what one call or receive gives
pub data SuitTypes : List (Option ValueType) → List ValueType → Type 0 where
  none : SuitTypes [] []
  more : (w : Option ValueType) (ws : List (Option ValueType)) (t : ValueType) (ts : List ValueType) → Suits w (Typed t) → SuitTypes ws ts → SuitTypes (w ∷ ws) (t ∷ ts)

-- Values for places: one each, or a call of a function that gives them all, or, where that may be, a received value and
-- whether it was sent.
pub data AreGiven (ns : Names) (may_receive : Bool) : List (Option ValueType) → List Expr → Type 0 where
  each : (ws : List (Option ValueType)) (es : List Expr) (vs : List Value) → AreValues ns es vs → SuitEach ws vs → AreGiven ns may_receive ws es
  by_call : (ws : List (Option ValueType)) (e : Expr) (ts : List ValueType) → Has ns (shape e) (results ts) → SuitTypes ws ts → AreGiven ns may_receive ws (e ∷ [])
  by_receive : (ws : List (Option ValueType)) (e : Expr) (t : ValueType) → may_receive ≡ true → Has ns (shape e) (value (typed t)) → SuitTypes ws (t ∷ types.flag ∷ [])
      → AreGiven ns may_receive ws (e ∷ [])

-- ---- statements

abbrev pub Layer : Type 0
Layer = StmtForm-F StmtForm Block CaseClause CommClause Other Stmt

-- IsTyped ns scope x: the simple statement x is well typed among names, of which those in the scope are of its very block.
pub data IsTyped (ns : Names) (scope : List Binding) : Layer → Type 0 where
  evaluated : (e : Expr) (s : Sort) → Has ns (shape e) s → IsTyped ns scope (StmtForm-F.Eval e)
  sent : (c e : Expr) (v w : Value) (t : ValueType) → Has ns (shape c) (value v) → v.kind ≡ Typed t → types.is_channel t ≡ true → Has ns (shape e) (value w)
      → IsAssignable (types.element t) w.kind → IsTyped ns scope (StmtForm-F.Send c e)
  -- `x++` and `x--` are operations with an untyped 1
  up : (x : Target) (t : ValueType) (w : Value) → IsVariable ns x t → Operated (Arithmetic int.Add) (typed t) (constant (Bare untyped.Int)) w → IsTyped ns scope (StmtForm-F.Up x)
  down : (x : Target) (t : ValueType) (w : Value) → IsVariable ns x t → Operated (Arithmetic int.Sub) (typed t) (constant (Bare untyped.Int)) w → IsTyped ns scope (StmtForm-F.Down x)
  updated : (x : Target) (o : BinaryOp) (e : Expr) (t : ValueType) (v w : Value) → IsVariable ns x t → Has ns (shape e) (value v) → Operated (operator_of o) (typed t) v w
      → IsTyped ns scope (StmtForm-F.Update x o e)
  assigned : (xs : List Target) (es : List Expr) (ws : List (Option ValueType)) → TakeAll ns xs ws → AreGiven ns true ws es → IsTyped ns scope (StmtForm-F.Assign xs es)
  defined : (xs : List Name) (es : List Expr) (ws : List (Option ValueType)) → DefineAll scope xs ws → AreGiven ns true ws es → IsTyped ns scope (StmtForm-F.Define xs es)

-- ---- laws

-- a simple statement that is accepted is well typed
abbrev pub SimpleIsTyped : Type 0
SimpleIsTyped = (x : Layer) (at : ℕ) (s new : Walk) (y : Simple) → ConstantsAreOfKind s.names → simple_form x at s ≡ Ok (y, new) → IsTyped s.names (drop s.scope s.names.locals) x

-- what is returned has the types of the function's results
abbrev pub ReturnIsTyped : Type 0
ReturnIsTyped = (at : ℕ) (es : List Expr) (s new : Walk) (y : NodeForm) → ConstantsAreOfKind s.names → return_of at es s ≡ Ok (y, new) → AreGiven s.names false (map (λ t. Some t) s.results) es

-- a condition is a bool
abbrev pub ConditionIsTyped : Type 0
ConditionIsTyped = (e : Expr) (s new : Walk) (x : Code) → ConstantsAreOfKind s.names → condition e s ≡ Ok (x, new) → (v : Value) × Has s.names (shape e) (value v) × IsAssignable types.flag v.kind
