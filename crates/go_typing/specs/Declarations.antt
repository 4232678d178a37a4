-- Which declarations of constants and variables are well typed. Go specification, "Constant declarations" and "Variable declarations".
use Rattle.std.specs.Prelude.{◌≡◌, ℕ, true, [], length, replicate, Option, Some, None, Ok}
use Rattle.go_ast.specs.declared.block.ConstSpec.{ConstSpec}
use Rattle.go_ast.specs.declared.block.VarSpec.{VarSpec}
use Rattle.go_ast.specs.declared.expr.TypeExpr.{TypeExpr}
use Rattle.go_meaning.specs.declared.node.Assignment.{Assignment}
use Rattle.go_types.specs.declared.types.ValueType.{ValueType}
use Rattle.go_types.specs.declared.kinds.OperandKind.{OperandKind}
use Rattle.go_types.specs.declared.kinds.OperandKind.TheVariants.{Typed}
use Rattle.go_types.specs.declared.constant.Constant.{Constant}
use Rattle.go_types.specs.declared.names.Marks.{Marks}
use Rattle.go_types.specs.declared.names.Meaning.{Meaning}
use Rattle.go_types.specs.declared.names.Meaning.TheVariants as meaning
use Rattle.go_types.specs.declared.names.Names.{Names}
use Rattle.go_types.specs.declared.walk.Walk.{Walk}
use Rattle.go_types.specs.Statements.{const_value, var_spec}
use Rattle.go_typing.specs.Sorts.{constant, value}
use Rattle.go_typing.specs.Rules.{IsAssignable}
use Rattle.go_typing.specs.Typing.{type_shape, IsType, shape, Has}
use Rattle.go_typing.specs.Laws.{ConstantsAreOfKind}
use Rattle.go_typing.specs.Statements.{AreGiven}

-- a type that may be left out
pub data MayBeType (ns : Names) : Option TypeExpr → Option ValueType → Type 0 where
  left_out : MayBeType ns None None
  written : (e : TypeExpr) (t : ValueType) → IsType ns (type_shape e) t → MayBeType ns (Some e) (Some t)

-- the kind that a constant has with a type or without: a constant of the kind can be used as one of the type
pub data Becomes : Option ValueType → OperandKind → OperandKind → Type 0 where
  as_it_is : (k : OperandKind) → Becomes None k k
  typed : (t : ValueType) (k : OperandKind) → IsAssignable t k → Becomes (Some t) k (Typed t)

-- a constant of a kind is declared: its value is a constant
pub data IsConst (ns : Names) (c : ConstSpec) : OperandKind → Type 0 where
  const : (w : Option ValueType) (k l : OperandKind) → MayBeType ns c.kind w → Has ns (shape c.value) (value (constant k)) → Becomes w k l → IsConst ns c l

-- Variables are declared with a type and no values, which then are zero, or with values.
pub data IsVar (ns : Names) (v : VarSpec) : Type 0 where
  zero : (t : ValueType) → MayBeType ns v.kind (Some t) → v.values ≡ [] → IsVar ns v
  given : (w : Option ValueType) → MayBeType ns v.kind w → AreGiven ns true (replicate (length v.names) w) v.values → IsVar ns v

-- ---- laws

-- a constant that is declared means a constant of the kind that its declaration says
abbrev pub ConstIsTyped : Type 0
ConstIsTyped = (ns : Names) (c : ConstSpec) (old new : Marks) (x : Meaning) → ConstantsAreOfKind ns → const_value c ns old ≡ Ok (x, new)
    → (k : OperandKind) × (d : Constant) × (x ≡ meaning.Constant k d) × IsConst ns c k

-- a declaration of variables that is accepted is well typed
abbrev pub VarIsTyped : Type 0
VarIsTyped = (v : VarSpec) (at : ℕ) (s new : Walk) (a : Assignment) → ConstantsAreOfKind s.names → var_spec at v s ≡ Ok (a, new) → IsVar s.names v
