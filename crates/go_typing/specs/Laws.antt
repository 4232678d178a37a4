-- What holds of sorts and types, and that what checking accepts is well typed.
use Rattle.std.specs.Prelude.{◌≡◌, Bool, true, Ok}
use Rattle.std.specs.List.{list_all}
use Rattle.go_ast.specs.declared.block.ConstSpec.{ConstSpec}
use Rattle.go_ast.specs.declared.expr.TypeExpr.{TypeExpr}
use Rattle.go_ast.specs.declared.expr.Expr.{Expr}
use Rattle.go_types.specs.declared.types.ValueType.{ValueType}
use Rattle.go_types.specs.declared.kinds.OperandKind.{OperandKind}
use Rattle.go_types.specs.declared.constant.Constant.{Constant}
use Rattle.go_types.specs.declared.constant.Constant.TheVariants as constant
use Rattle.go_types.specs.declared.names.Binding.{Binding}
use Rattle.go_types.specs.declared.names.Meaning.{Meaning}
use Rattle.go_types.specs.declared.names.Meaning.TheVariants as meaning
use Rattle.go_types.specs.declared.names.Names.{Names}
use Rattle.go_types.specs.declared.names.Marks.{Marks}
use Rattle.go_types.specs.declared.operand.Term.TheVariants as term
use Rattle.go_types.specs.declared.operand.Operand.{Operand}
use Rattle.go_types.specs.declared.operand.Operand.TheVariants as operand
use Rattle.go_types.specs.declared.operand.Part.{Part}
use Rattle.go_types.specs.Kinds.{is_integer, is_text, is_flag}
use Rattle.go_types.specs.Expressions.{check, type_of}
use Rattle.go_types.specs.Statements.{const_value}
use Rattle.go_typing.specs.Sorts.{Sort, sort_of}
use Rattle.go_typing.specs.Typing.{type_shape, IsType, shape, Has}

-- a constant's value is of its kind
abbrev pub is_of_kind : OperandKind → Constant → Bool
is_of_kind k (constant.Number z) = is_integer k
is_of_kind k (constant.Text s) = is_text k
is_of_kind k (constant.Flag b) = is_flag k

abbrev pub means_its_kind : Meaning → Bool
means_its_kind (meaning.Constant k c) = is_of_kind k c
means_its_kind x = true

abbrev pub binds_its_kind : Binding → Bool
binds_its_kind b = means_its_kind b.meaning

-- the value of each constant among the names is of its kind
pub record ConstantsAreOfKind (ns : Names) : Type 0 where
  pub around : list_all binds_its_kind ns.locals ≡ true
  pub own : list_all binds_its_kind ns.own ≡ true
  pub packages : list_all (list_all binds_its_kind) ns.packages ≡ true

-- what is accepted is well typed, as it was found to be
abbrev pub AcceptedIsTyped : Type 0
AcceptedIsTyped = (ns : Names) (e : Expr) (old new : Marks) (p : Part) → ConstantsAreOfKind ns → check e ns old ≡ Ok (p, new) → Has ns (shape e) (sort_of p.operand)

abbrev pub is_found_of_kind : Operand → Bool
is_found_of_kind (operand.Term (term.Constant k c)) = is_of_kind k c
is_found_of_kind x = true

-- a constant that is found is a value of its kind
abbrev pub FoundIsOfKind : Type 0
FoundIsOfKind = (ns : Names) (e : Expr) (old new : Marks) (p : Part) → ConstantsAreOfKind ns → check e ns old ≡ Ok (p, new) → is_found_of_kind p.operand ≡ true

-- so a name that is declared as a constant keeps the names as they have to be
abbrev pub DeclaredIsOfKind : Type 0
DeclaredIsOfKind = (ns : Names) (c : ConstSpec) (old new : Marks) (x : Meaning) → ConstantsAreOfKind ns → const_value c ns old ≡ Ok (x, new) → means_its_kind x ≡ true

-- an expression is of one sort
abbrev pub OneSort : Type 0
OneSort = (ns : Names) (e : Expr) (s t : Sort) → Has ns (shape e) s → Has ns (shape e) t → s ≡ t

-- a written type that is accepted is the type that was found
abbrev pub AcceptedIsType : Type 0
AcceptedIsType = (ns : Names) (e : TypeExpr) (old new : Marks) (t : ValueType) → type_of e ns old ≡ Ok (t, new) → IsType ns (type_shape e) t

-- and it is one type
abbrev pub OneType : Type 0
OneType = (ns : Names) (e : TypeExpr) (t u : ValueType) → IsType ns (type_shape e) t → IsType ns (type_shape e) u → t ≡ u
