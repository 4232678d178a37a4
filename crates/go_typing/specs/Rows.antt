-- Some expressions and what they are, among names that don't shadow predeclared ones.
use Rattle.std.specs.Prelude.{◌≡◌, Some, codes}
use Rattle.go_ast.specs.declared.name.Name.{Name}
use Rattle.go_ast.specs.declared.expr.Expr.{Expr}
use Rattle.go_ast.specs.declared.expr.ExprForm.TheOpen.{ExprForm-F}
use Rattle.go_ast.specs.declared.expr.BinaryOp.TheVariants as binary
use Rattle.go_ast.specs.declared.expr.UnaryOp.TheVariants as unary
use Rattle.go_meaning.specs.declared.expr.Variable.{Variable}
use Rattle.go_types.specs.declared.types.Basic.TheVariants as basic
use Rattle.go_types.specs.declared.types.ValueType.{ValueType}
use Rattle.go_types.specs.declared.kinds.Untyped.TheVariants as untyped
use Rattle.go_types.specs.declared.kinds.OperandKind.TheVariants.{Untyped as Bare}
use Rattle.go_types.specs.declared.names.Meaning.TheVariants as meaning
use Rattle.go_types.specs.declared.names.Names.{Names}
use Rattle.go_types.specs.Types as types
use Rattle.go_types.specs.Names.{find}
use Rattle.go_types.specs.Expressions.{channel_of}
use Rattle.go_typing.specs.Sorts.{Sort, constant, typed, value}
use Rattle.go_typing.specs.Typing.{shape, Has}

-- `1 + 'a'` is an untyped rune constant
abbrev pub SumWithRune : Type 0
SumWithRune = (ns : Names) (a b : Expr) → shape a ≡ ExprForm-F.Int (codes "1") → shape b ≡ ExprForm-F.Rune 97 → Has ns (ExprForm-F.Binary binary.Add a b) (value (constant (Bare untyped.Rune)))

-- with a variable x of type int8, `x + 1` is an int8 and `x < 1` a bool
abbrev pub IsVariable : Names → Expr → ValueType → Type 0
IsVariable ns e t = (n : Name) × (v : Variable) × (shape e ≡ ExprForm-F.Plain n) × (find ns n.text ≡ Some (meaning.Variable v t))

abbrev pub SumOfInt8 : Type 0
SumOfInt8 = (ns : Names) (a b : Expr) → IsVariable ns a (types.basic basic.Int8) → shape b ≡ ExprForm-F.Int (codes "1") → Has ns (ExprForm-F.Binary binary.Add a b) (value (typed (types.basic basic.Int8)))

abbrev pub LessThanOne : Type 0
LessThanOne = (ns : Names) (a b : Expr) → IsVariable ns a (types.basic basic.Int8) → shape b ≡ ExprForm-F.Int (codes "1") → Has ns (ExprForm-F.Binary binary.Less a b) (value (typed types.flag))

-- `<-c` is what the channel's type says, for a channel c of strings
abbrev pub ReceivedText : Type 0
ReceivedText = (ns : Names) (c : Expr) → IsVariable ns c (channel_of types.text) → Has ns (ExprForm-F.Unary unary.Receive c) (value (typed types.text))

-- `x + y` is of no sort where x is an int8 and y an int16
abbrev pub SumOfTwoTypes : Type 0
SumOfTwoTypes = (ns : Names) (a b : Expr) (s : Sort) → IsVariable ns a (types.basic basic.Int8) → IsVariable ns b (types.basic basic.Int16) → Has ns (ExprForm-F.Binary binary.Add a b) s → ⊥
