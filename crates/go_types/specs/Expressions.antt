-- What an expression is found to be, or its first fault: operands before operators, left to right.
use Rattle.std.specs.Prelude.{ℕ, ◌+◌, Bool, true, false, pos, List, [], ◌∷◌, ◌++◌, Option, Some, None, is_some, Ok}
use Rattle.std.specs.Option.{option_to_list}
use Rattle.go_ast.specs.declared.kind.SourceKind.TheVariants.{WrongType, WrongCount, Undeclared}
use Rattle.go_ast.specs.declared.name.Name.{Name}
use Rattle.go_ast.specs.declared.expr.TypeExpr.{TypeExpr, fold-TypeExpr, out-TypeExpr}
use Rattle.go_ast.specs.declared.expr.TypeForm.{TypeForm, out-TypeForm}
use Rattle.go_ast.specs.declared.expr.TypeForm.TheOpen.{TypeForm-F, TypeExpr-F}
use Rattle.go_ast.specs.declared.expr.Expr.{Expr, fold-Expr, out-Expr}
use Rattle.go_ast.specs.declared.expr.ExprForm.{ExprForm, out-ExprForm}
use Rattle.go_ast.specs.declared.expr.ExprForm.TheOpen.{ExprForm-F, Expr-F}
use Rattle.go_meaning.specs.declared.expr.Expr.TheVariants as code
use Rattle.go_types.specs.declared.types.ValueType.{ValueType}
use Rattle.go_types.specs.declared.kinds.Untyped.{Untyped}
use Rattle.go_types.specs.declared.kinds.Untyped.TheVariants as untyped
use Rattle.go_types.specs.declared.kinds.OperandKind.TheVariants.{Untyped as Bare}
use Rattle.go_types.specs.declared.constant.Constant.{Constant}
use Rattle.go_types.specs.declared.constant.Constant.TheVariants as constant
use Rattle.go_types.specs.declared.names.Callee.{Callee}
use Rattle.go_types.specs.declared.names.Callee.TheVariants as callees
use Rattle.go_types.specs.declared.names.Meaning.{Meaning}
use Rattle.go_types.specs.declared.names.Meaning.TheVariants as meaning
use Rattle.go_types.specs.declared.names.Names.{Names}
use Rattle.go_types.specs.declared.operand.Term.{Term}
use Rattle.go_types.specs.declared.operand.Term.TheVariants as term'
use Rattle.go_types.specs.declared.operand.Operand.{Operand}
use Rattle.go_types.specs.declared.operand.Operand.TheVariants as operand
use Rattle.go_types.specs.declared.operand.Part.{Part}
use Rattle.go_types.specs.declared.operand.Argument.{Argument}
use Rattle.go_types.specs.Checking.{Checked, and_then, fault, Checking, ◌>>=◌, pure, lift, fail}
use Rattle.go_types.specs.Literals.{int_literal}
use Rattle.go_types.specs.Names.{meaning_of, member, read}
use Rattle.go_types.specs.Operators.{operator_of}
use Rattle.go_types.specs.Operands as rules

-- ---- types

abbrev pub type_meant : ℕ → Meaning → Checked ValueType
type_meant at (meaning.Type t) = Ok t
type_meant at x = fault at WrongType

abbrev pub Typing : Type 0
Typing = Names → Checking ValueType

abbrev pub channel_of : ValueType → ValueType
channel_of t = record t { channels = t.channels + 1 }

abbrev pub type_layer : (E : Type 0) → (E → Typing) → {F : Type 0} → TypeForm-F F E → Typing
type_layer E check (TypeForm-F.Plain n) ns = lift (meaning_of ns n) >>= (λ x. lift (type_meant n.at x))
type_layer E check (TypeForm-F.Member p n) ns = member ns p n >>= (λ x. lift (type_meant p.at x))
type_layer E check (TypeForm-F.Chan t) ns = check t ns >>= (λ u. pure (channel_of u))

-- the type that is written
unfoldable pub type_of : TypeExpr → Typing
type_of t = fold-TypeExpr Typing Typing (type_layer Typing (λ m. m)) (λ e. e.form) t

-- ---- names

abbrev pub noted : Meaning → Checking Operand
noted (meaning.Constant k c) = pure (operand.Term (term'.Constant k c))
noted meaning.Nil = pure (operand.Term term'.Nil)
noted (meaning.Variable x t) = read x >>= (λ _. pure (operand.Term (term'.Value t (code.Variable x))))
noted (meaning.Type t) = pure (operand.Type t)
noted (meaning.Callee c) = pure (operand.Callee c)
noted x = pure operand.Other

-- what a name is
abbrev pub named : Name → Names → Checking Operand
named n ns = lift (meaning_of ns n) >>= noted

-- what a name in a package is, or a method
abbrev pub member_named : Name → Name → Names → Checking Operand
member_named p n ns = member ns p n >>= noted

-- ---- expressions

-- what an expression is, among names
abbrev pub Finding : Type 0
Finding = Names → Checking Part

abbrev pub part : ℕ → Operand → Part
part at o = record { at = at; operand = o }

abbrev pub term_at : ℕ → Checked Term → Checking Part
term_at at r = lift (and_then r (λ t. Ok (part at (operand.Term t))))

abbrev pub operand_at : ℕ → Checked Operand → Checking Part
operand_at at r = lift (and_then r (λ o. Ok (part at o)))

abbrev pub fixed : ℕ → Untyped → Constant → Part
fixed at k c = part at (operand.Term (term'.Constant (Bare k) c))

-- an expression without operands
abbrev pub leaf : {F E : Type 0} → ExprForm-F F E → ℕ → Finding
leaf (ExprForm-F.Int bytes) at ns = lift (int_literal at bytes) >>= (λ c. pure (fixed at untyped.Int c))
leaf (ExprForm-F.Rune c) at ns = pure (fixed at untyped.Rune (constant.Number (pos c)))
leaf (ExprForm-F.Text s) at ns = pure (fixed at untyped.String (constant.Text s))
leaf (ExprForm-F.Plain n) at ns = named n ns >>= (λ o. pure (part at o))
leaf (ExprForm-F.Member p n) at ns = member_named p n ns >>= (λ o. pure (part at o))
leaf (ExprForm-F.Chan t) at ns = type_of t ns >>= (λ u. pure (part at (operand.Type (channel_of u))))
leaf x at ns = fail at WrongType

-- a part that may be other than a value, or not
abbrev pub allowed : Bool → Part → Checked Part
allowed true p = Ok p
allowed false p = rules.valued_part p

module _ (E : Type 0) (check : E → Finding) where
  -- an operand that has to be a value
  abbrev pub value_of : E → Names → Checking Argument
  value_of e ns = check e ns >>= (λ p. lift (rules.value p))

  abbrev pub values_of : List E → Names → Checking (List Argument)
  values_of [] ns = pure []
  values_of (e ∷ es) ns = value_of e ns >>= (λ a. values_of es ns >>= (λ as'. pure (a ∷ as')))

  -- a bound that may be left out
  abbrev pub bound_of : Option E → Names → Checking (Option Argument)
  bound_of None ns = pure None
  bound_of (Some e) ns = value_of e ns >>= (λ a. pure (Some a))

  -- an operand, which may have to be a value
  abbrev pub part_of : Bool → E → Finding
  part_of may e ns = check e ns >>= (λ p. lift (allowed may p))

  -- the operands of `make`, of which the first may be a type
  abbrev pub parts_of : Bool → List E → Names → Checking (List Part)
  parts_of may [] ns = pure []
  parts_of may (e ∷ es) ns = part_of may e ns >>= (λ p. parts_of false es ns >>= (λ ps. pure (p ∷ ps)))

  abbrev pub make_of : ℕ → ℕ → List E → Finding
  make_of at callee es ns = parts_of true es ns >>= (λ ps. term_at at (rules.make callee ps))

  -- a call: first comes the offset of the call, then that of what is called
  abbrev pub call_of : ℕ → ℕ → Operand → List E → Finding
  call_of at callee (operand.Type t) es ns = values_of es ns >>= (λ as'. operand_at at (rules.call_type at callee t as'))
  call_of at callee (operand.Callee callees.Make) es ns = make_of at callee es ns
  call_of at callee (operand.Callee c) es ns = values_of es ns >>= (λ as'. operand_at at (rules.call ns.signatures callee c as'))
  call_of at callee o es ns = lift (rules.valued callee o) >>= (λ _. values_of es ns >>= (λ _. fail callee WrongType))

  -- an expression at an offset
  abbrev pub layer : {F : Type 0} → ExprForm-F F E → ℕ → Finding
  layer (ExprForm-F.Binary o a b) at ns = value_of a ns >>= (λ x. value_of b ns >>= (λ y. term_at at (rules.binary at (operator_of o) x y)))
  layer (ExprForm-F.Unary o a) at ns = value_of a ns >>= (λ x. term_at at (rules.unary at o x))
  layer (ExprForm-F.Call f es) at ns = check f ns >>= (λ p. call_of at p.at p.operand es ns)
  layer (ExprForm-F.Index s i) at ns = value_of s ns >>= (λ x. value_of i ns >>= (λ y. term_at at (rules.index at x y)))
  layer (ExprForm-F.Cut s low high) at ns =
      value_of s ns >>= (λ x. bound_of low ns >>= (λ i. bound_of high ns >>= (λ j. term_at at (rules.cut at x i j))))
  layer (ExprForm-F.Paren e) at ns = check e ns
  layer x at ns = leaf x at ns

-- what an expression is found to be
unfoldable pub check : Expr → Finding
check e = fold-Expr (ℕ → Finding) Finding (layer Finding (λ m. m)) (λ e. e.form e.span.start) e

-- a value
unfoldable pub check_value : Expr → Names → Checking Argument
check_value e ns = value_of Expr check e ns
