-- Which expression is of which sort, and which type a written type is. Go specification, "Expressions", "Declarations and
-- scope", "Qualified identifiers", "Exported identifiers", "Channel types", "Index expressions", "Simple slice expressions",
-- "Conversions", "Calls" and "Making slices, maps and channels".
use Rattle.std.specs.Prelude.{◌≡◌, ℕ, true, List, [], ◌∷◌, Option, Some, None, slice_get}
use Rattle.go_ast.specs.declared.name.Name.{Name}
use Rattle.go_ast.specs.declared.expr.TypeExpr.{TypeExpr}
use Rattle.go_ast.specs.declared.expr.TypeForm.{TypeForm, out-TypeForm}
use Rattle.go_ast.specs.declared.expr.TypeForm.TheOpen.{TypeForm-F}
use Rattle.go_ast.specs.declared.expr.Expr.{Expr}
use Rattle.go_ast.specs.declared.expr.ExprForm.{ExprForm, out-ExprForm}
use Rattle.go_ast.specs.declared.expr.ExprForm.TheOpen.{ExprForm-F}
use Rattle.go_ast.specs.declared.expr.BinaryOp.{BinaryOp}
use Rattle.go_ast.specs.declared.expr.UnaryOp.{UnaryOp}
use Rattle.go_types.specs.declared.types.Basic.TheVariants as basic
use Rattle.go_types.specs.declared.types.ValueType.{ValueType}
use Rattle.go_types.specs.declared.kinds.Untyped.TheVariants as untyped
use Rattle.go_types.specs.declared.kinds.OperandKind.TheVariants.{Typed, Untyped as Bare}
use Rattle.go_types.specs.declared.known.Known.{Known}
use Rattle.go_types.specs.declared.names.Callee.{Callee}
use Rattle.go_types.specs.declared.names.Callee.TheVariants as callees
use Rattle.go_types.specs.declared.names.Meaning.{Meaning}
use Rattle.go_types.specs.declared.names.Meaning.TheVariants as meaning
use Rattle.go_types.specs.declared.names.Standard.{Standard}
use Rattle.go_types.specs.declared.names.Imported.TheVariants as imported
use Rattle.go_types.specs.declared.names.Names.{Names}
use Rattle.go_types.specs.Types as types
use Rattle.go_types.specs.Kinds.{is_integer, is_text}
use Rattle.go_types.specs.Names.{find, last_named, names_of, is_exported, of_table, standard, known, mutex_methods, group_methods}
use Rattle.go_types.specs.Operators.{operator_of}
use Rattle.go_types.specs.Expressions.{channel_of}
use Rattle.go_typing.specs.Sorts.{Value, constant, typed, Sort, value, type_, callee, sort_meant}
use Rattle.go_typing.specs.Rules.{Operated, Signed, IsConvertible, Gives}

-- ---- names

-- what a name of a package means, or a method of a mutex or a wait group
pub data IsMember (ns : Names) : Name → Name → Meaning → Type 0 where
  of_library : (p n : Name) (i : ℕ) (s : Standard) (x : Known) → find ns p.text ≡ Some (meaning.Import i) → slice_get ns.imports i ≡ Some (imported.Standard s)
      → of_table (standard s) n.text ≡ Some x → IsMember ns p n (known x)
  -- of another package of the module only what begins with an upper-case letter
  of_package : (p n : Name) (i q : ℕ) (x : Meaning) → find ns p.text ≡ Some (meaning.Import i) → slice_get ns.imports i ≡ Some (imported.Package q)
      → last_named n.text (names_of ns q) ≡ Some x → is_exported n.text ≡ true → IsMember ns p n x
  of_mutex : (p n : Name) (m : ℕ) (x : Known) → find ns p.text ≡ Some (meaning.Mutex m) → of_table (mutex_methods m) n.text ≡ Some x → IsMember ns p n (known x)
  of_group : (p n : Name) (g : ℕ) (x : Known) → find ns p.text ≡ Some (meaning.Group g) → of_table (group_methods g) n.text ≡ Some x → IsMember ns p n (known x)

-- ---- types

abbrev pub type_shape : TypeExpr → TypeForm-F TypeForm TypeExpr
type_shape t = out-TypeForm t.form

-- a written type is a type
pub data IsType (ns : Names) : TypeForm-F TypeForm TypeExpr → ValueType → Type 0 where
  plain : (n : Name) (t : ValueType) → find ns n.text ≡ Some (meaning.Type t) → IsType ns (TypeForm-F.Plain n) t
  member : (p n : Name) (t : ValueType) → IsMember ns p n (meaning.Type t) → IsType ns (TypeForm-F.Member p n) t
  channel : (e : TypeExpr) (t : ValueType) → IsType ns (type_shape e) t → IsType ns (TypeForm-F.Chan e) (channel_of t)

-- ---- expressions

abbrev pub shape : Expr → ExprForm-F ExprForm Expr
shape e = out-ExprForm e.form

mutual
  -- Has ns (shape e) s: among names the expression e is of the sort s.
  pub data Has (ns : Names) : ExprForm-F ExprForm Expr → Sort → Type 0 where
    int : (bytes : List ℕ) → Has ns (ExprForm-F.Int bytes) (value (constant (Bare untyped.Int)))
    rune : (c : ℕ) → Has ns (ExprForm-F.Rune c) (value (constant (Bare untyped.Rune)))
    text : (bytes : List ℕ) → Has ns (ExprForm-F.Text bytes) (value (constant (Bare untyped.String)))
    plain : (n : Name) (x : Meaning) → find ns n.text ≡ Some x → Has ns (ExprForm-F.Plain n) (sort_meant x)
    member : (p n : Name) (x : Meaning) → IsMember ns p n x → Has ns (ExprForm-F.Member p n) (sort_meant x)
    channel : (e : TypeExpr) (t : ValueType) → IsType ns (type_shape e) t → Has ns (ExprForm-F.Chan e) (type_ (channel_of t))
    parens : (e : Expr) (s : Sort) → Has ns (shape e) s → Has ns (ExprForm-F.Paren e) s
    signed : (o : UnaryOp) (a : Expr) (v w : Value) → Has ns (shape a) (value v) → Signed o v w → Has ns (ExprForm-F.Unary o a) (value w)
    operated : (o : BinaryOp) (a b : Expr) (v w x : Value) → Has ns (shape a) (value v) → Has ns (shape b) (value w) → Operated (operator_of o) v w x
        → Has ns (ExprForm-F.Binary o a b) (value x)
    -- a byte of a string; an index is an integer
    indexed : (a i : Expr) (v w : Value) → Has ns (shape a) (value v) → is_text v.kind ≡ true → Has ns (shape i) (value w) → is_integer w.kind ≡ true
        → Has ns (ExprForm-F.Index a i) (value (typed (types.basic basic.Uint8)))
    -- a part of a string
    cut : (a : Expr) (low high : Option Expr) (v : Value) → Has ns (shape a) (value v) → is_text v.kind ≡ true → IsBound ns low → IsBound ns high
        → Has ns (ExprForm-F.Cut a low high) (value (typed types.text))
    -- a conversion; of a constant it is constant
    converted : (f a : Expr) (t : ValueType) (v : Value) → Has ns (shape f) (type_ t) → Has ns (shape a) (value v) → IsConvertible t v.kind
        → Has ns (ExprForm-F.Call f (a ∷ [])) (value (record { constant = v.constant; kind = Typed t }))
    -- a channel, with a size or without
    made : (f a : Expr) (t : ValueType) → Has ns (shape f) (callee callees.Make) → Has ns (shape a) (type_ t) → types.is_channel t ≡ true
        → Has ns (ExprForm-F.Call f (a ∷ [])) (value (typed t))
    made_of_size : (f a b : Expr) (t : ValueType) (v : Value) → Has ns (shape f) (callee callees.Make) → Has ns (shape a) (type_ t) → types.is_channel t ≡ true
        → Has ns (shape b) (value v) → is_integer v.kind ≡ true → Has ns (ExprForm-F.Call f (a ∷ b ∷ [])) (value (typed t))
    called : (f : Expr) (es : List Expr) (c : Callee) (vs : List Value) (s : Sort) → Has ns (shape f) (callee c) → AreValues ns es vs → Gives ns c vs s
        → Has ns (ExprForm-F.Call f es) s

  -- an integer, or left out
  pub data IsBound (ns : Names) : Option Expr → Type 0 where
    left_out : IsBound ns None
    bound : (e : Expr) (v : Value) → Has ns (shape e) (value v) → is_integer v.kind ≡ true → IsBound ns (Some e)

  pub data AreValues (ns : Names) : List Expr → List Value → Type 0 where
    none : AreValues ns [] []
    more : (e : Expr) (es : List Expr) (v : Value) (vs : List Value) → Has ns (shape e) (value v) → AreValues ns es vs → AreValues ns (e ∷ es) (v ∷ vs)
