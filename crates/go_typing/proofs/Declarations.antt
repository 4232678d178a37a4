-- Declarations that are accepted are well typed.
use Rattle.std.proofs.Common.{◌≡◌, ℕ, true, List, [], ◌∷◌, Option, Some, None, Ok, refl, sym, ap, subst}
use Rattle.std.specs.Prelude.{length, replicate}
use Rattle.std.proofs.lemmas.List.{length-replicate}
use Rattle.go_ast.specs.declared.kind.SourceKind.TheVariants as source
use Rattle.go_ast.specs.declared.block.ConstSpec.{ConstSpec}
use Rattle.go_ast.specs.declared.block.VarSpec.{VarSpec}
use Rattle.go_ast.specs.declared.expr.TypeExpr.{TypeExpr}
use Rattle.go_ast.specs.declared.expr.Expr.{Expr}
use Rattle.go_types.specs.declared.types.ValueType.{ValueType}
use Rattle.go_types.specs.declared.kinds.OperandKind.{OperandKind}
use Rattle.go_types.specs.declared.constant.Constant.{Constant}
use Rattle.go_types.specs.declared.given.Filled.{Filled}
use Rattle.go_types.specs.declared.names.Marks.{Marks}
use Rattle.go_types.specs.declared.names.Meaning.{Meaning}
use Rattle.go_types.specs.declared.names.Meaning.TheVariants as meaning
use Rattle.go_types.specs.declared.names.Names.{Names}
use Rattle.go_types.specs.declared.operand.Term.{Term}
use Rattle.go_types.specs.declared.operand.Term.TheVariants as term
use Rattle.go_types.specs.Constants.{within}
use Rattle.go_types.specs.Operands as rules
use Rattle.go_types.specs.Expressions.{check, value_of, type_of}
use Rattle.go_types.specs.Walking.{here}
use Rattle.go_types.specs.Statements as statements
use Rattle.go_types.specs.Statements.{type_if, can_be, const_kind, const_term, const_meaning, var_spec}
use Rattle.go_typing.specs.Sorts.{value, value_found}
use Rattle.go_typing.specs.Typing.{shape, Has}
use Rattle.go_typing.specs.Laws.{ConstantsAreOfKind}
use Rattle.go_typing.specs.Statements.{AreGiven}
use Rattle.go_typing.specs.Declarations as said
use Rattle.go_typing.specs.Declarations.{MayBeType, Becomes, IsConst, IsVar, ConstIsTyped, VarIsTyped}
use Rattle.go_typing.proofs.Basics.{no_fault, same_ok, ok_then, ok_if, lifted}
use Rattle.go_typing.proofs.Agreement.{assignable_from}
use Rattle.go_typing.proofs.Meanings.{type_found}
use Rattle.go_typing.proofs.Found.{value_found_of, found}
use Rattle.go_typing.proofs.Statements.{here_found, given_found, filled_found}

type_if_found : (ns : Names) (o : Option TypeExpr) (old new : Marks) (w : Option ValueType) → type_if o ns old ≡ Ok (w, new) → MayBeType ns o w
type_if_found ns None old new w e = subst (MayBeType ns None) (ap (λ (r : Option ValueType × Marks). r.0) (same_ok (None, old) (w, new) e)) said.left_out
type_if_found ns (Some t) old new w e =
    let q = ok_then (type_of t ns old) _ (w, new) e in
    subst (MayBeType ns (Some t)) (ap (λ (r : Option ValueType × Marks). r.0) (same_ok (Some q.0.0, q.0.1) (w, new) q.2)) (said.written t q.0.0 (type_found t ns old q.0.1 q.0.0 q.1))

-- ---- constants

becomes : (w : Option ValueType) (k : OperandKind) → can_be w k ≡ true → Becomes w k (const_kind w k)
becomes None k e = said.as_it_is k
becomes (Some t) k e = said.typed t k (assignable_from t k e)

term_declared : (ns : Names) (c : ConstSpec) (at : ℕ) (w : Option ValueType) (s : Term) (x : Meaning) → MayBeType ns c.kind w → Has ns (shape c.value) (value (value_found s)) → can_be w (rules.kind_of s) ≡ true
    → const_term at w s ≡ Ok x → (k : OperandKind) × (d : Constant) × (x ≡ meaning.Constant k d) × IsConst ns c k
term_declared ns c at w (term.Constant k z) x m h a e =
    let p = ok_then (within at (const_kind w k) z) _ x e in
    (const_kind w k, p.0, sym (same_ok (meaning.Constant (const_kind w k) p.0) x p.2), said.const w k (const_kind w k) m h (becomes w k a))
term_declared ns c at w term.Nil x m h a e = no_fault _ x e
term_declared ns c at w (term.Value t z) x m h a e = no_fault _ x e

pub const_typed : ConstIsTyped
const_typed ns c old new x kinds e =
    let p = ok_then (type_if c.kind ns old) _ (x, new) e in
    let m = type_if_found ns c.kind old p.0.1 p.0.0 p.1 in
    let q = ok_then (value_of Expr check c.value ns p.0.1) _ (x, new) p.2 in
    let h = value_found_of ns kinds (c.value, found ns kinds c.value) p.0.1 q.0.1 q.0.0 q.1 in
    let r = ok_if (can_be p.0.0 (rules.kind_at q.0.0)) (const_term q.0.0.at p.0.0 q.0.0.term) q.0.0.at source.WrongType x (lifted (const_meaning p.0.0 q.0.0) q.0.1 x new q.2) in
    term_declared ns c q.0.0.at p.0.0 q.0.0.term x m h.0 r.0 r.1

-- ---- variables

values_declared : (ns : Names) → ConstantsAreOfKind ns → (v : VarSpec) (at : ℕ) (w : Option ValueType) (es : List Expr) (old new : Marks) (f : Filled) → v.values ≡ es → MayBeType ns v.kind w
    → statements.given_values at w (length v.names) es ns old ≡ Ok (f, new) → IsVar ns v
values_declared ns kinds v at w es old new f is m e =
    let ws = replicate (length v.names) w in
    let q = ok_then (statements.given true at (length v.names) es ns old) _ (f, new) e in
    let g = given_found ns kinds true at (length v.names) es old q.0.1 q.0.0 q.1 in
    let a = filled_found ns true ws (length v.names) es q.0.0 f (sym (length-replicate (length v.names) w)) g (lifted (statements.fill ws q.0.0) q.0.1 f new q.2) in
    said.given w m (subst (AreGiven ns true ws) (sym is) a)

initial_declared : (ns : Names) → ConstantsAreOfKind ns → (v : VarSpec) (at : ℕ) (w : Option ValueType) (es : List Expr) (old new : Marks) (f : Filled) → v.values ≡ es → MayBeType ns v.kind w
    → statements.initial at w (length v.names) es ns old ≡ Ok (f, new) → IsVar ns v
initial_declared ns kinds v at (Some t) [] old new f is m e = said.zero t m is
initial_declared ns kinds v at (Some t) (x ∷ es) old new f is m e = values_declared ns kinds v at (Some t) (x ∷ es) old new f is m e
initial_declared ns kinds v at None es old new f is m e = values_declared ns kinds v at None es old new f is m e

pub var_typed : VarIsTyped
unfolding var_spec
var_typed v at s new a kinds e =
    let q = ok_then (here (type_if v.kind) s) _ (a, new) e in
    let w = here_found (type_if v.kind) s q.0.0 q.0.1 q.1 in
    let m = type_if_found s.names v.kind s.marks w.marks q.0.0 w.was in
    let r = ok_then (here (statements.initial at q.0.0 (length v.names) v.values) q.0.1) _ (a, new) q.2 in
    let u = here_found (statements.initial at q.0.0 (length v.names) v.values) q.0.1 r.0.0 r.0.1 r.1 in
    initial_declared s.names kinds v at q.0.0 v.values q.0.1.marks u.marks r.0.0 refl m
    (subst (λ ns. statements.initial at q.0.0 (length v.names) v.values ns q.0.1.marks ≡ Ok (r.0.0, u.marks)) w.stays.names u.was)
