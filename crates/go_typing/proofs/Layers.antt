-- One layer of an expression and of a type.
use Rattle.std.proofs.Common.{◌≡◌, ℕ, List, [], ◌∷◌, refl, ap, ◌∙◌, map, Some, None, Bool, true, false}
use Rattle.go_ast.specs.declared.expr.Expr.{Expr, fold-Expr, fold_out-Expr}
use Rattle.go_ast.specs.declared.expr.ExprForm.{ExprForm, fold-ExprForm, out-ExprForm, fold_out-ExprForm}
use Rattle.go_ast.specs.declared.expr.ExprForm.TheOpen.{ExprForm-F}
use Rattle.go_ast.specs.declared.expr.ExprForm.TheFolds.{map-ExprForm}
use Rattle.go_ast.specs.declared.expr.ExprForm.TheShapes.{former-ExprForm-Call-1}
use Rattle.go_ast.specs.declared.expr.TypeExpr.{TypeExpr, fold-TypeExpr, fold_out-TypeExpr}
use Rattle.go_ast.specs.declared.expr.TypeForm.{TypeForm, fold-TypeForm, out-TypeForm, fold_out-TypeForm}
use Rattle.go_ast.specs.declared.expr.TypeForm.TheOpen.{TypeForm-F}
use Rattle.go_ast.specs.declared.expr.TypeForm.TheFolds.{map-TypeForm}
use Rattle.std.proofs.Math.Path.{fun_ext}
use Rattle.go_ast.specs.declared.kind.SourceKind.TheVariants.{WrongType}
use Rattle.go_types.specs.declared.names.Callee.TheVariants as callees
use Rattle.go_types.specs.declared.names.Names.{Names}
use Rattle.go_types.specs.declared.operand.Operand.TheVariants as operand
use Rattle.go_types.specs.declared.operand.Operand.{Operand}
use Rattle.go_types.specs.Checking.{◌>>=◌, pure, lift, fail}
use Rattle.go_types.specs.Operands as rules
use Rattle.go_types.specs.Expressions.{Typing, type_layer, type_of, Finding, value_of, values_of, part_of, parts_of, make_of, call_of, term_at, operand_at, layer, check}

abbrev typeF : TypeForm → Typing
typeF = fold-TypeForm Typing Typing (type_layer Typing (λ m. m)) (λ e. e.form)

abbrev typeE : TypeExpr → Typing
typeE = fold-TypeExpr Typing Typing (type_layer Typing (λ m. m)) (λ e. e.form)

type_layered : (x : TypeForm-F TypeForm TypeExpr) (ns : Names) → type_layer Typing (λ m. m) (map-TypeForm TypeForm TypeExpr Typing Typing typeF typeE x) ns ≡ type_layer TypeExpr type_of x ns
unfolding type_of
type_layered (TypeForm-F.Plain n) ns = refl
type_layered (TypeForm-F.Member p n) ns = refl
type_layered (TypeForm-F.Chan t) ns = refl

pub type_of_is : (t : TypeExpr) (ns : Names) → type_of t ns ≡ type_layer TypeExpr type_of (out-TypeForm t.form) ns
unfolding type_of
type_of_is t ns =
    ap (λ (m : Typing). m ns) (fold_out-TypeExpr Typing Typing (type_layer Typing (λ m. m)) (λ e. e.form) t)
    ∙ ap (λ (m : Typing). m ns) (fold_out-TypeForm Typing Typing (type_layer Typing (λ m. m)) (λ e. e.form) t.form)
    ∙ type_layered (out-TypeForm t.form) ns

abbrev foldF : ExprForm → ℕ → Finding
foldF = fold-ExprForm (ℕ → Finding) Finding (layer Finding (λ m. m)) (λ e. e.form e.span.start)

abbrev foldE : Expr → Finding
foldE = fold-Expr (ℕ → Finding) Finding (layer Finding (λ m. m)) (λ e. e.form e.span.start)

mapped : (es : List Expr) → (former-ExprForm-Call-1).map Expr Finding foldE es ≡ map foldE es
mapped [] = refl
mapped (e ∷ es) = ap (λ l. foldE e ∷ l) (mapped es)

values_is : (es : List Expr) (ns : Names) → values_of Finding (λ m. m) (map foldE es) ns ≡ values_of Expr check es ns
unfolding check
values_is [] ns = refl
values_is (e ∷ es) ns = ap (λ r. value_of Expr check e ns >>= (λ a. r >>= (λ as'. pure (a ∷ as')))) (values_is es ns)

parts_is : (may : Bool) (es : List Expr) (ns : Names) → parts_of Finding (λ m. m) may (map foldE es) ns ≡ parts_of Expr check may es ns
unfolding check
parts_is may [] ns = refl
parts_is may (e ∷ es) ns = ap (λ r. part_of Expr check may e ns >>= (λ p. r >>= (λ ps. pure (p ∷ ps)))) (parts_is false es ns)

make_is : (at callee : ℕ) (es : List Expr) (ns : Names) → make_of Finding (λ m. m) at callee (map foldE es) ns ≡ make_of Expr check at callee es ns
unfolding check
make_is at callee es ns = ap (λ r. r >>= (λ ps. term_at at (rules.make callee ps))) (parts_is true es ns)

call_is : (at callee : ℕ) (o : Operand) (es : List Expr) (ns : Names) → call_of Finding (λ m. m) at callee o (map foldE es) ns ≡ call_of Expr check at callee o es ns
unfolding check
call_is at callee (operand.Type t) es ns = ap (λ r. r >>= (λ as'. operand_at at (rules.call_type at callee t as'))) (values_is es ns)
call_is at callee (operand.Callee callees.Make) es ns = make_is at callee es ns
call_is at callee (operand.Callee c) es ns = ap (λ r. r >>= (λ as'. operand_at at (rules.call ns.signatures callee c as'))) (values_is es ns)
call_is at callee o es ns = ap (λ r. lift (rules.valued callee o) >>= (λ _. r >>= (λ _. fail callee WrongType))) (values_is es ns)

layered : (x : ExprForm-F ExprForm Expr) (at : ℕ) (ns : Names) → layer Finding (λ m. m) (map-ExprForm ExprForm Expr (ℕ → Finding) Finding foldF foldE x) at ns ≡ layer Expr check x at ns
unfolding check
layered (ExprForm-F.Binary o a b) at ns = refl
layered (ExprForm-F.Unary o a) at ns = refl
layered (ExprForm-F.Call f es) at ns =
    ap (λ l. check f ns >>= (λ p. call_of Finding (λ m. m) at p.at p.operand l ns)) (mapped es)
    ∙ ap (λ k. check f ns >>= k) (fun_ext (λ p. call_is at p.at p.operand es ns))
layered (ExprForm-F.Index s i) at ns = refl
layered (ExprForm-F.Cut s None None) at ns = refl
layered (ExprForm-F.Cut s None (Some j)) at ns = refl
layered (ExprForm-F.Cut s (Some i) None) at ns = refl
layered (ExprForm-F.Cut s (Some i) (Some j)) at ns = refl
layered (ExprForm-F.Int bytes) at ns = refl
layered (ExprForm-F.Rune c) at ns = refl
layered (ExprForm-F.Text s) at ns = refl
layered (ExprForm-F.Plain n) at ns = refl
layered (ExprForm-F.Member p n) at ns = refl
layered (ExprForm-F.Chan t) at ns = refl
layered (ExprForm-F.Paren e) at ns = refl

pub check_is : (e : Expr) (ns : Names) → check e ns ≡ layer Expr check (out-ExprForm e.form) e.span.start ns
unfolding check
check_is e ns =
    ap (λ (m : Finding). m ns) (fold_out-Expr (ℕ → Finding) Finding (layer Finding (λ m. m)) (λ e. e.form e.span.start) e)
    ∙ ap (λ (m : ℕ → Finding). m e.span.start ns) (fold_out-ExprForm (ℕ → Finding) Finding (layer Finding (λ m. m)) (λ e. e.form e.span.start) e.form)
    ∙ layered (out-ExprForm e.form) e.span.start ns
