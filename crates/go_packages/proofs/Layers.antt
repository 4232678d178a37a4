-- One layer of the names that an expression uses.
use Rattle.std.proofs.Common.{◌≡◌, ℕ, List, [], ◌∷◌, ◌++◌, refl, sym, ap, ◌∙◌, map, Option, Some, None}
use Rattle.std.specs.Prelude.{flat_map, slice_get, unwrap_or}
use Rattle.go_ast.specs.declared.name.Name.{Name}
use Rattle.go_ast.specs.declared.expr.Expr.{Expr, fold-Expr, out-Expr, fold_out-Expr}
use Rattle.go_ast.specs.declared.expr.ExprForm.{ExprForm, fold-ExprForm, out-ExprForm, fold_out-ExprForm}
use Rattle.go_ast.specs.declared.expr.ExprForm.TheOpen.{ExprForm-F, Expr-F}
use Rattle.go_ast.specs.declared.expr.ExprForm.TheFolds.{map-ExprForm, map-Expr}
use Rattle.go_ast.specs.declared.expr.ExprForm.TheShapes.{former-ExprForm-Call-1}
use Rattle.go_ast.specs.declared.expr.TypeExpr.{TypeExpr, fold-TypeExpr, fold_out-TypeExpr}
use Rattle.go_ast.specs.declared.expr.TypeForm.{TypeForm, fold-TypeForm, out-TypeForm, fold_out-TypeForm}
use Rattle.go_ast.specs.declared.expr.TypeForm.TheOpen.{TypeForm-F, TypeExpr-F}
use Rattle.go_ast.specs.declared.expr.TypeForm.TheFolds.{map-TypeForm, map-TypeExpr}
use Rattle.go_packages.specs.Mentions.{type_layer, names_in_type, bound_names, layer, names_in, Places, place_layer, places}

abbrev typeF : TypeForm → List Name
typeF = fold-TypeForm (List Name) (List Name) (type_layer (List Name) (λ u. u)) (λ e. e.form)

abbrev typeE : TypeExpr → List Name
typeE = fold-TypeExpr (List Name) (List Name) (type_layer (List Name) (λ u. u)) (λ e. e.form)

type_layered : (x : TypeForm-F TypeForm TypeExpr) → type_layer (List Name) (λ u. u) (map-TypeForm TypeForm TypeExpr (List Name) (List Name) typeF typeE x) ≡ type_layer TypeExpr names_in_type x
unfolding names_in_type
type_layered (TypeForm-F.Plain n) = refl
type_layered (TypeForm-F.Member p n) = refl
type_layered (TypeForm-F.Chan t) = refl

pub names_in_type_is : (t : TypeExpr) → names_in_type t ≡ type_layer TypeExpr names_in_type (out-TypeForm t.form)
unfolding names_in_type
names_in_type_is t =
    fold_out-TypeExpr (List Name) (List Name) (type_layer (List Name) (λ u. u)) (λ e. e.form) t
    ∙ fold_out-TypeForm (List Name) (List Name) (type_layer (List Name) (λ u. u)) (λ e. e.form) t.form
    ∙ type_layered (out-TypeForm t.form)

abbrev foldF : ExprForm → List Name
foldF = fold-ExprForm (List Name) (List Name) (layer (List Name) (λ u. u)) (λ e. e.form)

abbrev foldE : Expr → List Name
foldE = fold-Expr (List Name) (List Name) (layer (List Name) (λ u. u)) (λ e. e.form)

names_mapped : (es : List Expr) → flat_map (λ (u : List Name). u) ((former-ExprForm-Call-1).map Expr (List Name) foldE es) ≡ flat_map foldE es
names_mapped [] = refl
names_mapped (e ∷ es) = ap (λ l. foldE e ++ l) (names_mapped es)

layered : (x : ExprForm-F ExprForm Expr) → layer (List Name) (λ u. u) (map-ExprForm ExprForm Expr (List Name) (List Name) foldF foldE x) ≡ layer Expr names_in x
unfolding names_in
layered (ExprForm-F.Binary o a b) = refl
layered (ExprForm-F.Unary o a) = refl
layered (ExprForm-F.Call f es) = ap (λ l. foldE f ++ l) (names_mapped es)
layered (ExprForm-F.Index s i) = refl
layered (ExprForm-F.Cut s None None) = refl
layered (ExprForm-F.Cut s None (Some j)) = refl
layered (ExprForm-F.Cut s (Some i) None) = refl
layered (ExprForm-F.Cut s (Some i) (Some j)) = refl
layered (ExprForm-F.Int b) = refl
layered (ExprForm-F.Rune c) = refl
layered (ExprForm-F.Text s) = refl
layered (ExprForm-F.Plain n) = refl
layered (ExprForm-F.Member p n) = refl
layered (ExprForm-F.Chan t) = refl
layered (ExprForm-F.Paren e) = refl

pub names_in_is : (e : Expr) → names_in e ≡ layer Expr names_in (out-ExprForm e.form)
unfolding names_in
names_in_is e =
    fold_out-Expr (List Name) (List Name) (layer (List Name) (λ u. u)) (λ e. e.form) e
    ∙ fold_out-ExprForm (List Name) (List Name) (layer (List Name) (λ u. u)) (λ e. e.form) e.form
    ∙ layered (out-ExprForm e.form)

abbrev placeF : ExprForm → ℕ → Places
placeF = fold-ExprForm (ℕ → Places) Places (place_layer Places (λ p. p)) (λ e. e.form e.span.start)

abbrev placeE : Expr → Places
placeE = fold-Expr (ℕ → Places) Places (place_layer Places (λ p. p)) (λ e. e.form e.span.start)

places_mapped : (es : List Expr) → map (λ (p : Places). p.at) ((former-ExprForm-Call-1).map Expr Places placeE es) ≡ map (λ (e : Expr). (placeE e).at) es
places_mapped [] = refl
places_mapped (e ∷ es) = ap (λ l. (placeE e).at ∷ l) (places_mapped es)

place_layered : (x : ExprForm-F ExprForm Expr) (at : ℕ) → place_layer Places (λ p. p) (map-ExprForm ExprForm Expr (ℕ → Places) Places placeF placeE x) at ≡ place_layer Expr places x at
unfolding places
place_layered (ExprForm-F.Call f es) at = ap (λ (l : List ℕ). record { at = at; arguments = l }) (places_mapped es)
place_layered (ExprForm-F.Binary o a b) at = refl
place_layered (ExprForm-F.Unary o a) at = refl
place_layered (ExprForm-F.Index s i) at = refl
place_layered (ExprForm-F.Cut s i j) at = refl
place_layered (ExprForm-F.Int b) at = refl
place_layered (ExprForm-F.Rune c) at = refl
place_layered (ExprForm-F.Text s) at = refl
place_layered (ExprForm-F.Plain n) at = refl
place_layered (ExprForm-F.Member p n) at = refl
place_layered (ExprForm-F.Chan t) at = refl
place_layered (ExprForm-F.Paren e) at = refl

pub places_is : (e : Expr) → places e ≡ place_layer Expr places (out-ExprForm e.form) e.span.start
unfolding places
places_is e =
    fold_out-Expr (ℕ → Places) Places (place_layer Places (λ p. p)) (λ e. e.form e.span.start) e
    ∙ ap (λ (g : ℕ → Places). g e.span.start) (fold_out-ExprForm (ℕ → Places) Places (place_layer Places (λ p. p)) (λ e. e.form e.span.start) e.form)
    ∙ place_layered (out-ExprForm e.form) e.span.start

-- ---- the second of the offsets of expressions

pub second_some : (es : List Expr) (at : ℕ) (x : Expr) → Some x ≡ slice_get es 1 → (places x).at ≡ unwrap_or (slice_get (map (λ (e : Expr). (places e).at) es) 1) at
second_some [] at x h = cc
second_some (e ∷ []) at x h = cc
second_some (e ∷ f ∷ es) at x h = let k : x ≡ f = cc in ap (λ (y : Expr). (places y).at) k

pub second_none : (es : List Expr) (at : ℕ) → None ≡ slice_get es 1 → at ≡ unwrap_or (slice_get (map (λ (e : Expr). (places e).at) es) 1) at
second_none [] at h = refl
second_none (e ∷ []) at h = refl
second_none (e ∷ f ∷ es) at h = cc
