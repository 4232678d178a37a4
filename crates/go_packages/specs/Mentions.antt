-- The names that types and expressions use, in order, and where the parts of a call stand. Go specification,
-- "Declarations and scope", "Uniqueness of identifiers", "Qualified identifiers".
use Rattle.std.specs.Prelude.{ℕ, List, [], ◌∷◌, ◌++◌, map, flat_map, slice_get, Option, Some, None, unwrap_or}
use Rattle.go_ast.specs.declared.name.Name.{Name}
use Rattle.go_ast.specs.declared.expr.TypeExpr.{TypeExpr, fold-TypeExpr}
use Rattle.go_ast.specs.declared.expr.TypeForm.{TypeForm}
use Rattle.go_ast.specs.declared.expr.TypeForm.TheOpen.{TypeForm-F, TypeExpr-F}
use Rattle.go_ast.specs.declared.expr.Expr.{Expr, fold-Expr}
use Rattle.go_ast.specs.declared.expr.ExprForm.{ExprForm}
use Rattle.go_ast.specs.declared.expr.ExprForm.TheOpen.{ExprForm-F, Expr-F}

-- of a name in a package the package's
abbrev pub type_layer : (E : Type 0) → (E → List Name) → {F : Type 0} → TypeForm-F F E → List Name
type_layer E used (TypeForm-F.Plain n) = n ∷ []
type_layer E used (TypeForm-F.Member p n) = p ∷ []
type_layer E used (TypeForm-F.Chan t) = used t

unfoldable pub names_in_type : TypeExpr → List Name
names_in_type t = fold-TypeExpr (List Name) (List Name) (type_layer (List Name) (λ u. u)) (λ e. e.form) t

abbrev pub names_if : Option TypeExpr → List Name
names_if None = []
names_if (Some t) = names_in_type t

module _ (E : Type 0) (used : E → List Name) where
  abbrev pub bound_names : Option E → List Name
  bound_names None = []
  bound_names (Some e) = used e

  abbrev pub layer : {F : Type 0} → ExprForm-F F E → List Name
  layer (ExprForm-F.Binary o a b) = used a ++ used b
  layer (ExprForm-F.Unary o a) = used a
  layer (ExprForm-F.Call f es) = used f ++ flat_map used es
  layer (ExprForm-F.Index s i) = used s ++ used i
  layer (ExprForm-F.Cut s low high) = used s ++ (bound_names low ++ bound_names high)
  layer (ExprForm-F.Plain n) = n ∷ []
  layer (ExprForm-F.Member p n) = p ∷ []
  layer (ExprForm-F.Chan t) = names_in_type t
  layer (ExprForm-F.Paren e) = used e
  layer x = []

unfoldable pub names_in : Expr → List Name
names_in e = fold-Expr (List Name) (List Name) (layer (List Name) (λ u. u)) (λ e. e.form) e

-- ---- where an expression stands, inside its parentheses, and where the arguments of a call do

pub record Places : Type 0 where
  pub at : ℕ
  pub arguments : List ℕ

abbrev pub place_layer : (E : Type 0) → (E → Places) → {F : Type 0} → ExprForm-F F E → ℕ → Places
place_layer E places (ExprForm-F.Paren e) at = places e
place_layer E places (ExprForm-F.Call f es) at = record { at = at; arguments = map (λ e. (places e).at) es }
place_layer E places x at = record { at = at; arguments = [] }

unfoldable pub places : Expr → Places
places e = fold-Expr (ℕ → Places) Places (place_layer Places (λ p. p)) (λ e. e.form e.span.start) e

-- where the second argument of a call stands
abbrev pub second_at : Places → ℕ
second_at p = unwrap_or (slice_get p.arguments 1) p.at

-- the same, of the arguments themselves
abbrev pub second_of : List Expr → ℕ → ℕ
second_of es at = unwrap_or (slice_get (map (λ (e : Expr). (places e).at) es) 1) at

-- the size of a `make`
abbrev pub size_at : Expr → ℕ
size_at e = second_at (places e)
