-- The last of a list, and lists from their end on.
use Rattle.std.proofs.Common.{◌≡◌, ℕ, suc, ◌-◌, ◌≤◌, List, [], ◌∷◌, ◌++◌, length, get_or, refl, sym, ap, ◌∙◌, arith, append_assoc}
use Rattle.std.specs.Prelude.{reverse}
use Rattle.std.proofs.lemmas.List.{reverse-append, map-append}
use Rattle.go_ast.specs.declared.name.Name.{Name}
use Rattle.go_ast.specs.declared.expr.Expr.{Expr}
use Rattle.go_ast.specs.declared.expr.TypeExpr.{TypeExpr}
use Rattle.go_ast.specs.declared.decl.Param.{Param}
use Rattle.go_grammar.specs.Trees.{expr_end, exprs_end}
use Rattle.go_grammar.specs.Decls.{params_of}

pub exprs_end_last : (e : ℕ) (xs : List Expr) (d : Expr) → 1 ≤ length xs → exprs_end e xs ≡ expr_end (get_or xs (length xs - 1) d)
exprs_end_last e [] d some = absurd (omega arith)
exprs_end_last e (x ∷ []) d some = refl
exprs_end_last e (x ∷ y ∷ ys) d some =
    let k : length (x ∷ y ∷ ys) - 1 ≡ suc (length (y ∷ ys) - 1) = omega arith in
    exprs_end_last (expr_end x) (y ∷ ys) d (omega arith) ∙ ap (λ (n : ℕ). expr_end (get_or (x ∷ y ∷ ys) n d)) (sym k)

-- ---- parameters

abbrev pub param_of : TypeExpr → Name → Param
param_of of n = record { name = n; kind = of }

pub params_more : (of : TypeExpr) (ns old : List Name) (name : Name) (ps added all : List Param) → old ≡ ns ++ name ∷ [] → added ≡ ps ++ param_of of name ∷ [] → params_of old of ++ reverse ps ≡ all → params_of ns of ++ reverse added ≡ all
params_more of ns old name ps added all e a so =
    ap (λ (x : List Param). params_of ns of ++ reverse x) a
    ∙ ap (λ (x : List Param). params_of ns of ++ x) (reverse-append ps (param_of of name ∷ []))
    ∙ sym (append_assoc (params_of ns of) (param_of of name ∷ []) (reverse ps))
    ∙ ap (λ (x : List Param). x ++ reverse ps) (sym (ap (λ (x : List Name). params_of x of) e ∙ map-append (param_of of) ns (name ∷ [])))
    ∙ so
