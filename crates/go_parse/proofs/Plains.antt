-- The names of targets, and what an expression at the front of a statement becomes.
use Rattle.std.proofs.Common.{◌≡◌, ◌&&◌, refl, ap, sym, ℕ, Bool, true, false, if◌then◌else◌, List, [], ◌∷◌, ◌++◌, Option, Some, None, append_assoc}
use Rattle.go_ast.specs.declared.name.Name.{Name}
use Rattle.go_ast.specs.declared.expr.Expr.{Expr}
use Rattle.go_ast.specs.declared.block.Target.{Target}
use Rattle.go_ast.specs.declared.block.Target.TheVariants as target
use Rattle.go_reading.specs.declared.lead.Lead.TheVariants as l
use Rattle.go_reading.specs.declared.sign.Sign.TheVariants as s
use Rattle.go_reading.specs.Input.{Tall, pure, limited, ◌>>◌, take_span}
use Rattle.go_reading.specs.Simple.{with_name, is_name_target, plain_of, comma_by, target_by_sign, targets_from}

-- names, and those of the targets behind them
abbrev pub joined : List Name → Option (List Name) → Option (List Name)
joined names None = None
joined names (Some more) = Some (names ++ more)

pub one_more_name : (names : List Name) (name : Name) (rest : Option (List Name)) → joined names (with_name name rest) ≡ joined (names ++ name ∷ []) rest
one_more_name names name None = refl
one_more_name names name (Some more) = ap Some (sym (append_assoc names (name ∷ []) more))

-- what isn't a name isn't defined
pub not_defined : (n c : ℕ) (ranges : Bool) (x : Tall Expr) (o : Option Target) → is_name_target o ≡ false → target_by_sign n c ranges x s.Define o ≡ pure (l.Expr x.0, x.1)
not_defined n c ranges x None e = refl
not_defined n c ranges x (Some (target.Plain name)) e = absurd cc
not_defined n c ranges x (Some (target.Member package_name name)) e = refl

-- targets behind a comma are limited, unless a range may come
pub comma_any : (n c : ℕ) (ranges : Bool) (g : Target)
    → comma_by n c ranges g (plain_of g) ≡ (if (ranges && is_name_target (Some g)) then (take_span >> targets_from n c ranges n (g ∷ [])) else limited c 1 (take_span >> targets_from n c ranges n (g ∷ [])))
comma_any n c true (target.Plain name) = refl
comma_any n c false (target.Plain name) = refl
comma_any n c true (target.Member package_name name) = refl
comma_any n c false (target.Member package_name name) = refl
