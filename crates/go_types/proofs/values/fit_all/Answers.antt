use Rattle.std.proofs.Common.{◌≡◌, ℕ, ◌<◌, List, [], ◌∷◌, length, Option, Ok, refl, ◌∙◌, arith}
use Rattle.go_types.specs.declared.types.ValueType.{ValueType}
use Rattle.go_types.specs.Statements as spec
use Rattle.go_types.proofs.values.fit_all.Goals as goal

none_wanted : (at : ℕ) (ts : List ValueType) (ws : List (Option ValueType)) → length ws < 1 → spec.fit_all at ts ws ≡ Ok tt
none_wanted at [] ws h = refl
none_wanted at (t ∷ ts) [] h = refl
none_wanted at (t ∷ ts) (w ∷ ws) h = absurd (omega (arith, h))

pub returns-in_default : goal.returns-in_default
returns-in_default c = c.loop-of.invariant ∙ none_wanted c.args.at _ c.loop-of.left.now c.in_default.len_below
