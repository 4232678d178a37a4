use Rattle.std.proofs.Common.{◌≡◌, ℕ, ◌<◌, Bool, List, [], ◌∷◌, length, drop, None, refl, sym, ◌∙◌, arith}
use Rattle.go_types.specs.declared.walk.Label.{Label}
use Rattle.go_types.specs.Endings as spec
use Rattle.go_types.proofs.ending.unnamed.Goals as goal

no_label : (bs : List Bool) (ls : List Label) → length ls < 1 → None ≡ spec.unnamed bs ls
no_label [] ls h = refl
no_label (b ∷ bs) [] h = refl
no_label (b ∷ bs) (l ∷ ls) h = absurd (omega (arith, h))

pub returns-in_default : goal.returns-in_default
returns-in_default c =
    no_label (drop c.loop-was_named.was_named-index c.args.named.now) c.loop-was_named.left.now c.in_default.len_below ∙ sym c.loop-was_named.invariant
