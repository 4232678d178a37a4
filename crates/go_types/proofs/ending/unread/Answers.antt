use Rattle.std.proofs.Common.{◌≡◌, ℕ, ◌<◌, Bool, List, [], ◌∷◌, length, drop, None, refl, sym, ◌∙◌, arith}
use Rattle.go_types.specs.Endings as spec
use Rattle.go_types.proofs.ending.unread.Goals as goal

no_variable : (rs : List Bool) (ats : List ℕ) → length ats < 1 → None ≡ spec.unread rs ats
no_variable [] ats h = refl
no_variable (r ∷ rs) [] h = refl
no_variable (r ∷ rs) (at ∷ ats) h = absurd (omega (arith, h))

pub returns-in_default : goal.returns-in_default
returns-in_default c =
    no_variable (drop c.loop-was_read.was_read-index c.args.read.now) c.loop-was_read.left.now c.in_default.len_below ∙ sym c.loop-was_read.invariant
