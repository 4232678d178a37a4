use Rattle.std.proofs.Common.{◌≡◌, ℕ, ◌<◌, Bool, List, [], ◌∷◌, length, drop, Ok, refl, sym, ◌∙◌, arith}
use Rattle.go_packages.specs.declared.imports.FileImport.{FileImport}
use Rattle.go_packages.specs.Imports as spec
use Rattle.go_packages.proofs.imports.unused_import.Goals as goal

no_import : (us : List Bool) (is : List FileImport) → length is < 1 → spec.unused_import us is ≡ Ok tt
no_import [] is h = refl
no_import (u ∷ us) [] h = refl
no_import (u ∷ us) (i ∷ is) h = absurd (omega (arith, h))

pub returns-in_default : goal.returns-in_default
returns-in_default c =
    c.loop-is_used.invariant ∙ no_import (drop c.loop-is_used.is_used-index c.args.used.now) c.loop-is_used.left.now c.in_default.len_below
