-- Fronts of a text that a sink received.
use Rattle.std.proofs.Common.{◌≡◌, ℕ, List, [], ◌++◌, Option, Some, None, refl, sym, ap, ◌∙◌, arith}
use Rattle.std.specs.Io.KnownBytes.{append_known}
use Rattle.cov_outside.specs.Faults.{HasPrefix}
use Rattle.gocov_tools.proofs.Pieces.{nothing}

-- nothing was received
pub nothing_more : (old new : Option (List ℕ)) (text : List ℕ) → new ≡ old → HasPrefix old new text
nothing_more old new text e = (0, omega arith, e ∙ nothing old)
