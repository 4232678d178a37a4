-- A covered text with its number of units, by its parts.
use Rattle.std.proofs.Common.{◌≡◌, ℕ, List, ap₂}
use Rattle.cov_rewrite.specs.declared.covered.Rewritten.{Rewritten}

abbrev pub of_parts : List ℕ → ℕ → Rewritten
of_parts text units = record { text = text; units = units }

pub counted_parts : (text other : List ℕ) (units count : ℕ) → text ≡ other → units ≡ count → of_parts text units ≡ of_parts other count
counted_parts text other units count t n = ap₂ of_parts t n
