-- What stands behind the next piece. Three points are an operator though two aren't, so a point there is told.
use Rattle.std.specs.Prelude.{◌≡◌, ℕ, List, ◌∷◌}

-- the second begins with a point only if the first does
abbrev pub ArePointedAlike : List ℕ → List ℕ → Type 0
ArePointedAlike rest other = (more : List ℕ) → other ≡ 46 ∷ more → (others : List ℕ) × (rest ≡ 46 ∷ others)
