-- Pieces in the order of their offsets.
use Rattle.std.specs.Prelude.{ℕ, ◌≤◌, List, [], ◌∷◌}
use Rattle.cov_rewrite.specs.declared.piece.Piece.{Piece}

-- from an offset on
abbrev pub Ascends : ℕ → List Piece → Type 0
Ascends at [] = Unit {0}
Ascends at (p ∷ ps) = (at ≤ p.at) × Ascends p.at ps
