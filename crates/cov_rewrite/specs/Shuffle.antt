-- Two texts in one.
use Rattle.std.specs.Prelude.{ℕ, ◌+◌, List, [], ◌∷◌, ◌++◌}

-- The bytes of a text are those of two others, the ones that were kept and the ones that were put in, each in its order.
pub data IsShuffle : List ℕ → List ℕ → List ℕ → Type 0 where
  nothing : IsShuffle [] [] []
  kept : (byte : ℕ) (own other all : List ℕ) → IsShuffle own other all → IsShuffle (byte ∷ own) other (byte ∷ all)
  put_in : (byte : ℕ) (own other all : List ℕ) → IsShuffle own other all → IsShuffle own (byte ∷ other) (byte ∷ all)

-- what is put in at the offsets of a text that begins at an offset, and at its end
abbrev pub put_from : (ℕ → List ℕ) → ℕ → List ℕ → List ℕ
put_from put at [] = put at
put_from put at (byte ∷ bytes) = put at ++ put_from put (at + 1) bytes
