-- A text with pieces put in is a shuffle of it and the pieces.
use Rattle.std.proofs.Common.{ℕ, ◌+◌, List, [], ◌∷◌, ◌++◌}
use Rattle.cov_rewrite.specs.Weaving.{woven_from}
use Rattle.cov_rewrite.specs.Shuffle.{IsShuffle, nothing, kept, put_in, put_from}

put_all : (xs own other all : List ℕ) → IsShuffle own other all → IsShuffle own (xs ++ other) (xs ++ all)
put_all [] own other all h = h
put_all (x ∷ xs) own other all h = put_in x own (xs ++ other) (xs ++ all) (put_all xs own other all h)

put_alone : (xs : List ℕ) → IsShuffle [] xs xs
put_alone [] = nothing
put_alone (x ∷ xs) = put_in x [] xs xs (put_alone xs)

pub shuffled : (put : ℕ → List ℕ) (at : ℕ) (text : List ℕ) → IsShuffle text (put_from put at text) (woven_from put at text)
shuffled put at [] = put_alone (put at)
shuffled put at (byte ∷ bytes) =
    put_all (put at) (byte ∷ bytes) (put_from put (at + 1) bytes) (byte ∷ woven_from put (at + 1) bytes)
    (kept byte bytes (put_from put (at + 1) bytes) (woven_from put (at + 1) bytes) (shuffled put (at + 1) bytes))
