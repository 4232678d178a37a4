-- A text with pieces put in.
use Rattle.std.specs.Prelude.{ℕ, ◌+◌, ◌==◌, List, [], ◌∷◌, ◌++◌}
use Rattle.std.specs.List.{flat_map, filter}
use Rattle.cov_outside.specs.declared.mode.Mode.{Mode}
use Rattle.cov_rewrite.specs.declared.piece.Piece.{Piece}
use Rattle.cov_rewrite.specs.Additions.{addition_text}

-- the text of the pieces at an offset
abbrev pub text_at : List ℕ → Mode → List Piece → ℕ → List ℕ
text_at var m pieces at = flat_map (λ p. addition_text var m p.addition) (filter (λ p. p.at == at) pieces)

-- a text that begins at an offset, with what is put in before each of its bytes and at its end
abbrev pub woven_from : (ℕ → List ℕ) → ℕ → List ℕ → List ℕ
woven_from put at [] = put at
woven_from put at (byte ∷ bytes) = put at ++ byte ∷ woven_from put (at + 1) bytes

abbrev pub woven : List ℕ → Mode → List Piece → List ℕ → List ℕ
woven var m pieces text = woven_from (text_at var m pieces) 0 text
