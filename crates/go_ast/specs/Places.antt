-- Lines and columns of a text.
use Rattle.std.specs.Prelude.{ℕ, ◌+◌, Bool, ◌==◌, not, List, [], ◌∷◌, take, count_by, if◌then◌else◌}
use Rattle.std.specs.List.{suffix_len}
use Rattle.go_ast.specs.declared.place.Place.{Place}

abbrev pub is_newline : ℕ → Bool
is_newline byte = byte == 10

-- the place of an offset: 1 plus the newlines before it, and 1 plus the bytes before it since the last of them
abbrev pub place_at : List ℕ → ℕ → Place
place_at text offset =
    record {
      line = 1 + count_by is_newline (take offset text);
      column = 1 + suffix_len (λ byte. not (is_newline byte)) (take offset text);
    }

-- the offsets directly after the newlines of a text that begins at an offset
abbrev pub starts_from : ℕ → List ℕ → List ℕ
starts_from at [] = []
starts_from at (byte ∷ bytes) =
    if is_newline byte then (at + 1) ∷ starts_from (at + 1) bytes else starts_from (at + 1) bytes

-- the offsets at which the lines of a text start
abbrev pub line_starts : List ℕ → List ℕ
line_starts text = 0 ∷ starts_from 0 text
