-- Reading for each item of a list, and the first fault.
use Rattle.std.specs.Prelude.{List, [], ◌∷◌, Result, Ok}
use Rattle.cov_bytes.specs.Many.{◌>>=◌}

-- for each item, from the state that the one before it left
unfoldable pub each : {X S A E : Type 0} → (X → S → Result (A × S) E) → List X → S → Result (List A × S) E
each step [] s = Ok ([], s)
each step (x ∷ xs) s = do
  first ← step x s
  others ← each step xs first.1
  Ok (first.0 ∷ others.0, others.1)
