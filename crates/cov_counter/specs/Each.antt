-- A step done several times, and the first fault.
use Rattle.std.specs.Prelude.{ℕ, zero, suc, Result, Ok}
use Rattle.cov_bytes.specs.Many.{◌>>=◌}

-- count times, each from the state that the one before it left
unfoldable pub each : {S E : Type 0} → (S → Result S E) → ℕ → S → Result S E
each step zero s = Ok s
each step (suc n) s = do
  t ← step s
  each step n t
