-- Texts on a command line.
use Rattle.std.specs.Prelude.{ℕ, ◌<◌, List, length}
use Rattle.std.specs.Str.{IsUtf8}

-- a text that isn't empty
pub record IsName (bytes : List ℕ) : Type 0 where
  pub utf8 : IsUtf8 bytes
  pub filled : 0 < length bytes
