-- The programs that threads can run.
use Rattle.std.specs.Prelude.{◌⊎◌}
use Rattle.go_meaning.specs.Programs.{Parts}
use Rattle.go_meaning.specs.Units.{counted}
use Rattle.go_meaning.specs.Erasing.{IsUncounted}
use Rattle.go_meaning.specs.Shapes.{IsSameShape}

-- Q is P, which has no counters, with its counters
pub record IsCovered (P Q : Parts) : Type 0 where
  pub plain : IsUncounted P
  pub shape : IsSameShape Q (counted P)

-- a program has neither counters nor units, or the counters of a program without
abbrev pub IsRunnable : Parts → Type 0
IsRunnable Q = IsUncounted Q ⊎ ((P : Parts) × IsCovered P Q)
