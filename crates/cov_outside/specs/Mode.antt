-- What a mode is called, and how counts of one unit are combined in it.
use Rattle.std.specs.Prelude.{ℕ, ◌+◌, ◌-◌, ◌^◌, min, List, codes}
use Rattle.cov_outside.specs.declared.mode.Mode.{Mode}
use Rattle.cov_outside.specs.declared.mode.Mode.TheVariants.{Set, Count, Atomic}

-- as on a command line and in a profile's first line
abbrev pub mode_name : Mode → List ℕ
mode_name Set = codes "set"
mode_name Count = codes "count"
mode_name Atomic = codes "atomic"

-- the count at which sums stop: in mode set a unit ran or it did not
abbrev pub greatest : Mode → ℕ
greatest Set = 1
greatest Count = 2 ^ 32 - 1
greatest Atomic = 2 ^ 32 - 1

-- the lesser of the true sum and the greatest count
abbrev pub combined : Mode → ℕ → ℕ → ℕ
combined mode a b = min (a + b) (greatest mode)
