-- Modes of meta files that are read one after the other.
use Rattle.std.specs.Prelude.{◌≡◌, ◌≢◌, Option, Some, Bool, true, false}
use Rattle.cov_outside.specs.declared.mode.Mode.{Mode}
use Rattle.gocov_tools.specs.Reading.{mode_of}
use Rattle.gocov_tools.specs.declared.reading.FirstMeta.{FirstMeta}

-- a mode is the one of the first meta file, if there is one
abbrev pub IsInMode : Option FirstMeta → Mode → Type 0
IsInMode first mode = (m : Mode) → mode_of first ≡ Some m → mode ≡ m

-- another than the one of the first meta file
abbrev pub IsInAnother : Option FirstMeta → Mode → Type 0
IsInAnother first mode = (m : Mode) × (mode_of first ≡ Some m) × (m ≢ mode)

-- whether a mode is the one of the first meta file
abbrev pub TellsMode : Bool → Option FirstMeta → Mode → Type 0
TellsMode true first mode = IsInMode first mode
TellsMode false first mode = IsInAnother first mode

-- the mode of the first meta file stays
abbrev pub KeepsMode : Option FirstMeta → Option FirstMeta → Type 0
KeepsMode old new = (m : Mode) → mode_of old ≡ Some m → mode_of new ≡ Some m

-- a table has no mode, or that of the first meta file
abbrev pub HasModeOf : Option FirstMeta → Option Mode → Type 0
HasModeOf first mode = (m : Mode) → mode ≡ Some m → mode_of first ≡ Some m
