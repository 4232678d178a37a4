-- What reading a `go.mod` answers.
use Rattle.std.specs.Prelude.{◌≡◌, ℕ, List, Option, Some, None, Result, Ok, Err}
use Rattle.go_load.specs.declared.go_mod.ModuleFault.{ModuleFault}
use Rattle.go_load.specs.declared.go_mod.ModuleFault.TheVariants as faults

-- the path that there is, or that there is none, unless memory ran out
abbrev pub TellsPath : Result (List ℕ) ModuleFault → Option (List ℕ) → Type 0
TellsPath (Ok path) there = there ≡ Some path
TellsPath (Err faults.BadModule) there = there ≡ None
TellsPath (Err faults.NoMemory) there = Unit {0}
