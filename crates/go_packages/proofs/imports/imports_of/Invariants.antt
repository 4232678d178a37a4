use Rattle.std.proofs.Common.{◌≡◌, ℕ, ◌+◌, List, [], ◌++◌, map, take, drop, length, Ok}
use Rattle.go_types.specs.Checking.{and_then}
use Rattle.go_packages.specs.Imports as spec
use Rattle.go_packages.proofs.imports.imports_of.Given as goal

abbrev pub invariant-loop-number : goal.invariant-loop-number
invariant-loop-number l = spec.imports_from l.before 0 l.files ≡ l.all ++ spec.imports_from l.before l.number (drop l.number l.files)
