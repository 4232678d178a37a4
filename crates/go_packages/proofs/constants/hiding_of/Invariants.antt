use Rattle.std.proofs.Common.{◌≡◌, ℕ, ◌+◌, List, [], ◌++◌, map, take, drop, length, Ok}
use Rattle.go_types.specs.Checking.{and_then}
use Rattle.go_packages.specs.Constants as spec
use Rattle.go_packages.proofs.constants.hiding_of.Given as goal

abbrev pub invariant-loop-number : goal.invariant-loop-number
invariant-loop-number l = spec.hiding_from 0 l.consts ≡ l.all ++ spec.hiding_from l.number (drop l.number l.consts)
