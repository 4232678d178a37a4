use Rattle.std.proofs.Common.{◌≡◌, ℕ, ◌+◌, List, [], ◌++◌, map, take, drop, length, Ok}
use Rattle.go_types.specs.Checking.{and_then}
use Rattle.go_packages.specs.Constants as spec
use Rattle.go_packages.proofs.constants.none_hidden.Given as goal

abbrev pub invariant-loop-name : goal.invariant-loop-name
invariant-loop-name l = spec.none_hidden l.known l.hiding l.names ≡ spec.none_hidden l.known l.hiding (drop l.name-index l.names)
