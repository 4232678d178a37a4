use Rattle.std.proofs.Common.{◌≡◌, ℕ, ◌+◌, List, [], ◌++◌, map, take, drop, length, Ok}
use Rattle.go_types.specs.Checking.{and_then}
use Rattle.go_packages.specs.Variables as spec
use Rattle.go_packages.proofs.pass.behind.Given as goal

abbrev pub invariant-loop-place : goal.invariant-loop-place
invariant-loop-place l = spec.behind l.names l.from l.from l.consts ≡ spec.behind l.names l.last l.number (drop l.place-index l.consts)
