use Rattle.std.proofs.Common.{◌≡◌, ℕ, ◌+◌, List, [], ◌++◌, map, take, drop, length, Ok}
use Rattle.go_types.specs.Checking.{and_then}
use Rattle.go_packages.specs.Constants as spec
use Rattle.go_packages.proofs.constants.add_const_specs.Given as goal

abbrev pub invariant-loop-index : goal.invariant-loop-index
invariant-loop-index l = l.fn.all ++ spec.consts_of l.file l.decl 0 l.specs ≡ l.all ++ spec.consts_of l.file l.decl l.index (drop l.index l.specs)
