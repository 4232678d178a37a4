use Rattle.std.proofs.Common.{◌≡◌, ℕ, ◌+◌, List, [], ◌++◌, map, take, drop, length, Ok}
use Rattle.go_types.specs.Checking.{and_then}
use Rattle.go_packages.specs.Constants as spec
use Rattle.go_packages.proofs.constants.add_const_decls.Given as goal

abbrev pub invariant-loop-number : goal.invariant-loop-number
invariant-loop-number l = l.fn.all ++ spec.consts_in l.file 0 l.decls ≡ l.all ++ spec.consts_in l.file l.number (drop l.number l.decls)
