use Rattle.std.proofs.Common.{◌≡◌, ℕ, ◌+◌, List, [], ◌++◌, map, take, drop, length, Ok}
use Rattle.go_types.specs.Checking.{and_then}
use Rattle.go_packages.specs.Outlines as spec
use Rattle.go_packages.proofs.outline.result_types.Given as goal

abbrev pub invariant-loop-one : goal.invariant-loop-one
invariant-loop-one l = spec.result_types l.results l.names ≡ and_then (spec.result_types (drop l.one-index l.results) l.names) (λ ts. Ok (l.all ++ ts))
