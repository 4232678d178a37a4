use Rattle.std.proofs.Common.{◌≡◌, ℕ, ◌+◌, List, [], ◌++◌, map, take, drop, length, Ok}
use Rattle.go_types.specs.Checking.{and_then}
use Rattle.go_packages.specs.Outlines as spec
use Rattle.go_packages.proofs.outline.param_types.Given as goal

abbrev pub invariant-loop-param : goal.invariant-loop-param
invariant-loop-param l = spec.param_types l.params l.names ≡ and_then (spec.param_types (drop l.param-index l.params) l.names) (λ ts. Ok (l.all ++ ts))
