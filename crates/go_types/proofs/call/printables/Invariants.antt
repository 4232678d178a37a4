use Rattle.std.proofs.Common.{◌≡◌, ◌++◌, length, Ok}
use Rattle.go_types.specs.Checking.{and_then}
use Rattle.go_types.specs.Operands as spec
use Rattle.go_types.proofs.call.printables.Given as goal

abbrev pub invariant-loop-a : goal.invariant-loop-a
invariant-loop-a l = spec.printables l.fn.of ≡ and_then (spec.printables l.of) (λ xs. Ok (l.codes ++ xs))

abbrev pub decreases-loop-a : goal.decreases-loop-a
decreases-loop-a l = length l.of
