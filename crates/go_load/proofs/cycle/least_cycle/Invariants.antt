use Rattle.std.proofs.Common.{◌<◌, ℕ, [], ◌∷◌}
use Rattle.go_load.specs.Marks.{IsDead}
use Rattle.go_load.proofs.cycle.least_cycle.Given as goal

abbrev pub invariant-loop-start : goal.invariant-loop-start
invariant-loop-start l = (u : ℕ) → u < l.start → IsDead l.graph u (u ∷ []) u
