use Rattle.std.proofs.Common.{ℕ, ◌+◌, ◌<◌}
use Rattle.go_meaning.specs.Readiness.{IsIdle}
use Rattle.go_state.proofs.ends.active.Given as goal

abbrev pub invariant-loop-i : goal.invariant-loop-i
invariant-loop-i l = (k : ℕ) → k < l.i → IsIdle l.program l.config (k + 1)
