use Rattle.std.proofs.Common.{◌≡◌, ℕ, ◌+◌, ◌<◌, true}
use Rattle.go_meaning.specs.Steps.{numbered}
use Rattle.go_meaning.specs.Readiness.{is_over}
use Rattle.go_state.proofs.passing.least.Given as goal

abbrev pub invariant-loop-i : goal.invariant-loop-i
invariant-loop-i l = (j : ℕ) → l.above < j → j < l.i + 1 → is_over (numbered l.config j) ≡ true
