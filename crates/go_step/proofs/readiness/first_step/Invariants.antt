use Rattle.std.proofs.Common.{ℕ, ◌<◌, None}
use Rattle.go_step.specs.FirstSteps.{IsFirstOfCase}
use Rattle.go_step.proofs.readiness.first_step.Given as goal

abbrev pub invariant-loop-case : goal.invariant-loop-case
invariant-loop-case l = (k : ℕ) → k < l.case → IsFirstOfCase l.program l.config l.g k None
