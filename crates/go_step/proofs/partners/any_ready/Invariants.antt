use Rattle.std.proofs.Common.{ℕ, ◌<◌, false, slice_get}
use Rattle.go_step.specs.Heads.{way_of_head}
use Rattle.go_step.specs.Partners.{IsWayReady}
use Rattle.go_step.proofs.partners.any_ready.Given as goal

abbrev pub invariant-loop-case : goal.invariant-loop-case
invariant-loop-case l = (k : ℕ) → k < l.case → IsWayReady l.program l.config l.index (way_of_head l.program (slice_get l.config.goroutines l.index) k) false
