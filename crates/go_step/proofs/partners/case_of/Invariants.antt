use Rattle.std.proofs.Common.{◌≡◌, ℕ, ◌<◌, false}
use Rattle.go_step.specs.Partners.{joins}
use Rattle.go_step.proofs.partners.case_of.Given as goal

abbrev pub invariant-loop-case : goal.invariant-loop-case
invariant-loop-case l = (q : ℕ) → q < l.case → joins l.program l.config l.index l.way l.other q ≡ false
