use Rattle.std.proofs.Common.{◌≡◌, ℕ, ◌<◌, false}
use Rattle.go_step.specs.Partners.{joins}
use Rattle.go_step.proofs.partners.partner_of.Given as goal

abbrev pub invariant-loop-other : goal.invariant-loop-other
invariant-loop-other l = (j q : ℕ) → j < l.other → joins l.program l.config l.index l.way j q ≡ false
