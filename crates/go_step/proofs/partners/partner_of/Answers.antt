use Rattle.std.proofs.Common.{arith}
use Rattle.go_step.proofs.Partnership.{no_later_partner}
use Rattle.go_step.proofs.partners.partner_of.Goals as goal

pub returns-clause-first : goal.returns-clause-first
returns-clause-first c = no_later_partner c.args.program.now c.args.config.now c.args.index c.args.way c.len-count.result c.len-count.ensures (λ j q h. c.loop-other.invariant j q (omega (arith, h)))
