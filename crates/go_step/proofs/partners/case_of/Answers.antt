use Rattle.std.proofs.Common.{arith}
use Rattle.go_step.proofs.Partnership.{no_later_case}
use Rattle.go_step.proofs.partners.case_of.Goals as goal

pub returns : goal.returns
returns c = no_later_case c.args.program.now c.args.config.now c.args.index c.args.way c.args.other c.count_of_head-count.result c.count_of_head-count.ensures (λ q h. c.loop-case.invariant q (omega (arith, h)))
