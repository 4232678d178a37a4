use Rattle.std.proofs.Common.{◌≡◌, ◌-◌, suc, arith}
use Rattle.go_step.proofs.FirstSteps.{found_step, none_first}
use Rattle.go_step.proofs.readiness.first_step.Goals as goal

pub returns-in-Some : goal.returns-in-Some
returns-in-Some c = found_step c.args.program.now c.args.config.now c.args.g c.loop-case.case c.in-Some.event c.in-Some.ensures c.loop-case.invariant

pub returns : goal.returns
returns c =
    let next : c.args.g ≡ suc (c.args.g - 1) = omega (arith, c.requires.some) in
    none_first c.args.program.now c.args.config.now c.args.g (c.args.g - 1) c.count_of_head-count.result next c.count_of_head-count.ensures (λ k h. c.loop-case.invariant k (omega (arith, h)))
