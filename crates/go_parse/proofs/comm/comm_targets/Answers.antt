use Rattle.std.proofs.Common.{rules, arith, ℕ}
use Rattle.std.proofs.lemmas.Grind.{common_steps}
use Rattle.go_reading.specs.Stmts.{comm_targets}
use Rattle.go_parse.proofs.Steps.{one_more}
use Rattle.go_parse.proofs.comm.comm_targets.Goals as goal

pub loop-turn-preserved : goal.loop-turn-preserved
unfolding comm_targets
loop-turn-preserved c =
    let e = one_more (λ (n : ℕ). comm_targets c.args.turns c.args.depth n c.loop-turn.found.items c.loop-turn.tokens) _ c.loop-turn._turn c.loop-turn-test.true c.loop-turn.invariant in
    first_of (search rules, grind (arith, common_steps))
