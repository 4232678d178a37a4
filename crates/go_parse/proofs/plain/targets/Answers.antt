use Rattle.std.proofs.Common.{rules, arith, ℕ}
use Rattle.std.proofs.lemmas.Grind.{common_steps}
use Rattle.go_reading.specs.Simple.{targets_from}
use Rattle.go_parse.proofs.Steps.{one_more}
use Rattle.go_parse.proofs.plain.targets.Goals as goal

pub loop-turn-preserved : goal.loop-turn-preserved
unfolding targets_from
loop-turn-preserved c =
    let e = one_more (λ (n : ℕ). targets_from c.args.turns c.args.depth c.args.ranges n c.loop-turn.found.items c.loop-turn.tokens) _ c.loop-turn._turn c.loop-turn-test.true c.loop-turn.invariant in
    first_of (search rules, grind (arith, common_steps))

pub returns-in_err-next_target-clause-reads : goal.returns-in_err-next_target-clause-reads
unfolding targets_from
returns-in_err-next_target-clause-reads c =
    let e = one_more (λ (n : ℕ). targets_from c.args.turns c.args.depth c.args.ranges n c.loop-turn.found.items c.loop-turn.tokens) _ c.loop-turn._turn c.loop-turn-test.true c.loop-turn.invariant in
    first_of (search rules, grind (arith, common_steps))
