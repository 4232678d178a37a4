use Rattle.std.proofs.Common.{rules, arith, ℕ}
use Rattle.std.proofs.lemmas.Grind.{common_steps}
use Rattle.go_grammar.specs.Terminals as t
use Rattle.go_reading.specs.Lists.{row_from}
use Rattle.go_reading.specs.Types.{names, name_item}
use Rattle.go_parse.proofs.Steps.{one_more}
use Rattle.go_parse.proofs.names.names.Goals as goal

pub returns-then-not-sees : goal.returns-then-not-sees
unfolding names row_from
returns-then-not-sees c =
    let e = one_more (λ (n : ℕ). row_from t.comma name_item n c.loop-turn.found 0 c.loop-turn.tokens) _ c.loop-turn._turn c.loop-turn-test.true c.loop-turn.invariant in
    first_of (search rules, grind (arith, common_steps))

pub loop-turn-preserved : goal.loop-turn-preserved
unfolding names row_from
loop-turn-preserved c =
    let e = one_more (λ (n : ℕ). row_from t.comma name_item n c.loop-turn.found 0 c.loop-turn.tokens) _ c.loop-turn._turn c.loop-turn-test.true c.loop-turn.invariant in
    first_of (search rules, grind (arith, common_steps))
