use Rattle.std.proofs.Common.{rules, arith, ℕ}
use Rattle.std.proofs.lemmas.Grind.{common_steps}
use Rattle.go_grammar.specs.Terminals as t
use Rattle.go_reading.specs.Lists.{row_from}
use Rattle.go_reading.specs.Exprs.{expr, exprs}
use Rattle.go_parse.proofs.Steps.{one_more}
use Rattle.go_parse.proofs.expr.exprs.Goals as goal

pub returns-then-not-sees-clause-reads : goal.returns-then-not-sees-clause-reads
unfolding exprs row_from
returns-then-not-sees-clause-reads c =
    let e = one_more (λ (n : ℕ). row_from t.comma (expr c.args.turns c.args.depth 1) n c.loop-turn.found c.loop-turn.height c.loop-turn.tokens) _ c.loop-turn._turn c.loop-turn-test.true c.loop-turn.invariant.so_far in
    first_of (search rules, grind (arith, common_steps))

pub loop-turn-preserved : goal.loop-turn-preserved
unfolding exprs row_from
loop-turn-preserved c =
    let e = one_more (λ (n : ℕ). row_from t.comma (expr c.args.turns c.args.depth 1) n c.loop-turn.found c.loop-turn.height c.loop-turn.tokens) _ c.loop-turn._turn c.loop-turn-test.true c.loop-turn.invariant.so_far in
    record { so_far = first_of (search rules, grind (arith, common_steps)); tall = first_of (search rules, grind (arith, common_steps)) }
