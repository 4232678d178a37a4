use Rattle.std.proofs.Common.{rules, arith, ℕ}
use Rattle.std.proofs.lemmas.Grind.{common_steps}
use Rattle.go_grammar.specs.Terminals as t
use Rattle.go_reading.specs.Lists.{list_from}
use Rattle.go_reading.specs.Types.{type_}
use Rattle.go_parse.proofs.Steps.{one_more}
use Rattle.go_parse.proofs.params.types.Goals as goal

pub returns-then-not-sees-clause-reads : goal.returns-then-not-sees-clause-reads
unfolding list_from
returns-then-not-sees-clause-reads c =
    let e = one_more (λ (n : ℕ). list_from t.comma t.right_parenthesis (type_ c.args.depth) n c.loop-turn.found c.loop-turn.height c.loop-turn.tokens) _ c.loop-turn._turn c.loop-turn-test.true c.loop-turn.invariant.so_far in
    first_of (search rules, grind (arith, common_steps))

pub returns-then-sees-clause-reads : goal.returns-then-sees-clause-reads
unfolding list_from
returns-then-sees-clause-reads c =
    let e = one_more (λ (n : ℕ). list_from t.comma t.right_parenthesis (type_ c.args.depth) n c.loop-turn.found c.loop-turn.height c.loop-turn.tokens) _ c.loop-turn._turn c.loop-turn-test.true c.loop-turn.invariant.so_far in
    first_of (search rules, grind (arith, common_steps))

pub loop-turn-preserved : goal.loop-turn-preserved
unfolding list_from
loop-turn-preserved c =
    let e = one_more (λ (n : ℕ). list_from t.comma t.right_parenthesis (type_ c.args.depth) n c.loop-turn.found c.loop-turn.height c.loop-turn.tokens) _ c.loop-turn._turn c.loop-turn-test.true c.loop-turn.invariant.so_far in
    record { so_far = first_of (search rules, grind (arith, common_steps)); tall = first_of (search rules, grind (arith, common_steps)) }
