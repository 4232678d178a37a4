use Rattle.std.proofs.Common.{rules, arith, ℕ}
use Rattle.std.proofs.lemmas.Grind.{common_steps}
use Rattle.go_reading.specs.Files.{decls_from}
use Rattle.go_parse.proofs.Steps.{one_more}
use Rattle.go_parse.proofs.file.decls.Goals as goal
use Rattle.go_grammar.specs.Blocks.{source}

pub returns-then-is_none-clause-reads : goal.returns-then-is_none-clause-reads
unfolding decls_from
returns-then-is_none-clause-reads c =
    let e = one_more (λ (n : ℕ). decls_from source c.args.bounds.turns c.args.bounds.most c.args.depth n c.loop-turn.found c.loop-turn.height c.loop-turn.tokens) _ c.loop-turn._turn c.loop-turn-test.true c.loop-turn.invariant.so_far in
    first_of (search rules, grind (arith, common_steps))

pub loop-turn-preserved : goal.loop-turn-preserved
unfolding decls_from
loop-turn-preserved c =
    let e = one_more (λ (n : ℕ). decls_from source c.args.bounds.turns c.args.bounds.most c.args.depth n c.loop-turn.found c.loop-turn.height c.loop-turn.tokens) _ c.loop-turn._turn c.loop-turn-test.true c.loop-turn.invariant.so_far in
    record { so_far = first_of (search rules, grind (arith, common_steps)); tall = first_of (search rules, grind (arith, common_steps)) }
