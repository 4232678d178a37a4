use Rattle.std.proofs.Common.{rules, arith, ℕ}
use Rattle.std.proofs.lemmas.Grind.{common_steps}
use Rattle.go_reading.specs.Files.{imports_from}
use Rattle.go_parse.proofs.Steps.{one_more}
use Rattle.go_parse.proofs.file.imports.Goals as goal

pub returns-then-not-sees : goal.returns-then-not-sees
unfolding imports_from
returns-then-not-sees c =
    let e = one_more (λ (n : ℕ). imports_from c.args.turns c.args.depth n c.loop-turn.found c.loop-turn.tokens) _ c.loop-turn._turn c.loop-turn-test.true c.loop-turn.invariant in
    first_of (search rules, grind (arith, common_steps))

pub loop-turn-preserved : goal.loop-turn-preserved
unfolding imports_from
loop-turn-preserved c =
    let e = one_more (λ (n : ℕ). imports_from c.args.turns c.args.depth n c.loop-turn.found c.loop-turn.tokens) _ c.loop-turn._turn c.loop-turn-test.true c.loop-turn.invariant in
    first_of (search rules, grind (arith, common_steps))
