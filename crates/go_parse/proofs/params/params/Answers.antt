use Rattle.std.proofs.Common.{rules, arith, ◌≡◌, sym, ◌∙◌, true}
use Rattle.std.proofs.lemmas.Grind.{common_steps}
use Rattle.go_grammar.specs.Terminals as t
use Rattle.go_reading.specs.Input.{kind_of}
use Rattle.go_reading.specs.Kinds.{is}
use Rattle.go_reading.specs.Decls.{params}
use Rattle.go_parse.proofs.Steps.{expect_taken}
use Rattle.go_parse.proofs.params.params.Goals as goal

pub returns-then-sees-clause-reads : goal.returns-then-sees-clause-reads
unfolding params
returns-then-sees-clause-reads c =
    let right : is (kind_of c.expect.new.self) t.right_parenthesis ≡ true = sym c.sees.ensures ∙ c.if-sees.true in
    rw (c.in_ok-expect.ensures, right, expect_taken t.right_parenthesis c.expect.new.self c.take.new.self c.take.result right c.take.ensures) (first_of (search rules, grind (arith, common_steps)))
