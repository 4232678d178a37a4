use Rattle.std.proofs.Common.{rules, arith, ◌≡◌, sym, ◌∙◌, true, false, nat_lt}
use Rattle.std.proofs.lemmas.Grind.{common_steps}
use Rattle.std.proofs.lemmas.Bool.{le-ltb}
use Rattle.go_ast.specs.declared.token.TokenKind.TheVariants as kind
use Rattle.go_grammar.specs.Terminals as t
use Rattle.go_reading.specs.Input.{kind_of}
use Rattle.go_reading.specs.Kinds.{is}
use Rattle.go_reading.specs.Lists.{group_of}
use Rattle.go_reading.specs.Files.{paths}
use Rattle.go_parse.proofs.file.paths.Goals as goal

pub returns-in_err-path : goal.returns-in_err-path
unfolding paths group_of
returns-in_err-path c =
    let one : is (kind_of c.args.tokens.now) t.left_parenthesis ≡ false = sym c.sees.ensures ∙ c.if-sees.false in
    let text : is (kind_of c.args.tokens.now) kind.Text ≡ true = sym c.if-not-sees.ensures in
    let deep : nat_lt c.args.depth 1 ≡ false = le-ltb c.args.depth 1 (let some = c.requires in omega arith) in
    rw (one, text, deep) (first_of (search rules, grind (arith, common_steps)))
