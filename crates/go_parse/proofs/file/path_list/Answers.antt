use Rattle.std.proofs.Common.{rules, arith, ℕ, ◌≡◌, sym, ◌∙◌, true, false, nat_lt}
use Rattle.std.proofs.lemmas.Grind.{common_steps}
use Rattle.std.proofs.lemmas.Bool.{le-ltb}
use Rattle.go_ast.specs.declared.token.TokenKind.TheVariants as kind
use Rattle.go_grammar.specs.Terminals as t
use Rattle.go_reading.specs.Input.{kind_of}
use Rattle.go_reading.specs.Kinds.{is}
use Rattle.go_reading.specs.Lists.{group_list, list_from}
use Rattle.go_reading.specs.Files.{path}
use Rattle.go_parse.proofs.Steps.{one_more}
use Rattle.go_parse.proofs.file.path_list.Goals as goal

pub loop-turn-preserved : goal.loop-turn-preserved
unfolding list_from
loop-turn-preserved c =
    let e = one_more (λ (n : ℕ). list_from t.semicolon t.right_parenthesis path n c.loop-turn.found 0 c.loop-turn.tokens) _ c.loop-turn._turn c.loop-turn-test.true c.loop-turn.invariant in
    first_of (search rules, grind (arith, common_steps))

pub returns-then-not-sees-2 : goal.returns-then-not-sees-2
unfolding group_list list_from
returns-then-not-sees-2 c =
    let e = one_more (λ (n : ℕ). list_from t.semicolon t.right_parenthesis path n c.loop-turn.found 0 c.loop-turn.tokens) _ c.loop-turn._turn c.loop-turn-test.true c.loop-turn.invariant in
    let empty : is (kind_of c.args.tokens.now) t.right_parenthesis ≡ false = sym c.sees.ensures ∙ c.if-sees.false in
    let text : is (kind_of c.args.tokens.now) kind.Text ≡ true = sym c.if-not-sees.ensures in
    let deep : nat_lt c.args.depth 1 ≡ false = le-ltb c.args.depth 1 (let some = c.requires in omega arith) in
    rw (empty, text, deep, e) (first_of (search rules, grind (arith, common_steps)))

pub returns-then-sees-2 : goal.returns-then-sees-2
unfolding group_list list_from
returns-then-sees-2 c =
    let e = one_more (λ (n : ℕ). list_from t.semicolon t.right_parenthesis path n c.loop-turn.found 0 c.loop-turn.tokens) _ c.loop-turn._turn c.loop-turn-test.true c.loop-turn.invariant in
    let empty : is (kind_of c.args.tokens.now) t.right_parenthesis ≡ false = sym c.sees.ensures ∙ c.if-sees.false in
    let text : is (kind_of c.args.tokens.now) kind.Text ≡ true = sym c.if-not-sees.ensures in
    let deep : nat_lt c.args.depth 1 ≡ false = le-ltb c.args.depth 1 (let some = c.requires in omega arith) in
    rw (empty, text, deep, e) (first_of (search rules, grind (arith, common_steps)))

pub returns-in_err-next : goal.returns-in_err-next
unfolding group_list list_from
returns-in_err-next c =
    let e = one_more (λ (n : ℕ). list_from t.semicolon t.right_parenthesis path n c.loop-turn.found 0 c.loop-turn.tokens) _ c.loop-turn._turn c.loop-turn-test.true c.loop-turn.invariant in
    let empty : is (kind_of c.args.tokens.now) t.right_parenthesis ≡ false = sym c.sees.ensures ∙ c.if-sees.false in
    let text : is (kind_of c.args.tokens.now) kind.Text ≡ true = sym c.if-not-sees.ensures in
    let deep : nat_lt c.args.depth 1 ≡ false = le-ltb c.args.depth 1 (let some = c.requires in omega arith) in
    rw (empty, text, deep, e) (first_of (search rules, grind (arith, common_steps)))
