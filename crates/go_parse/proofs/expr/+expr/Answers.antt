use Rattle.std.proofs.Common.{rules, arith, ℕ, ◌≡◌, sym, ◌∙◌, true, false, nat_lt}
use Rattle.std.proofs.lemmas.Grind.{common_steps}
use Rattle.std.proofs.lemmas.Bool.{le-ltb}
use Rattle.go_ast.specs.declared.token.TokenKind.TheVariants as kind
use Rattle.go_grammar.specs.Terminals as k
use Rattle.go_reading.specs.Input.{kind_of}
use Rattle.go_reading.specs.Kinds.{is}
use Rattle.go_reading.specs.Lists.{list_of, list_from}
use Rattle.go_reading.specs.Exprs.{expr, args, climb, suffixes_from, deeper, bracket, operand}
use Rattle.go_parse.proofs.Steps.{expr_inner, one_more, is_rune, is_text}
use Rattle.go_parse.proofs.expr.+expr.Goals as goal

pub args-returns-then-not-sees-clause-reads : goal.args-returns-then-not-sees-clause-reads
unfolding args list_of list_from
args-returns-then-not-sees-clause-reads t c =
    let e = one_more (λ (n : ℕ). list_from k.comma k.right_parenthesis (expr c.args.turns c.args.depth 1) n c.loop-turn.found c.loop-turn.height c.loop-turn.tokens) _ c.loop-turn._turn c.loop-turn-test.true c.loop-turn.invariant.so_far in
    first_of (search rules, grind (arith, common_steps))

pub args-returns-then-sees-2-clause-reads : goal.args-returns-then-sees-2-clause-reads
unfolding args list_of list_from
args-returns-then-sees-2-clause-reads t c =
    let e = one_more (λ (n : ℕ). list_from k.comma k.right_parenthesis (expr c.args.turns c.args.depth 1) n c.loop-turn.found c.loop-turn.height c.loop-turn.tokens) _ c.loop-turn._turn c.loop-turn-test.true c.loop-turn.invariant.so_far in
    first_of (search rules, grind (arith, common_steps))

pub args-loop-turn-preserved : goal.args-loop-turn-preserved
unfolding list_from
args-loop-turn-preserved t c =
    let e = one_more (λ (n : ℕ). list_from k.comma k.right_parenthesis (expr c.args.turns c.args.depth 1) n c.loop-turn.found c.loop-turn.height c.loop-turn.tokens) _ c.loop-turn._turn c.loop-turn-test.true c.loop-turn.invariant.so_far in
    record { so_far = first_of (search rules, grind (arith, common_steps)); tall = first_of (search rules, grind (arith, common_steps)) }

pub climb-loop-turn-preserved : goal.climb-loop-turn-preserved
unfolding climb
climb-loop-turn-preserved t c =
    let e = one_more (λ (n : ℕ). climb c.args.turns c.args.depth (expr c.args.turns c.args.depth) c.args.least n c.loop-turn.most c.loop-turn.left c.loop-turn.height c.loop-turn.tokens) _ c.loop-turn._turn c.loop-turn-test.true c.loop-turn.invariant.so_far in
    record { so_far = first_of (search rules, grind (arith, common_steps)); tall = first_of (search rules, grind (arith, common_steps)) }

pub primary-loop-turn-preserved : goal.primary-loop-turn-preserved
unfolding suffixes_from
primary-loop-turn-preserved t c =
    let e = one_more (λ (n : ℕ). suffixes_from c.args.turns c.args.depth (expr c.args.turns c.args.depth) n c.loop-turn.of c.loop-turn.height c.loop-turn.tokens) _ c.loop-turn._turn c.loop-turn-test.true c.loop-turn.invariant.so_far in
    record { so_far = first_of (search rules, grind (arith, common_steps)); tall = first_of (search rules, grind (arith, common_steps)) }

pub expr-returns-in_err-first-clause-reads : goal.expr-returns-in_err-first-clause-reads
unfolding deeper
expr-returns-in_err-first-clause-reads t c = rw (expr_inner c.args.turns c.args.depth c.args.least c.if-depth-eq0.false) (first_of (search rules, grind (arith, common_steps)))

pub expr-returns-clause-reads : goal.expr-returns-clause-reads
unfolding deeper
expr-returns-clause-reads t c = rw (expr_inner c.args.turns c.args.depth c.args.least c.if-depth-eq0.false) (first_of (search rules, grind (arith, common_steps)))

pub climb-returns-then-height-depth-clause-reads : goal.climb-returns-then-height-depth-clause-reads
unfolding climb
climb-returns-then-height-depth-clause-reads t c =
    let e = one_more (λ (n : ℕ). climb c.args.turns c.args.depth (expr c.args.turns c.args.depth) c.args.least n c.loop-turn.most c.loop-turn.left c.loop-turn.height c.loop-turn.tokens) _ c.loop-turn._turn c.loop-turn-test.true c.loop-turn.invariant.so_far in
    first_of (search rules, grind (arith, common_steps))

pub climb-returns-in_err-right-clause-reads : goal.climb-returns-in_err-right-clause-reads
unfolding climb
climb-returns-in_err-right-clause-reads t c =
    let e = one_more (λ (n : ℕ). climb c.args.turns c.args.depth (expr c.args.turns c.args.depth) c.args.least n c.loop-turn.most c.loop-turn.left c.loop-turn.height c.loop-turn.tokens) _ c.loop-turn._turn c.loop-turn-test.true c.loop-turn.invariant.so_far in
    first_of (search rules, grind (arith, common_steps))

pub bracket-returns-clause-reads : goal.bracket-returns-clause-reads
unfolding bracket
bracket-returns-clause-reads t c =
    let colon : is (kind_of c.take.new.self) k.colon ≡ false = sym c.sees.ensures ∙ c.if-sees.false in
    let closes : is (kind_of c.expr.new.tokens) k.right_bracket ≡ true = sym c.if-not-sees.ensures in
    rw (c.take.ensures, colon, c.in_ok-at.ensures.reads, closes, c.take-finish.ensures) (first_of (search rules, grind (arith, common_steps)))

pub operand-take_rune-requires : goal.operand-take_rune-requires
operand-take_rune-requires t c = is_rune (kind_of c.args.tokens.now) (sym c.sees-2.ensures ∙ c.if-sees-2.true)

pub operand-take_text-requires : goal.operand-take_text-requires
operand-take_text-requires t c = is_text (kind_of c.args.tokens.now) (sym c.sees-3.ensures ∙ c.if-sees-3.true)

pub operand-returns-in_err-take_text-clause-reads : goal.operand-returns-in_err-take_text-clause-reads
unfolding operand
operand-returns-in_err-take_text-clause-reads t c =
    let int : is (kind_of c.args.tokens.now) kind.Int ≡ false = sym c.sees.ensures ∙ c.if-sees.false in
    let rune : is (kind_of c.args.tokens.now) kind.Rune ≡ false = sym c.sees-2.ensures ∙ c.if-sees-2.false in
    let text : is (kind_of c.args.tokens.now) kind.Text ≡ true = sym c.sees-3.ensures ∙ c.if-sees-3.true in
    rw (int, rune, text) (first_of (search rules, grind (arith, common_steps)))

pub operand-returns-then-sees-4-clause-reads : goal.operand-returns-then-sees-4-clause-reads
unfolding operand
operand-returns-then-sees-4-clause-reads t c =
    let int : is (kind_of c.args.tokens.now) kind.Int ≡ false = sym c.sees.ensures ∙ c.if-sees.false in
    let rune : is (kind_of c.args.tokens.now) kind.Rune ≡ false = sym c.sees-2.ensures ∙ c.if-sees-2.false in
    let text : is (kind_of c.args.tokens.now) kind.Text ≡ false = sym c.sees-3.ensures ∙ c.if-sees-3.false in
    let chan : is (kind_of c.args.tokens.now) k.chan_word ≡ true = sym c.sees-4.ensures ∙ c.if-sees-4.true in
    let deep : nat_lt c.args.depth 1 ≡ false = le-ltb c.args.depth 1 (let some = c.if-depth-eq0.false in omega arith) in
    rw (int, rune, text, chan, deep) c.chan_operand.ensures.reads

pub operand-returns-then-sees-5-clause-reads : goal.operand-returns-then-sees-5-clause-reads
unfolding operand
operand-returns-then-sees-5-clause-reads t c =
    let int : is (kind_of c.args.tokens.now) kind.Int ≡ false = sym c.sees.ensures ∙ c.if-sees.false in
    let rune : is (kind_of c.args.tokens.now) kind.Rune ≡ false = sym c.sees-2.ensures ∙ c.if-sees-2.false in
    let text : is (kind_of c.args.tokens.now) kind.Text ≡ false = sym c.sees-3.ensures ∙ c.if-sees-3.false in
    let chan : is (kind_of c.args.tokens.now) k.chan_word ≡ false = sym c.sees-4.ensures ∙ c.if-sees-4.false in
    let left : is (kind_of c.args.tokens.now) k.left_parenthesis ≡ true = sym c.sees-5.ensures ∙ c.if-sees-5.true in
    let deep : nat_lt c.args.depth 1 ≡ false = le-ltb c.args.depth 1 (let some = c.if-depth-eq0-2.false in omega arith) in
    rw (int, rune, text, chan, left, deep) c.paren.ensures.reads

pub operand-returns-in_err-found-clause-reads : goal.operand-returns-in_err-found-clause-reads
unfolding operand
operand-returns-in_err-found-clause-reads t c =
    let int : is (kind_of c.args.tokens.now) kind.Int ≡ false = sym c.sees.ensures ∙ c.if-sees.false in
    let rune : is (kind_of c.args.tokens.now) kind.Rune ≡ false = sym c.sees-2.ensures ∙ c.if-sees-2.false in
    let text : is (kind_of c.args.tokens.now) kind.Text ≡ false = sym c.sees-3.ensures ∙ c.if-sees-3.false in
    let chan : is (kind_of c.args.tokens.now) k.chan_word ≡ false = sym c.sees-4.ensures ∙ c.if-sees-4.false in
    let left : is (kind_of c.args.tokens.now) k.left_parenthesis ≡ false = sym c.sees-5.ensures ∙ c.if-sees-5.false in
    rw (int, rune, text, chan, left) (first_of (search rules, grind (arith, common_steps)))
