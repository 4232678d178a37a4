use Rattle.std.proofs.Common.{rules, arith, ℕ, ◌≡◌, sym, ◌∙◌, true, false}
use Rattle.std.proofs.lemmas.Grind.{common_steps}
use Rattle.go_grammar.specs.Trees.{case_node, comm_node}
use Rattle.go_grammar.specs.Terminals as k
use Rattle.go_reading.specs.Input.{kind_of}
use Rattle.go_reading.specs.Kinds.{is}
use Rattle.go_reading.specs.Stmts.{stmt, nested_stmt, list, stmts_from, next_from, cases_from, comms_from}
use Rattle.go_parse.proofs.Levels.{stmt_inner}
use Rattle.go_parse.proofs.Firsts.{with_brace, with_if, with_breakable, with_other}
use Rattle.go_parse.proofs.Steps.{one_more}
use Rattle.go_parse.proofs.stmt.+stmt.Goals as goal
use Rattle.go_grammar.specs.Blocks.{source}

pub list-loop-turn-preserved : goal.list-loop-turn-preserved
unfolding stmts_from next_from
list-loop-turn-preserved t c =
    let e = one_more (λ (n : ℕ). stmts_from c.args.bounds.turns c.args.depth (stmt source c.args.bounds.turns c.args.bounds.most c.args.depth) c.args.clause c.args.full n c.loop-turn.found c.loop-turn.height c.loop-turn.tokens) _ c.loop-turn._turn c.loop-turn-test.true c.loop-turn.invariant.so_far in
    record { so_far = first_of (search rules, grind (arith, common_steps, stmt_inner)); tall = first_of (search rules, grind (arith, common_steps)) }

pub cases-loop-turn-preserved : goal.cases-loop-turn-preserved
unfolding cases_from case_node
cases-loop-turn-preserved t c =
    let e = one_more (λ (n : ℕ). cases_from source c.args.bounds.turns c.args.depth (stmt source c.args.bounds.turns c.args.bounds.most c.args.depth) n c.loop-turn.found c.loop-turn.height c.loop-turn.tokens) _ c.loop-turn._turn c.loop-turn-test.true c.loop-turn.invariant.so_far in
    record { so_far = first_of (search rules, grind (arith, common_steps)); tall = first_of (search rules, grind (arith, common_steps)) }

pub comms-loop-turn-preserved : goal.comms-loop-turn-preserved
unfolding comms_from comm_node
comms-loop-turn-preserved t c =
    let e = one_more (λ (n : ℕ). comms_from source c.args.bounds.turns c.args.depth (stmt source c.args.bounds.turns c.args.bounds.most c.args.depth) c.args.bounds.most n c.loop-turn.found c.loop-turn.height c.loop-turn.tokens) _ c.loop-turn._turn c.loop-turn-test.true c.loop-turn.invariant.so_far in
    record { so_far = first_of (search rules, grind (arith, common_steps)); tall = first_of (search rules, grind (arith, common_steps)) }

pub list-returns-then-not-goes_on-2-clause-reads : goal.list-returns-then-not-goes_on-2-clause-reads
unfolding list stmts_from next_from
list-returns-then-not-goes_on-2-clause-reads t c =
    let e = one_more (λ (n : ℕ). stmts_from c.args.bounds.turns c.args.depth (stmt source c.args.bounds.turns c.args.bounds.most c.args.depth) c.args.clause c.args.full n c.loop-turn.found c.loop-turn.height c.loop-turn.tokens) _ c.loop-turn._turn c.loop-turn-test.true c.loop-turn.invariant.so_far in
    first_of (search rules, grind (arith, common_steps, stmt_inner))

pub list-returns-then-ends_list-2-clause-reads : goal.list-returns-then-ends_list-2-clause-reads
unfolding list stmts_from next_from
list-returns-then-ends_list-2-clause-reads t c =
    let e = one_more (λ (n : ℕ). stmts_from c.args.bounds.turns c.args.depth (stmt source c.args.bounds.turns c.args.bounds.most c.args.depth) c.args.clause c.args.full n c.loop-turn.found c.loop-turn.height c.loop-turn.tokens) _ c.loop-turn._turn c.loop-turn-test.true c.loop-turn.invariant.so_far in
    first_of (search rules, grind (arith, common_steps, stmt_inner))

pub comms-returns-then-len-bounds-clause-reads : goal.comms-returns-then-len-bounds-clause-reads
unfolding comms_from
comms-returns-then-len-bounds-clause-reads t c =
    let e = one_more (λ (n : ℕ). comms_from source c.args.bounds.turns c.args.depth (stmt source c.args.bounds.turns c.args.bounds.most c.args.depth) c.args.bounds.most n c.loop-turn.found c.loop-turn.height c.loop-turn.tokens) _ c.loop-turn._turn c.loop-turn-test.true c.loop-turn.invariant.so_far in
    first_of (search rules, grind (arith, common_steps))

pub comms-returns-in_err-list-clause-reads : goal.comms-returns-in_err-list-clause-reads
unfolding comms_from comm_node
comms-returns-in_err-list-clause-reads t c =
    let e = one_more (λ (n : ℕ). comms_from source c.args.bounds.turns c.args.depth (stmt source c.args.bounds.turns c.args.bounds.most c.args.depth) c.args.bounds.most n c.loop-turn.found c.loop-turn.height c.loop-turn.tokens) _ c.loop-turn._turn c.loop-turn-test.true c.loop-turn.invariant.so_far in
    first_of (search rules, grind (arith, common_steps))

pub stmt-returns-then-depth-eq0-clause-reads : goal.stmt-returns-then-depth-eq0-clause-reads
unfolding nested_stmt
stmt-returns-then-depth-eq0-clause-reads t c =
    let brace : is (kind_of c.args.tokens.now) k.left_brace ≡ true = sym c.sees.ensures ∙ c.if-sees.true in
    rw (with_brace c.args.bounds.turns c.args.bounds.most c.args.depth c.args.tokens.now brace) (first_of (search rules, grind (arith, common_steps)))

pub stmt-returns-in_err-found-clause-reads : goal.stmt-returns-in_err-found-clause-reads
unfolding nested_stmt
stmt-returns-in_err-found-clause-reads t c =
    let brace : is (kind_of c.args.tokens.now) k.left_brace ≡ true = sym c.sees.ensures ∙ c.if-sees.true in
    rw (with_brace c.args.bounds.turns c.args.bounds.most c.args.depth c.args.tokens.now brace) (first_of (search rules, grind (arith, common_steps)))

pub stmt-returns-then-sees-clause-reads : goal.stmt-returns-then-sees-clause-reads
unfolding nested_stmt
stmt-returns-then-sees-clause-reads t c =
    let brace : is (kind_of c.args.tokens.now) k.left_brace ≡ true = sym c.sees.ensures ∙ c.if-sees.true in
    rw (with_brace c.args.bounds.turns c.args.bounds.most c.args.depth c.args.tokens.now brace) (first_of (search rules, grind (arith, common_steps)))

pub stmt-returns-then-sees-2-clause-reads : goal.stmt-returns-then-sees-2-clause-reads
stmt-returns-then-sees-2-clause-reads t c =
    let brace : is (kind_of c.args.tokens.now) k.left_brace ≡ false = sym c.sees.ensures ∙ c.if-sees.false in
    let word : is (kind_of c.args.tokens.now) k.if_word ≡ true = sym c.sees-2.ensures ∙ c.if-sees-2.true in
    rw (with_if c.args.bounds.turns c.args.bounds.most c.args.depth c.args.tokens.now brace word) c.if_stmt.ensures.reads

pub stmt-returns-then-sees_breakable-clause-reads : goal.stmt-returns-then-sees_breakable-clause-reads
stmt-returns-then-sees_breakable-clause-reads t c =
    let brace : is (kind_of c.args.tokens.now) k.left_brace ≡ false = sym c.sees.ensures ∙ c.if-sees.false in
    let word : is (kind_of c.args.tokens.now) k.if_word ≡ false = sym c.sees-2.ensures ∙ c.if-sees-2.false in
    rw (with_breakable c.args.bounds.turns c.args.bounds.most c.args.depth c.args.tokens.now brace word (sym c.sees_breakable.ensures ∙ c.if-sees_breakable.true)) c.breakable.ensures.reads

pub stmt-returns-in_err-found-2-clause-reads : goal.stmt-returns-in_err-found-2-clause-reads
stmt-returns-in_err-found-2-clause-reads t c =
    let brace : is (kind_of c.args.tokens.now) k.left_brace ≡ false = sym c.sees.ensures ∙ c.if-sees.false in
    let word : is (kind_of c.args.tokens.now) k.if_word ≡ false = sym c.sees-2.ensures ∙ c.if-sees-2.false in
    rw (with_other c.args.bounds.turns c.args.bounds.most c.args.depth c.args.tokens.now brace word (sym c.sees_breakable.ensures ∙ c.if-sees_breakable.false)) (first_of (search rules, grind (arith, common_steps)))

pub stmt-returns-in-Some-clause-reads : goal.stmt-returns-in-Some-clause-reads
stmt-returns-in-Some-clause-reads t c =
    let brace : is (kind_of c.args.tokens.now) k.left_brace ≡ false = sym c.sees.ensures ∙ c.if-sees.false in
    let word : is (kind_of c.args.tokens.now) k.if_word ≡ false = sym c.sees-2.ensures ∙ c.if-sees-2.false in
    rw (with_other c.args.bounds.turns c.args.bounds.most c.args.depth c.args.tokens.now brace word (sym c.sees_breakable.ensures ∙ c.if-sees_breakable.false)) (first_of (search rules, grind (arith, common_steps)))

pub stmt-returns-in-None-clause-reads : goal.stmt-returns-in-None-clause-reads
stmt-returns-in-None-clause-reads t c =
    let brace : is (kind_of c.args.tokens.now) k.left_brace ≡ false = sym c.sees.ensures ∙ c.if-sees.false in
    let word : is (kind_of c.args.tokens.now) k.if_word ≡ false = sym c.sees-2.ensures ∙ c.if-sees-2.false in
    rw (with_other c.args.bounds.turns c.args.bounds.most c.args.depth c.args.tokens.now brace word (sym c.sees_breakable.ensures ∙ c.if-sees_breakable.false)) (first_of (search rules, grind (arith, common_steps)))
