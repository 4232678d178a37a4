use Rattle.std.proofs.Common.{◌≡◌, ◌≤◌, ◌+◌, ℕ, Result, Ok, Err, sym, ◌∙◌, true, false, arith}
use Rattle.std.specs.Prelude.{IfOk}
use Rattle.go_grammar.specs.Terminals as k
use Rattle.go_reading.specs.Input.{kind_of}
use Rattle.go_reading.specs.Kinds.{is}
use Rattle.go_reading.specs.Stmts.{const_stmt, var_stmt, return_stmt, break_stmt, continue_stmt, fallthrough_stmt, go_stmt, defer_stmt}
use Rattle.go_parse.specs.Parts.{leaves}
use Rattle.go_parse.proofs.leaf.leaf.Goals as goal

at_most : {A E : Type 0} (r : Result (A × ℕ) E) (most : ℕ) → IfOk r (λ x. x.1 ≤ 1) → IfOk r (λ x. x.1 ≤ most + 1)
at_most (Ok x) most h = omega arith
at_most (Err e) most h = tt

pub returns-then-sees-clause-tall : goal.returns-then-sees-clause-tall
returns-then-sees-clause-tall c = c.some_of.ensures.tall (c.args.depth + 1) c.const_stmt.ensures.tall

pub returns-then-sees-clause-reads : goal.returns-then-sees-clause-reads
unfolding leaves
returns-then-sees-clause-reads c =
    let const_test : is (kind_of c.args.tokens.now) k.const_word ≡ true = sym c.sees.ensures ∙ c.if-sees.true in
    rw (const_test) (c.some_of.ensures.reads (const_stmt c.args.turns c.args.depth c.args.tokens.now) c.const_stmt.new.tokens c.const_stmt.ensures.reads)

pub returns-then-sees-2-clause-tall : goal.returns-then-sees-2-clause-tall
returns-then-sees-2-clause-tall c = c.some_of-then-sees-2.ensures.tall (c.args.depth + 1) c.var_stmt.ensures.tall

pub returns-then-sees-2-clause-reads : goal.returns-then-sees-2-clause-reads
unfolding leaves
returns-then-sees-2-clause-reads c =
    let const_test : is (kind_of c.args.tokens.now) k.const_word ≡ false = sym c.sees.ensures ∙ c.if-sees.false in
    let var_test : is (kind_of c.args.tokens.now) k.var_word ≡ true = sym c.sees-2.ensures ∙ c.if-sees-2.true in
    rw (const_test, var_test) (c.some_of-then-sees-2.ensures.reads (var_stmt c.args.turns c.args.depth c.args.tokens.now) c.var_stmt.new.tokens c.var_stmt.ensures.reads)

pub returns-then-sees-3-clause-tall : goal.returns-then-sees-3-clause-tall
returns-then-sees-3-clause-tall c = c.some_of-then-sees-3.ensures.tall (c.args.depth + 1) c.return_stmt.ensures.tall

pub returns-then-sees-3-clause-reads : goal.returns-then-sees-3-clause-reads
unfolding leaves
returns-then-sees-3-clause-reads c =
    let const_test : is (kind_of c.args.tokens.now) k.const_word ≡ false = sym c.sees.ensures ∙ c.if-sees.false in
    let var_test : is (kind_of c.args.tokens.now) k.var_word ≡ false = sym c.sees-2.ensures ∙ c.if-sees-2.false in
    let return_test : is (kind_of c.args.tokens.now) k.return_word ≡ true = sym c.sees-3.ensures ∙ c.if-sees-3.true in
    rw (const_test, var_test, return_test) (c.some_of-then-sees-3.ensures.reads (return_stmt c.args.turns c.args.depth c.args.tokens.now) c.return_stmt.new.tokens c.return_stmt.ensures.reads)

pub returns-then-sees-4-clause-tall : goal.returns-then-sees-4-clause-tall
returns-then-sees-4-clause-tall c = c.some_of-then-sees-4.ensures.tall (c.args.depth + 1) (at_most c.break_stmt.result c.args.depth c.break_stmt.ensures.tall)

pub returns-then-sees-4-clause-reads : goal.returns-then-sees-4-clause-reads
unfolding leaves
returns-then-sees-4-clause-reads c =
    let const_test : is (kind_of c.args.tokens.now) k.const_word ≡ false = sym c.sees.ensures ∙ c.if-sees.false in
    let var_test : is (kind_of c.args.tokens.now) k.var_word ≡ false = sym c.sees-2.ensures ∙ c.if-sees-2.false in
    let return_test : is (kind_of c.args.tokens.now) k.return_word ≡ false = sym c.sees-3.ensures ∙ c.if-sees-3.false in
    let break_test : is (kind_of c.args.tokens.now) k.break_word ≡ true = sym c.sees-4.ensures ∙ c.if-sees-4.true in
    rw (const_test, var_test, return_test, break_test) (c.some_of-then-sees-4.ensures.reads (break_stmt c.args.tokens.now) c.break_stmt.new.tokens c.break_stmt.ensures.reads)

pub returns-then-sees-5-clause-tall : goal.returns-then-sees-5-clause-tall
returns-then-sees-5-clause-tall c = c.some_of-then-sees-5.ensures.tall (c.args.depth + 1) (at_most c.continue_stmt.result c.args.depth c.continue_stmt.ensures.tall)

pub returns-then-sees-5-clause-reads : goal.returns-then-sees-5-clause-reads
unfolding leaves
returns-then-sees-5-clause-reads c =
    let const_test : is (kind_of c.args.tokens.now) k.const_word ≡ false = sym c.sees.ensures ∙ c.if-sees.false in
    let var_test : is (kind_of c.args.tokens.now) k.var_word ≡ false = sym c.sees-2.ensures ∙ c.if-sees-2.false in
    let return_test : is (kind_of c.args.tokens.now) k.return_word ≡ false = sym c.sees-3.ensures ∙ c.if-sees-3.false in
    let break_test : is (kind_of c.args.tokens.now) k.break_word ≡ false = sym c.sees-4.ensures ∙ c.if-sees-4.false in
    let continue_test : is (kind_of c.args.tokens.now) k.continue_word ≡ true = sym c.sees-5.ensures ∙ c.if-sees-5.true in
    rw (const_test, var_test, return_test, break_test, continue_test) (c.some_of-then-sees-5.ensures.reads (continue_stmt c.args.tokens.now) c.continue_stmt.new.tokens c.continue_stmt.ensures.reads)

pub returns-then-sees-6-clause-reads : goal.returns-then-sees-6-clause-reads
unfolding leaves
returns-then-sees-6-clause-reads c =
    let const_test : is (kind_of c.args.tokens.now) k.const_word ≡ false = sym c.sees.ensures ∙ c.if-sees.false in
    let var_test : is (kind_of c.args.tokens.now) k.var_word ≡ false = sym c.sees-2.ensures ∙ c.if-sees-2.false in
    let return_test : is (kind_of c.args.tokens.now) k.return_word ≡ false = sym c.sees-3.ensures ∙ c.if-sees-3.false in
    let break_test : is (kind_of c.args.tokens.now) k.break_word ≡ false = sym c.sees-4.ensures ∙ c.if-sees-4.false in
    let continue_test : is (kind_of c.args.tokens.now) k.continue_word ≡ false = sym c.sees-5.ensures ∙ c.if-sees-5.false in
    let fallthrough_test : is (kind_of c.args.tokens.now) k.fallthrough_word ≡ true = sym c.sees-6.ensures ∙ c.if-sees-6.true in
    rw (const_test, var_test, return_test, break_test, continue_test, fallthrough_test) (c.some_of-then-sees-6.ensures.reads (fallthrough_stmt c.args.tokens.now) c.fallthrough_stmt.new.tokens c.fallthrough_stmt.ensures.reads)

pub returns-then-sees-7-clause-tall : goal.returns-then-sees-7-clause-tall
returns-then-sees-7-clause-tall c = c.some_of-then-sees-7.ensures.tall (c.args.depth + 1) c.go_stmt.ensures.tall

pub returns-then-sees-7-clause-reads : goal.returns-then-sees-7-clause-reads
unfolding leaves
returns-then-sees-7-clause-reads c =
    let const_test : is (kind_of c.args.tokens.now) k.const_word ≡ false = sym c.sees.ensures ∙ c.if-sees.false in
    let var_test : is (kind_of c.args.tokens.now) k.var_word ≡ false = sym c.sees-2.ensures ∙ c.if-sees-2.false in
    let return_test : is (kind_of c.args.tokens.now) k.return_word ≡ false = sym c.sees-3.ensures ∙ c.if-sees-3.false in
    let break_test : is (kind_of c.args.tokens.now) k.break_word ≡ false = sym c.sees-4.ensures ∙ c.if-sees-4.false in
    let continue_test : is (kind_of c.args.tokens.now) k.continue_word ≡ false = sym c.sees-5.ensures ∙ c.if-sees-5.false in
    let fallthrough_test : is (kind_of c.args.tokens.now) k.fallthrough_word ≡ false = sym c.sees-6.ensures ∙ c.if-sees-6.false in
    let go_test : is (kind_of c.args.tokens.now) k.go_word ≡ true = sym c.sees-7.ensures ∙ c.if-sees-7.true in
    rw (const_test, var_test, return_test, break_test, continue_test, fallthrough_test, go_test) (c.some_of-then-sees-7.ensures.reads (go_stmt c.args.turns c.args.depth c.args.tokens.now) c.go_stmt.new.tokens c.go_stmt.ensures.reads)

pub returns-then-sees-8-clause-tall : goal.returns-then-sees-8-clause-tall
returns-then-sees-8-clause-tall c = c.some_of-then-sees-8.ensures.tall (c.args.depth + 1) c.defer_stmt.ensures.tall

pub returns-then-sees-8-clause-reads : goal.returns-then-sees-8-clause-reads
unfolding leaves
returns-then-sees-8-clause-reads c =
    let const_test : is (kind_of c.args.tokens.now) k.const_word ≡ false = sym c.sees.ensures ∙ c.if-sees.false in
    let var_test : is (kind_of c.args.tokens.now) k.var_word ≡ false = sym c.sees-2.ensures ∙ c.if-sees-2.false in
    let return_test : is (kind_of c.args.tokens.now) k.return_word ≡ false = sym c.sees-3.ensures ∙ c.if-sees-3.false in
    let break_test : is (kind_of c.args.tokens.now) k.break_word ≡ false = sym c.sees-4.ensures ∙ c.if-sees-4.false in
    let continue_test : is (kind_of c.args.tokens.now) k.continue_word ≡ false = sym c.sees-5.ensures ∙ c.if-sees-5.false in
    let fallthrough_test : is (kind_of c.args.tokens.now) k.fallthrough_word ≡ false = sym c.sees-6.ensures ∙ c.if-sees-6.false in
    let go_test : is (kind_of c.args.tokens.now) k.go_word ≡ false = sym c.sees-7.ensures ∙ c.if-sees-7.false in
    let defer_test : is (kind_of c.args.tokens.now) k.defer_word ≡ true = sym c.sees-8.ensures ∙ c.if-sees-8.true in
    rw (const_test, var_test, return_test, break_test, continue_test, fallthrough_test, go_test, defer_test) (c.some_of-then-sees-8.ensures.reads (defer_stmt c.args.turns c.args.depth c.args.tokens.now) c.defer_stmt.new.tokens c.defer_stmt.ensures.reads)
