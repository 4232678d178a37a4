use Rattle.std.proofs.Common.{rules, arith, ◌≡◌, sym, ◌∙◌, true, false}
use Rattle.std.proofs.lemmas.Grind.{common_steps}
use Rattle.go_grammar.specs.Terminals as t
use Rattle.go_reading.specs.Input.{kind_of}
use Rattle.go_reading.specs.Kinds.{is}
use Rattle.go_reading.specs.Decls.{declaration}
use Rattle.go_parse.proofs.decl.declaration.Goals as goal

pub returns-in_err-found-2-clause-reads : goal.returns-in_err-found-2-clause-reads
unfolding declaration
returns-in_err-found-2-clause-reads c =
    let const : is (kind_of c.args.tokens.now) t.const_word ≡ false = sym c.sees.ensures ∙ c.if-sees.false in
    let var : is (kind_of c.args.tokens.now) t.var_word ≡ true = sym c.sees-2.ensures ∙ c.if-sees-2.true in
    rw (const, var, c.take-then-sees-2.ensures) (first_of (search rules, grind (arith, common_steps)))

pub returns-then-sees-3-clause-reads : goal.returns-then-sees-3-clause-reads
unfolding declaration
returns-then-sees-3-clause-reads c =
    let const : is (kind_of c.args.tokens.now) t.const_word ≡ false = sym c.sees.ensures ∙ c.if-sees.false in
    let var : is (kind_of c.args.tokens.now) t.var_word ≡ false = sym c.sees-2.ensures ∙ c.if-sees-2.false in
    let func : is (kind_of c.args.tokens.now) t.func_word ≡ true = sym c.sees-3.ensures ∙ c.if-sees-3.true in
    rw (const, var, func) c.func.ensures.reads
