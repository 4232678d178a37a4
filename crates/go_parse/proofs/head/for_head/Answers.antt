use Rattle.std.proofs.Common.{◌≡◌, sym, true, false}
use Rattle.go_grammar.specs.Terminals as t
use Rattle.go_reading.specs.Input.{kind_of}
use Rattle.go_reading.specs.Kinds.{is}
use Rattle.go_reading.specs.Stmts.{for_head}
use Rattle.go_parse.proofs.head.for_head.Goals as goal

pub returns-then-sees-3-clause-reads : goal.returns-then-sees-3-clause-reads
unfolding for_head
returns-then-sees-3-clause-reads c =
    let l : is (kind_of c.args.tokens.now) t.left_brace ≡ false = sym c.if-sees.ensures in
    let r : is (kind_of c.args.tokens.now) t.range_word ≡ false = sym c.if-sees-2.ensures in
    let s : is (kind_of c.args.tokens.now) t.semicolon ≡ true = sym c.if-sees-3.ensures in
    rw (l, r, s) c.parts_head.ensures.reads

pub returns-clause-reads : goal.returns-clause-reads
unfolding for_head
returns-clause-reads c =
    let l : is (kind_of c.args.tokens.now) t.left_brace ≡ false = sym c.if-sees.ensures in
    let r : is (kind_of c.args.tokens.now) t.range_word ≡ false = sym c.if-sees-2.ensures in
    let s : is (kind_of c.args.tokens.now) t.semicolon ≡ false = sym c.if-sees-3.ensures in
    rw (l, r, s) c.for_front.ensures.reads
