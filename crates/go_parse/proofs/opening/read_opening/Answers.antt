use Rattle.std.proofs.Common.{◌≡◌, sym, ◌∙◌, true, false}
use Rattle.go_grammar.specs.Terminals as k
use Rattle.go_reading.specs.Input.{kind_of}
use Rattle.go_reading.specs.Kinds.{is}
use Rattle.go_parse.specs.Openings.{opening}
use Rattle.go_parse.proofs.opening.read_opening.Goals as goal

pub returns-then-sees-3-clause-reads : goal.returns-then-sees-3-clause-reads
unfolding opening
returns-then-sees-3-clause-reads c =
    let loops : is (kind_of c.args.tokens.now) k.for_word ≡ false = sym c.sees.ensures ∙ c.if-sees.false in
    let switches : is (kind_of c.args.tokens.now) k.switch_word ≡ false = sym c.sees-2.ensures ∙ c.if-sees-2.false in
    let selects : is (kind_of c.args.tokens.now) k.select_word ≡ true = sym c.sees-3.ensures ∙ c.if-sees-3.true in
    rw (loops, switches, selects) c.select_opening.ensures.reads
