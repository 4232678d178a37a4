use Rattle.std.proofs.Common.{sym}
use Rattle.go_lex.proofs.Runes.{escape_and_more, escape_alone}
use Rattle.go_lex.proofs.flaw.rune_flaw.Goals as goal

pub returns-in-Some : goal.returns-in-Some
returns-in-Some c = escape_and_more c.args.body.now c.in-Some.len (sym c.in-Some.ensures.value) c.if-len-body.true

pub returns-in-Some-2 : goal.returns-in-Some-2
returns-in-Some-2 c = escape_alone c.args.body.now c.in-Some.len (sym c.in-Some.ensures.value) c.if-len-body.false
