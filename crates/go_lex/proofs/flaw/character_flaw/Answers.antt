use Rattle.go_lex.proofs.Runes.{unflawed_lone, many_behind, many_no_character}
use Rattle.go_lex.proofs.flaw.character_flaw.Goals as goal

pub returns-in-None : goal.returns-in-None
returns-in-None c = unflawed_lone c.args.body.now c.in-None.ensures c.if-body-eq1.true c.requires.first

pub returns-in-Some-2 : goal.returns-in-Some-2
returns-in-Some-2 c = many_behind c.args.body.now c.in-Some.field-0-0 c.in-Some.len c.in-Some.ensures c.if-len-body.false c.requires.first

pub returns-in-None-2 : goal.returns-in-None-2
returns-in-None-2 c = many_no_character c.args.body.now c.in-None.ensures c.requires.some c.if-body-eq1.false c.requires.first
