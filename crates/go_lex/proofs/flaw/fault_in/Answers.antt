use Rattle.go_lex.proofs.Runes.{bad_first, flaw_first}
use Rattle.go_lex.proofs.flaw.fault_in.Goals as goal

pub returns-in-Some-flaw : goal.returns-in-Some-flaw
returns-in-Some-flaw c = flaw_first c.args.form c.args.piece.now c.in-Some.bad c.in-Some-flaw.flaw c.in-Some.ensures c.in-Some-flaw.ensures c.if-flaw-bad.true

pub returns-in_default-flaw : goal.returns-in_default-flaw
returns-in_default-flaw c = bad_first c.args.form c.args.piece.now c.in-Some.bad c.in-Some-flaw.flaw c.in-Some.ensures c.in-Some-flaw.ensures c.if-flaw-bad.false
