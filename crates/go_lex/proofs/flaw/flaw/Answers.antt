use Rattle.go_lex.proofs.Runes.{rune_form, quoted_form}
use Rattle.go_lex.proofs.flaw.flaw.Goals as goal

pub returns-in-Rune : goal.returns-in-Rune
returns-in-Rune c = rune_form c.args.form c.args.piece.now c.inner.result.now c.rune_flaw.result c.in-Rune.is c.requires c.inner.ensures c.rune_flaw.ensures

pub returns-in-None : goal.returns-in-None
returns-in-None c = quoted_form c.args.form c.args.piece.now c.inner-in-Quoted.result.now c.in-Quoted.is c.inner-in-Quoted.ensures c.in-None.ensures
