use Rattle.std.proofs.Common.{sym, ◌∙◌}
use Rattle.go_lex.proofs.Words.{word_some, word_no_letter}
use Rattle.go_lex.proofs.word.word_len.Goals as goal

pub returns-then-not-is_letter : goal.returns-then-not-is_letter
returns-then-not-is_letter c = word_no_letter c.args.bytes.now c.in-Some.c c.in-Some.width c.in-Some.ensures (sym c.is_letter.ensures ∙ c.if-not-is_letter.true)

pub returns : goal.returns
returns c = word_some c.args.bytes.now c.split_at.result.1.now c.in-Some.c c.in-Some.width c.run_len.result c.in-Some.ensures (sym c.is_letter.ensures ∙ c.if-not-is_letter.false) c.split_at.ensures.back c.run_len.ensures
