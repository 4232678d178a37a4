use Rattle.std.proofs.Common.{sym}
use Rattle.gocov_words.proofs.Digits.{no_steps}
use Rattle.gocov_words.proofs.value.steps_in.Goals as goal

pub returns-in_default-3 : goal.returns-in_default-3
returns-in_default-3 c = no_steps c.args.value.now c.parse.result c.in_default.field-0 (sym c.if-not-are_digits.ensures) c.parse.ensures.value.0 c.in_default.is
