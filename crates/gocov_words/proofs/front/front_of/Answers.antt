use Rattle.std.proofs.Common.{arith, sym}
use Rattle.gocov_words.proofs.Fronting.{by_flag}
use Rattle.gocov_words.proofs.front.front_of.Goals as goal

pub returns : goal.returns
returns c = by_flag c.args.command c.args.words.now _ _ c.in-Some.text.now c.flag_front.result c.in-len1-up.len_at_least (omega arith) c.in-Some.ensures (sym c.if-is_empty.ensures) c.flag_front.ensures
