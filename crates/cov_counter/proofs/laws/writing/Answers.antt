use Rattle.cov_counter.proofs.Written.{written_is_spelled}
use Rattle.cov_counter.proofs.laws.writing.Goals as goal

pub returns : goal.returns
returns c = written_is_spelled (record { read = c.numbers.ensures.read; spelled = c.numbers.ensures.spelled; written = c.numbers.ensures.written; fixed = c.fixed.ensures })
