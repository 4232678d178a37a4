use Rattle.cov_counter.proofs.SpelledFile.{read_is_spelled, spelled_is_read, one_value}
use Rattle.cov_counter.proofs.laws.reading.Goals as goal

pub returns-clause-read_is_spelled : goal.returns-clause-read_is_spelled
returns-clause-read_is_spelled c = read_is_spelled c.numbers.ensures.spelled

pub returns-clause-spelled_is_read : goal.returns-clause-spelled_is_read
returns-clause-spelled_is_read c = spelled_is_read c.numbers.ensures.read

pub returns-clause-one_value : goal.returns-clause-one_value
returns-clause-one_value c = one_value c.numbers.ensures.read
