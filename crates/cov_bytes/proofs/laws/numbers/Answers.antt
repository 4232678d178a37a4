use Rattle.cov_bytes.proofs.Numbers.{numbers_are_read, numbers_are_spelled, numbers_are_apart}
use Rattle.cov_bytes.proofs.Written.{written_is_shortest}
use Rattle.cov_bytes.proofs.laws.numbers.Goals as goal

pub returns-clause-read : goal.returns-clause-read
returns-clause-read c = numbers_are_read

pub returns-clause-spelled : goal.returns-clause-spelled
returns-clause-spelled c = numbers_are_spelled

pub returns-clause-apart : goal.returns-clause-apart
returns-clause-apart c = numbers_are_apart

pub returns-clause-written : goal.returns-clause-written
returns-clause-written c = written_is_shortest
