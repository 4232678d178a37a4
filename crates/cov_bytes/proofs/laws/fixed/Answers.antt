use Rattle.cov_bytes.proofs.Tables.{fixed_are_read}
use Rattle.cov_bytes.proofs.laws.fixed.Goals as goal

pub returns : goal.returns
returns c = fixed_are_read
