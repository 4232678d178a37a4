use Rattle.cov_bytes.proofs.Tables.{tables_are_read}
use Rattle.cov_bytes.proofs.laws.tables.Goals as goal

pub returns : goal.returns
returns c = tables_are_read
