use Rattle.std.proofs.Common.{rules}
use Rattle.cov_bytes.specs.Writing.{table_text}
use Rattle.cov_bytes.proofs.table.StringTable.write.Goals as goal

pub returns : goal.returns
unfolding table_text
returns c = search rules
