use Rattle.cov_outside.proofs.Names.{found_utf8}
use Rattle.cov_outside.proofs.entries.name_of.Goals as goal

pub returns-clause-utf8 : goal.returns-clause-utf8
returns-clause-utf8 c = found_utf8 c.as_bytes.result.now c.as_bytes-2.result.now c.name_behind.result c.name_behind.ensures c.as_bytes-2.ensures.utf8
