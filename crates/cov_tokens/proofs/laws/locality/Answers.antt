use Rattle.cov_tokens.proofs.Local.{local}
use Rattle.cov_tokens.proofs.laws.locality.Goals as goal

pub returns : goal.returns
returns c = local
