use Rattle.cov_tokens.proofs.Derived.{placed}
use Rattle.cov_tokens.proofs.laws.pieces_have_places.Goals as goal

pub returns : goal.returns
returns c = placed
