use Rattle.cov_tokens.proofs.Covered.{covered_spelled}
use Rattle.cov_tokens.proofs.laws.tokens_of_covered_text.Goals as goal

pub returns : goal.returns
returns c = covered_spelled
