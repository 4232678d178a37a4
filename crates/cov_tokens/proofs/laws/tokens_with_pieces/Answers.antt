use Rattle.cov_tokens.proofs.Woven.{woven_spelled}
use Rattle.cov_tokens.proofs.laws.tokens_with_pieces.Goals as goal

pub returns : goal.returns
returns c = λ var text m pieces tokens is has placed small. woven_spelled var is m pieces text tokens has placed small
