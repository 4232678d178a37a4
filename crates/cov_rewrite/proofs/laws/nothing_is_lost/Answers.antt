use Rattle.cov_rewrite.specs.Weaving.{text_at}
use Rattle.cov_rewrite.proofs.Shuffling.{shuffled}
use Rattle.cov_rewrite.proofs.laws.nothing_is_lost.Goals as goal

pub returns : goal.returns
returns c = λ var m pieces text. shuffled (text_at var m pieces) 0 text
