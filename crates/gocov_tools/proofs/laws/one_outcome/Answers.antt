use Rattle.gocov_words.specs.Words.{meaning}
use Rattle.gocov_tools.proofs.OneOutcome.{once}
use Rattle.gocov_tools.proofs.laws.one_outcome.Goals as goal

pub returns : goal.returns
returns c = λ stamp words t x y h k. once c.one_text_or_fault.ensures x y stamp (meaning words) t h k
