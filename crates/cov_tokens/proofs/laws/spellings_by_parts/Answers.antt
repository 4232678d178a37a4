use Rattle.cov_tokens.proofs.Parting.{parted, of_words}
use Rattle.cov_tokens.proofs.laws.spellings_by_parts.Goals as goal

pub returns : goal.returns
returns c = record { parted = parted; words = of_words }
