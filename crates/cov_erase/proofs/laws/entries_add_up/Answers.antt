use Rattle.cov_erase.proofs.Sums as sums
use Rattle.cov_erase.proofs.laws.entries_add_up.Goals as goal

pub returns : goal.returns
returns c = sums.entries_add_up c.goroutines.ensures.few
