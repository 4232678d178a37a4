use Rattle.cov_cut.proofs.Within.{file_fits}
use Rattle.cov_cut.proofs.laws.within.Goals as goal

pub returns : goal.returns
returns c = file_fits
