use Rattle.cov_cut.proofs.Upto.{all_upto, else_ifs_upto}
use Rattle.cov_cut.proofs.laws.bounds.Goals as goal

pub returns : goal.returns
returns c = record { units = all_upto; else_ifs = else_ifs_upto }
