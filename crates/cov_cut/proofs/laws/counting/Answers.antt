use Rattle.cov_cut.proofs.Dividing.{is_division, one_division, list_counts}
use Rattle.cov_cut.proofs.laws.counting.Goals as goal

pub returns : goal.returns
returns c = record { division = is_division; one_division = one_division; counted = list_counts }
