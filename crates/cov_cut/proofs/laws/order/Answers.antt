use Rattle.cov_cut.proofs.Placed.{file_ordered}
use Rattle.cov_cut.proofs.Apart.{file_apart}
use Rattle.cov_cut.proofs.Bare.{file_bare}
use Rattle.cov_cut.proofs.Ends.{file_ends}
use Rattle.cov_cut.proofs.laws.order.Goals as goal

pub returns : goal.returns
returns c = record { forward = file_ordered; apart = file_apart; ends = file_ends; bare = file_bare }
