use Rattle.cov_erase.proofs.Resting.{serial_rests_holds}
use Rattle.cov_erase.proofs.laws.serial_history_rests.Goals as goal

pub returns : goal.returns
returns c = serial_rests_holds
