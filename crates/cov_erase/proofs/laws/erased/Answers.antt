use Rattle.cov_erase.proofs.Cover.{erased_counted}
use Rattle.cov_erase.proofs.Erasure.{erasure_holds}
use Rattle.cov_erase.proofs.Weaving.{weaving_holds}
use Rattle.cov_erase.proofs.Scheduled.{serial_holds}
use Rattle.cov_erase.proofs.laws.erased.Goals as goal

pub returns : goal.returns
returns c = record { program = erased_counted; erasing = erasure_holds; weaving = weaving_holds; serial = serial_holds }
