use Rattle.cov_meta.proofs.Hashing.{takes_both}
use Rattle.cov_meta.proofs.hash.take_unit.Goals as goal

pub returns : goal.returns
returns c =
    takes_both _ _ _ _ _ (takes_both _ _ _ _ _ (takes_both _ _ _ _ _ (takes_both _ _ _ _ _ c.take_number.ensures c.take_number-2.ensures) c.take_number-3.ensures) c.take_number-4.ensures) c.take_number-5.ensures
