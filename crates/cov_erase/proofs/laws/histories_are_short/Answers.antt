use Rattle.cov_erase.proofs.Room as room
use Rattle.cov_erase.proofs.laws.histories_are_short.Goals as goal

pub returns : goal.returns
returns c = room.histories_are_short c.goroutines.ensures.few
