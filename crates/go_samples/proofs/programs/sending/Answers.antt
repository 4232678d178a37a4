use Rattle.go_samples.proofs.InRange.{sending_is}
use Rattle.go_samples.proofs.programs.sending.Goals as goal

pub program-requires : goal.program-requires
program-requires c = sending_is c.in_ok-functions.functions c.in_ok-lists.lists c.in_ok-functions.ensures c.in_ok-lists.ensures
