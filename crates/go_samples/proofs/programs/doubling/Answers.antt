use Rattle.go_samples.proofs.InRange.{doubling_is}
use Rattle.go_samples.proofs.programs.doubling.Goals as goal

pub program-requires : goal.program-requires
program-requires c = doubling_is c.in_ok-functions.functions c.in_ok-lists.lists c.in_ok-functions.ensures c.in_ok-lists.ensures
