use Rattle.go_samples.proofs.InRange.{turning_is}
use Rattle.go_samples.proofs.programs.turning.Goals as goal

pub program-requires : goal.program-requires
program-requires c = turning_is c.in_ok-functions.functions c.in_ok-lists.lists c.in_ok-functions.ensures c.in_ok-lists.ensures
