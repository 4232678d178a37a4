use Rattle.go_samples.proofs.InRange.{working_is}
use Rattle.go_samples.proofs.programs.working.Goals as goal

pub program_with_group-requires : goal.program_with_group-requires
program_with_group-requires c = working_is c.in_ok-functions.functions c.in_ok-lists.lists c.in_ok-functions.ensures c.in_ok-lists.ensures
