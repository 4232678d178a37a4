use Rattle.threads_rows.proofs.InRange.{crowd_is}
use Rattle.threads_rows.proofs.programs.crowd.Goals as goal

pub program_with_group-requires : goal.program_with_group-requires
program_with_group-requires c = crowd_is c.in_ok-functions.functions c.in_ok-lists.lists c.in_ok-functions.ensures c.in_ok-lists.ensures
