use Rattle.std.proofs.Common.{pos}
use Rattle.go_samples.proofs.InRange.{counting_is}
use Rattle.go_samples.proofs.programs.counting.Goals as goal

pub program-requires : goal.program-requires
program-requires c = counting_is (pos c.args.count) c.in_ok-functions.functions c.in_ok-lists.lists c.in_ok-functions.ensures c.in_ok-lists.ensures
