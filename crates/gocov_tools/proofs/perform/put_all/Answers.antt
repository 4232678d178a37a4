use Rattle.std.proofs.Common.{◌∙◌}
use Rattle.gocov_tools.proofs.Puts.{next_put}
use Rattle.gocov_tools.proofs.perform.put_all.Goals as goal

pub loop-put-preserved : goal.loop-put-preserved
loop-put-preserved g c = record {
  told = next_put (g.F.Files.tree c.args.files.now) _ _ c.args.puts.now c.loop-put.put-index c.put-item.result c.loop-put-test.true c.put-item.is c.loop-put.invariant.told c.in_ok-put_file.ensures.ok;
  faults = c.in_ok-put_file.ensures.cause ∙ c.loop-put.invariant.faults;
  reads = c.in_ok-put_file.ensures.reads ∙ c.loop-put.invariant.reads;
}
