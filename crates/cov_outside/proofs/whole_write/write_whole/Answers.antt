use Rattle.std.proofs.Common.{◌∙◌, arith}
use Rattle.cov_outside.proofs.Pieces.{written_more}
use Rattle.cov_outside.proofs.whole_write.write_whole.Goals as goal

pub loop-done-preserved : goal.loop-done-preserved
loop-done-preserved g c = record {
  within = omega (arith, c.in_ok-n.ensures.bound, c.split_at.ensures.back_len);
  written = written_more _ _ _ c.args.text.now _ c.loop-done.done c.in_ok-n.n c.in_ok-n.ensures.bytes c.split_at.ensures.back c.loop-done.invariant.written;
  faults = c.in_ok-n.ensures.cause ∙ c.loop-done.invariant.faults;
}
