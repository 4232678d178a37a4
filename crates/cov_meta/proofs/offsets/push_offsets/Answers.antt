use Rattle.std.proofs.Common.{ℕ, arith}
use Rattle.std.proofs.lemmas.List.Sums.{sum_by_more}
use Rattle.cov_meta.proofs.Pieces.{offset_pushed}
use Rattle.cov_meta.proofs.offsets.push_offsets.Goals as goal

pub loop-length-preserved : goal.loop-length-preserved
loop-length-preserved c = record {
  place = omega (arith, c.loop-length.invariant.place, sum_by_more (λ (x : ℕ). x) c.args.lengths.now c.loop-length.length-index 0 c.loop-length-test.true);
  so_far = offset_pushed 8 c.args.bytes.now c.loop-length.bytes c.push_u64.new.self c.args.start c.loop-length.at c.args.lengths.now c.loop-length.length-index c.loop-length-test.true c.loop-length.invariant.place c.loop-length.invariant.so_far c.in_ok-push_u64.ensures.ok;
}
