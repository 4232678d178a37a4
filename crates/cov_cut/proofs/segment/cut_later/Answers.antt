use Rattle.std.proofs.Common.{arith}
use Rattle.cov_cut.proofs.Segments.{later_step}
use Rattle.cov_cut.proofs.Walks.{joined}
use Rattle.cov_cut.proofs.segment.cut_later.Goals as goal

pub loop-rest-preserved : goal.loop-rest-preserved
loop-rest-preserved c =
    let step = later_step c.loop-rest.rest.now c.first-item.result c.split_at.result.0.now c.split_at.result.1.now c.segment_len.result c.last_boundary.result c.in-len1-up.len_at_least c.first-item.is c.segment_len.ensures.len c.split_at.ensures.front c.split_at.ensures.back c.last_boundary.ensures in
    record { left = joined _ _ _ _ _ _ c.loop-rest.invariant.left step c.in_ok-push_segment.ensures; shorter = omega arith }
