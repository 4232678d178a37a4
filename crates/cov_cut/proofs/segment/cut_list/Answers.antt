use Rattle.std.proofs.Common.{arith}
use Rattle.cov_cut.proofs.Segments.{first_step}
use Rattle.cov_cut.proofs.Walks.{appended}
use Rattle.cov_cut.proofs.segment.cut_list.Goals as goal

pub returns : goal.returns
returns c =
    let step = first_step c.args.frame c.args.list.now c.split_at.result.0.now c.split_at.result.1.now c.segment_len.result c.first_end.result (grind (arith, c.is_empty.ensures)) c.segment_len.ensures.len c.split_at.ensures.front c.split_at.ensures.back c.first_end.ensures in
    appended c.cut_later.result _ _ _ _ _ _ c.in_ok-push_segment.ensures c.cut_later.ensures step
