use Rattle.std.proofs.Common.{append_assoc}
use Rattle.cov_meta.specs.Written.{file_head}
use Rattle.cov_meta.proofs.write.push_file_head.Goals as goal

pub returns : goal.returns
unfolding file_head
returns c =
    rw (c.in_ok-push-4.ensures.ok, c.in_ok-push-3.ensures.ok, c.in_ok-push_u32-3.ensures.ok, c.in_ok-push_u32-2.ensures.ok, c.in_ok-push-2.ensures.ok, c.in_ok-push_u64-2.ensures.ok, c.in_ok-push_u64.ensures.ok, c.in_ok-push_u32.ensures.ok, c.in_ok-push.ensures.ok, c.number_of.ensures)
    (simp append_assoc)
