use Rattle.std.proofs.Common.{append_assoc}
use Rattle.cov_meta.specs.Written.{blob_head}
use Rattle.cov_meta.proofs.written_blob.push_head.Goals as goal

pub returns : goal.returns
unfolding blob_head
returns c =
    rw (c.in_ok-push_u32-6.ensures.ok, c.in_ok-push_u32-5.ensures.ok, c.in_ok-push-2.ensures.ok, c.in_ok-push.ensures.ok, c.in_ok-push_u32-4.ensures.ok, c.in_ok-push_u32-3.ensures.ok, c.in_ok-push_u32-2.ensures.ok, c.in_ok-push_u32.ensures.ok)
    (simp append_assoc)
