use Rattle.std.proofs.Common.{append_assoc}
use Rattle.cov_counter.specs.Text.{magic_text, head_text}
use Rattle.cov_counter.proofs.write.push_head.Goals as goal

pub returns : goal.returns
unfolding magic_text head_text
returns c =
    rw (c.in_ok-push-3.ensures.ok, c.in_ok-push_u32-4.ensures.ok, c.in_ok-push_u32-3.ensures.ok, c.in_ok-push_u64.ensures.ok, c.in_ok-push-2.ensures.ok, c.in_ok-push.ensures.ok, c.in_ok-push_u32-2.ensures.ok, c.in_ok-push_u32.ensures.ok)
    (simp append_assoc)
