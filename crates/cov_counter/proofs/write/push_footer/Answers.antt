use Rattle.std.proofs.Common.{append_assoc}
use Rattle.cov_counter.specs.Text.{magic_text, footer_text}
use Rattle.cov_counter.proofs.write.push_footer.Goals as goal

pub returns : goal.returns
unfolding magic_text footer_text
returns c = rw (c.in_ok-push-2.ensures.ok, c.in_ok-push_u32-2.ensures.ok, c.in_ok-push.ensures.ok, c.in_ok-push_u32.ensures.ok) (simp append_assoc)
