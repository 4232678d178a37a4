use Rattle.std.proofs.Common.{ap, ◌∙◌}
use Rattle.cov_rewrite.specs.declared.covered.Rewritten.{Rewritten}
use Rattle.cov_rewrite.proofs.covered.covered_text.Goals as goal

pub returns : goal.returns
returns c = c.into_vec.ensures ∙ ap (λ (r : Rewritten). r.text) c.in_ok-all.ensures
