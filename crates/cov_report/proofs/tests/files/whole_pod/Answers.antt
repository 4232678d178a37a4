use Rattle.std.proofs.Common.{All, subst, sym}
use Rattle.std.specs.Str.{IsUtf8}
use Rattle.std.proofs.lemmas.List.Elements.{All-push}
use Rattle.cov_report.proofs.tests.files.whole_pod.Goals as goal

pub loop-path-preserved : goal.loop-path-preserved
loop-path-preserved c = subst (All IsUtf8) (sym c.in_ok-push.ensures.ok) (All-push IsUtf8 _ _ c.loop-path.invariant c.in_ok-text.ensures)
