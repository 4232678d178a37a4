use Rattle.std.proofs.Common.{subst}
use Rattle.cov_pods.specs.CountedPod.{CountedPod}
use Rattle.gocov_tools.specs.Modes.{IsInAnother}
use Rattle.gocov_tools.proofs.DecodedModes.{never_another}
use Rattle.gocov_tools.proofs.reading.decode.Goals as goal

pub returns-in_ok-clash-in-Ok-clause-told : goal.returns-in_ok-clash-in-Ok-clause-told
returns-in_ok-clash-in-Ok-clause-told g c =
    never_another _ c.args.reading.now.first c.mode.result c.args.pod.now c.in-Ok.read c.in_ok-clash-in-Ok.field-0 c.mode.ensures
    (subst (λ (r : CountedPod). IsInAnother c.args.reading.now.first r.file.meta.mode) c.read.view_is c.if-is_in_mode.ensures) c.in-Ok.ensures.told
