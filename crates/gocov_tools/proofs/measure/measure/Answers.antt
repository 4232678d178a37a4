use Rattle.std.proofs.Common.{ap, subst, length, ◌∙◌, List}
use Rattle.cov_meta.specs.declared.meta.MetaPackage.{MetaPackage}
use Rattle.gocov_tools.specs.Measure.{AreTotals, saturated}
use Rattle.gocov_tools.proofs.Measuring.{judged_is, told, kept}
use Rattle.gocov_tools.proofs.measure.measure.Goals as goal

pub returns-clause-told : goal.returns-clause-told
returns-clause-told c = told c.judge.result _ c.args.meta.now
    (judged_is c.args.meta.now _ _ c.in_ok-totals.totals (c.count_packages.ensures ∙ ap (λ (ps : List MetaPackage). saturated (length ps)) c.as_slice-packages.ensures) c.count_units.ensures (subst (λ (ps : List MetaPackage). AreTotals ps c.in_ok-totals.totals) c.as_slice-packages.ensures c.in_ok-totals.ensures)) c.judge.ensures

pub returns-clause-keeps : goal.returns-clause-keeps
returns-clause-keeps c = kept c.judge.result c.args.meta.now (returns-clause-told c)
