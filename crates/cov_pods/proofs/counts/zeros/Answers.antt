use Rattle.std.proofs.Common.{◌≤◌, ◌∙◌, ap, sym, length, map, arith}
use Rattle.std.proofs.lemmas.List.{take_all}
use Rattle.cov_pods.proofs.Counting.{no_entries, zeros_in, zeros_more}
use Rattle.cov_pods.proofs.counts.zeros.Goals as goal

pub loop-package-preserved : goal.loop-package-preserved
loop-package-preserved c =
    zeros_more c.as_slice-package-items.result.now c.args.meta.now.packages c.loop-package.package-index c.package-item.result c.loop-package.counts c.push.new.self c.in_ok-package_zeros.field-0
    c.as_slice-package-items.ensures c.loop-package-test.true c.package-item.is c.loop-package.invariant c.in_ok-package_zeros.ensures c.in_ok-push.ensures.ok

pub returns : goal.returns
returns c =
    let end : length c.args.meta.now.packages ≤ c.loop-package.package-index = omega (arith, ap length c.as_slice-package-items.ensures) in
    c.loop-package.invariant ∙ ap (map zeros_in) (take_all c.loop-package.package-index c.args.meta.now.packages end) ∙ sym (no_entries c.args.meta.now)
