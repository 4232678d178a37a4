use Rattle.std.proofs.lemmas.Result.{err_from_is_err_and}
use Rattle.cov_meta.specs.Fault.{Fails-further}
use Rattle.cov_meta.specs.File.{package_at, packages_at}
use Rattle.cov_meta.proofs.Loops.{goes_on, ends, is_done}
use Rattle.cov_meta.proofs.read.read_packages.Goals as goal

pub returns-in_err-package : goal.returns-in_err-package
unfolding packages_at
returns-in_err-package c =
    let p = err_from_is_err_and c.from_residual.result c.from_residual.ensures.1 in
    rw (p.1, p.2) (Fails-further c.in_err-package.field-0.0 _ _ c.in_err-package.ensures
    (λ f e. rw (ends (package_at c.args.bytes.now) c.loop-entry.packages c.args.entries.now c.loop-entry.entry-index _ c.loop-entry.left f _ c.loop-entry-test.true e c.loop-entry.invariant)))

pub loop-entry-preserved : goal.loop-entry-preserved
loop-entry-preserved c =
    rw c.in_ok-push.ensures.ok (goes_on (package_at c.args.bytes.now) c.loop-entry.packages c.args.entries.now c.loop-entry.entry-index _ c.loop-entry.left c.in_ok-package.package c.in_ok-package.behind _ c.loop-entry-test.true c.in_ok-package.ensures c.loop-entry.invariant)

pub returns : goal.returns
unfolding packages_at
returns c = rw (is_done (package_at c.args.bytes.now) c.loop-entry.packages c.args.entries.now c.loop-entry.entry-index c.loop-entry.left _ c.loop-entry-test.false c.loop-entry.invariant)
