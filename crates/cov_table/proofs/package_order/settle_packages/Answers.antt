use Rattle.std.proofs.Common.{subst, sym}
use Rattle.cov_table.specs.Rows.{AllPackagesWithin}
use Rattle.cov_table.proofs.package_order.settle_packages.Goals as goal

pub returns-clause-within : goal.returns-clause-within
returns-clause-within c = λ n w. c.in_ok-rows.ensures.within n (subst (AllPackagesWithin n) (sym c.deref.ensures.value) (c.sort_packages.ensures.within n w))
