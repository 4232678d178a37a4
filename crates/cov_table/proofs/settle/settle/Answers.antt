use Rattle.std.proofs.Common.{subst, sym}
use Rattle.cov_table.specs.Rows.{AllWithin}
use Rattle.cov_table.proofs.settle.settle.Goals as goal

pub returns-clause-within : goal.returns-clause-within
returns-clause-within c = λ n w. c.in_ok-rows.ensures.within n (subst (AllWithin n) (sym c.deref.ensures.value) (c.sort.ensures.within n w))
