use Rattle.cov_cut.proofs.Built.{decls_more}
use Rattle.cov_cut.proofs.tests.within.is_within.Goals as goal

pub loop-decl-preserved : goal.loop-decl-preserved
loop-decl-preserved c = decls_more c.as_slice-decl-items.result.now c.loop-decl.decl-index c.decl-item.result c.loop-decl-test.true c.decl-item.is c.loop-decl.invariant (c.decl_fits.ensures c.if-not-decl_fits.false)
