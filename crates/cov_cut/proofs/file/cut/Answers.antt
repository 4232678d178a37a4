use Rattle.cov_cut.proofs.Files.{decl_here, decl_later, decl_step}
use Rattle.cov_cut.proofs.file.cut.Goals as goal

pub cut_decl-requires : goal.cut_decl-requires
cut_decl-requires c = decl_here c.as_slice-decl-items.result.now c.loop-decl.decl-index c.decl-item.result c.loop-decl-test.true c.decl-item.is c.loop-decl.invariant.fits

pub loop-decl-preserved : goal.loop-decl-preserved
loop-decl-preserved c = record {
  left = decl_step c.as_slice-decl-items.result.now c.loop-decl.decl-index c.decl-item.result _ _ _ c.loop-decl-test.true c.decl-item.is c.loop-decl.invariant.left c.in_ok-cut_decl.ensures;
  fits = decl_later c.as_slice-decl-items.result.now c.loop-decl.decl-index c.decl-item.result c.loop-decl-test.true c.decl-item.is c.loop-decl.invariant.fits;
}
