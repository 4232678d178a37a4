use Rattle.cov_cut.proofs.Walks.{func_lists_are, fits_along}
use Rattle.cov_cut.proofs.file.cut_func.Goals as goal

pub cut_block-requires : goal.cut_block-requires
cut_block-requires c = record { fits = fits_along _ _ (func_lists_are c.args.f.now) c.requires }
