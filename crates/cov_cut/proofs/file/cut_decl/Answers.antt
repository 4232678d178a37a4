use Rattle.cov_cut.proofs.Files.{func_fits}
use Rattle.cov_cut.proofs.file.cut_decl.Goals as goal

pub cut_func-requires : goal.cut_func-requires
cut_func-requires c = func_fits c.args.decl.now c.in-Func.f c.is_cut.result c.in-Func.is c.is_cut.ensures c.if-is_cut.true c.requires
