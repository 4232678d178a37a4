use Rattle.cov_cut.proofs.Branches.{renamed, found_func}
use Rattle.cov_cut.proofs.else_if.find_in_decl.Goals as goal

pub returns-in-Func : goal.returns-in-Func
returns-in-Func c =
    renamed c.find_in_block.result _ _ _ _ (found_func c.args.decl.now c.in-Func.f c.is_cut.result c.in-Func.is c.is_cut.ensures c.if-is_cut.true) c.find_in_block.ensures
