use Rattle.gocov_run.proofs.Sources.{file_is_cut}
use Rattle.gocov_run.proofs.units.left_by_file.Goals as goal

pub cut-requires : goal.cut-requires
cut-requires c = file_is_cut c.args.file.now.tree c.requires c.parsed.ensures.placed c.parsed.ensures.ends c.within.ensures
