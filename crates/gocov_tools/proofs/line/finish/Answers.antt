use Rattle.gocov_tools.proofs.Pieces.{whole}
use Rattle.gocov_tools.specs.Line.{line_of}
use Rattle.gocov_tools.proofs.line.finish.Goals as goal

pub returns-in-Ok-clause-part : goal.returns-in-Ok-clause-part
returns-in-Ok-clause-part g c = whole _ _ (line_of c.args.status) c.in-Ok.ensures.ok
