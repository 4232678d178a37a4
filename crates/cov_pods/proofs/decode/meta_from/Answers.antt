use Rattle.cov_pods.proofs.ShortParts.{short_parts}
use Rattle.cov_pods.proofs.decode.meta_from.Goals as goal

pub returns-in-Ok-clause-parts : goal.returns-in-Ok-clause-parts
returns-in-Ok-clause-parts c = short_parts c.args.bytes.now c.in-Ok.file (c.laws.ensures.read_is_spelled c.args.bytes.now c.in-Ok.file c.in-Ok.ensures)
