use Rattle.cov_pods.proofs.Short.{too_short}
use Rattle.cov_pods.proofs.names.stamped_hash.Goals as goal

pub returns-then-rest-le32 : goal.returns-then-rest-le32
returns-then-rest-le32 c = too_short c.args.rest.now c.if-rest-le32.true
