use Rattle.cov_table.proofs.PodUnits.{pod_is_table}
use Rattle.cov_table.proofs.laws.pod_is_table.Goals as goal

pub returns : goal.returns
returns c = pod_is_table
