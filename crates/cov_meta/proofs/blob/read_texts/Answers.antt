use Rattle.cov_meta.proofs.Tables.{table_at_few}
use Rattle.cov_meta.proofs.blob.read_texts.Goals as goal

pub returns-clause-few : goal.returns-clause-few
returns-clause-few c = table_at_few _ _ _ c.in_ok-read.field-0 _ c.in_ok-read.ensures.0
