use Rattle.std.proofs.lemmas.Result.{IfOk-weaker}
use Rattle.threads_rows.proofs.Countable.{runnable}
use Rattle.threads_rows.proofs.counted.counted.Goals as goal

pub with_counts-requires : goal.with_counts-requires
with_counts-requires c = record { uncounted = c.requires.uncounted; few = c.requires.few }

pub returns : goal.returns
returns c = IfOk-weaker c.with_counts.result _ _ (λ q e. runnable _ q c.requires e) c.with_counts.ensures
