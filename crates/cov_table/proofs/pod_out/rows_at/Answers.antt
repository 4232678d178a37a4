use Rattle.std.proofs.Common.{rules}
use Rattle.std.proofs.lemmas.Fn.{always_returns_same}
use Rattle.cov_table.specs.Rows.{text_at}
use Rattle.cov_table.proofs.PodRows.{is_before, is_there, front_parted, behind_parted, rows_there}
use Rattle.cov_table.proofs.pod_out.rows_at.Goals as goal

pub returns : goal.returns
returns c =
    let texts = c.args.texts.now in
    let path = text_at texts c.args.path in
    let rows = c.args.rows.now in
    let start = c.partition_point-start.result in
    let split = c.partition_point-start.ensures.partitioned (is_before texts path rows c.requires) (always_returns_same _ _ _ (λ a r f' k. search rules)) (front_parted texts path rows c.requires) in
    rows_there texts path rows c.requires start split c.partition_point-len.result
    (c.partition_point-len.ensures.partitioned (is_there texts path rows c.requires) (always_returns_same _ _ _ (λ a r f' k. search rules)) (behind_parted texts path rows c.requires start split))
