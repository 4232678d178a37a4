use Rattle.cov_table.proofs.Tables.{gathered}
use Rattle.cov_table.proofs.gather.gather_pod.Goals as goal

pub returns-clause-added : goal.returns-clause-added
returns-clause-added c =
    gathered _ _ _ _ _ _ _ _ _ _ _ c.new-rows.ensures.items c.new-packages.ensures.items c.in_ok-add_packages.ensures.kept c.packages_in-from.ensures c.counts_in.ensures c.in_ok-add_counts.ensures.added c.in_ok-add_packages.ensures.added
