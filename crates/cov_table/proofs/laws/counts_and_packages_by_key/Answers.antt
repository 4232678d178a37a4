use Rattle.std.specs.Cmp.Lexicographic.{nat_list_cmp_total}
use Rattle.cov_outside.specs.Mode.{greatest}
use Rattle.cov_table.proofs.Keys.{key_total}
use Rattle.cov_table.proofs.Counting.{get_counts}
use Rattle.cov_table.proofs.Firsts.{get_firsts}
use Rattle.cov_table.proofs.laws.counts_and_packages_by_key.Goals as goal

pub returns-clause-counts : goal.returns-clause-counts
returns-clause-counts c = λ mode counts more key. get_counts key_total (greatest mode) counts more key

pub returns-clause-packages : goal.returns-clause-packages
returns-clause-packages c = λ packages more path. get_firsts nat_list_cmp_total packages more path
