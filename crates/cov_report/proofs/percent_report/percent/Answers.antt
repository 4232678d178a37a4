use Rattle.std.proofs.Common.{ℕ, List, T, subst, sym}
use Rattle.std.specs.FinMap as finmap
use Rattle.cov_table.specs.Key.{Key, text_cmp, key_cmp}
use Rattle.cov_report.proofs.percent_report.percent.Goals as goal

pub push_packages-requires-clause-packages_sorted : goal.push_packages-requires-clause-packages_sorted
push_packages-requires-clause-packages_sorted c = subst (λ (es : List (List ℕ × (List ℕ × List ℕ))). T (finmap.is_sorted text_cmp es)) (sym c.in_ok-packages.ensures) (finmap.entries_sorted c.args.table.now.packages)

pub push_packages-requires-clause-sorted : goal.push_packages-requires-clause-sorted
push_packages-requires-clause-sorted c = subst (λ (es : List (Key × ℕ)). T (finmap.is_sorted key_cmp es)) (sym c.in_ok-units.ensures) (finmap.entries_sorted c.args.table.now.counts)
