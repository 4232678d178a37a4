use Rattle.std.proofs.Common.{rules}
use Rattle.std.specs.Cmp.Lexicographic.{nat_list_cmp_total}
use Rattle.std.proofs.lemmas.List.Sorted.{ranks_by}
use Rattle.std.proofs.lemmas.Fn.{always_returns_same}
use Rattle.cov_table.specs.Rows.{package_path}
use Rattle.cov_table.proofs.PackageSettling.{path_lt, packages_stable, within_permutation}
use Rattle.cov_table.proofs.package_order.sort_packages.Goals as goal

pub returns-clause-same : goal.returns-clause-same
returns-clause-same c =
    packages_stable c.args.texts.now _ _ c.sort_by.ensures.permutation (c.sort_by.ensures.stable (path_lt c.args.texts.now) (ranks_by nat_list_cmp_total (package_path c.args.texts.now)) (always_returns_same _ _ _ (λ a r f' k. search rules)))

pub returns-clause-sorted : goal.returns-clause-sorted
returns-clause-sorted c =
    c.in_ok-sort_by.ensures.sorted (path_lt c.args.texts.now) (ranks_by nat_list_cmp_total (package_path c.args.texts.now)) (always_returns_same _ _ _ (λ a r f' k. search rules))

pub returns-clause-within : goal.returns-clause-within
returns-clause-within c = λ n w. within_permutation n _ _ c.sort_by.ensures.permutation w
