use Rattle.std.proofs.Common.{◌≡◌, ℕ, [], ◌∷◌, ◌++◌, drop, get_or}
use Rattle.cov_table.specs.Rows.{packages_in, package_path, AllPackagesWithin, PackagesRise}
use Rattle.cov_table.proofs.PackageSettling.{zero_row}
use Rattle.cov_table.proofs.package_order.first_packages.Given as goal

abbrev pub invariant-loop-row : goal.invariant-loop-row
invariant-loop-row l = record {
  same : packages_in l.texts (l.firsts.items ++ l.held ∷ drop l.row-index l.rest) ≡ packages_in l.texts l.rows;
  within : (n : ℕ) → AllPackagesWithin n l.rows → AllPackagesWithin n (l.firsts.items ++ l.held ∷ []);
  rising : PackagesRise l.texts (l.firsts.items ++ l.held ∷ []);
  at : package_path l.texts l.held ≡ package_path l.texts (get_or l.rows l.row-index zero_row);
}
