use Rattle.std.proofs.Common.{◌≡◌, ◌++◌, length, map, drop}
use Rattle.cov_table.specs.Rows.{Extends, AllPackagesWithin, package_entry}
use Rattle.cov_table.specs.Coverage.{package_of}
use Rattle.cov_table.proofs.gather.add_packages.Given as goal

abbrev pub invariant-loop-package : goal.invariant-loop-package
invariant-loop-package l = record {
  kept : Extends l.fn.texts l.texts;
  within : AllPackagesWithin (length l.fn.texts) l.fn.rows.items → AllPackagesWithin (length l.texts) l.rows.items;
  entries : AllPackagesWithin (length l.fn.texts) l.fn.rows.items → map (package_entry l.texts) l.rows.items ++ map package_of (drop l.package-index l.packages) ≡ map (package_entry l.fn.texts) l.fn.rows.items ++ map package_of l.packages;
}
