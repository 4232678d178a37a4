use Rattle.std.proofs.Common.{◌≡◌, ◌++◌, length, map}
use Rattle.std.specs.List.{zip, flat_map}
use Rattle.cov_table.specs.Rows.{Extends, AllWithin, row_entry}
use Rattle.cov_table.specs.Coverage.{package_counts, counts_of}
use Rattle.cov_table.proofs.gather.add_counts.Given as goal

abbrev pub invariant-loop-package : goal.invariant-loop-package
invariant-loop-package l = record {
  kept : Extends l.fn.texts l.texts;
  within : AllWithin (length l.fn.texts) l.fn.rows.items → AllWithin (length l.texts) l.rows.items;
  entries : AllWithin (length l.fn.texts) l.fn.rows.items → map (row_entry l.texts) l.rows.items ++ flat_map (λ e. package_counts e.0 e.1) (zip l.package-iterator.a.rest.now l.package-iterator.b.rest.now) ≡ map (row_entry l.fn.texts) l.fn.rows.items ++ counts_of l.packages l.counts;
}
