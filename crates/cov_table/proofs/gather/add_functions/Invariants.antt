use Rattle.std.proofs.Common.{◌≡◌, ◌++◌, length, map}
use Rattle.std.specs.List.{zip, flat_map}
use Rattle.cov_table.specs.Rows.{Extends, Names, AllWithin, row_entry}
use Rattle.cov_table.specs.Coverage.{function_counts, package_counts}
use Rattle.cov_table.proofs.gather.add_functions.Given as goal

abbrev pub invariant-loop-function : goal.invariant-loop-function
invariant-loop-function l = record {
  kept : Extends l.fn.texts l.texts;
  named : Names l.texts l.package_path l.from.path;
  within : AllWithin (length l.fn.texts) l.fn.rows.items → AllWithin (length l.texts) l.rows.items;
  entries : AllWithin (length l.fn.texts) l.fn.rows.items → map (row_entry l.texts) l.rows.items ++ flat_map (λ e. function_counts l.from e.0 e.1) (zip l.function-iterator.a.rest.now l.function-iterator.b.rest.now) ≡ map (row_entry l.fn.texts) l.fn.rows.items ++ package_counts l.from l.counts;
}
