use Rattle.std.proofs.Common.{◌≡◌, ◌++◌, map}
use Rattle.std.specs.List.{zip}
use Rattle.cov_table.specs.Rows.{unit_row, unit_rows}
use Rattle.cov_table.proofs.gather.add_units.Given as goal

abbrev pub invariant-loop-unit : goal.invariant-loop-unit
invariant-loop-unit l =
    l.rows.items ++ map (unit_row l.package_path l.file l.function l.from) (zip l.unit-iterator.a.rest.now l.unit-iterator.b.rest.now)
    ≡ l.fn.rows.items ++ unit_rows l.package_path l.file l.function l.from l.counts
