-- The key and the count of a unit.
use Rattle.std.specs.Prelude.{ℕ}
use Rattle.cov_table.specs.declared.units.Unit.{Unit}
use Rattle.cov_table.specs.Key.{Key}

abbrev pub unit_entry : Unit → Key × ℕ
unit_entry u = (record { package_path = u.package_path.now; file = u.file.now; function = u.function.now; literal = u.literal; start_line = u.start_line; start_column = u.start_column; end_line = u.end_line; end_column = u.end_column; statements = u.statements }, u.count)
