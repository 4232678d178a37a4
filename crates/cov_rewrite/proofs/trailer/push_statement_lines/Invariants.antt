use Rattle.std.proofs.Common.{◌≡◌, ◌++◌, drop}
use Rattle.std.specs.List.{flat_map, enumerate_from}
use Rattle.cov_rewrite.specs.Trailer.{unit_statements_line}
use Rattle.cov_rewrite.proofs.trailer.push_statement_lines.Given as goal

abbrev pub invariant-loop-i : goal.invariant-loop-i
invariant-loop-i l = l.covered.items ++ flat_map unit_statements_line (enumerate_from l.i (drop l.i l.units)) ≡ l.fn.covered.items ++ flat_map unit_statements_line (enumerate_from 0 l.units)
