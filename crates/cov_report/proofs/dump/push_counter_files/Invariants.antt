use Rattle.std.proofs.Common.{◌≡◌, ◌++◌}
use Rattle.std.specs.List.{zip, flat_map}
use Rattle.cov_report.specs.Dump.{counter_line}
use Rattle.cov_report.proofs.dump.push_counter_files.Given as goal

abbrev pub invariant-loop-path : goal.invariant-loop-path
invariant-loop-path l = l.text.items ++ flat_map counter_line (zip l.path-iterator.a.rest.now l.path-iterator.b.rest.now) ≡ l.fn.text.items ++ flat_map counter_line (zip l.paths l.heads)
