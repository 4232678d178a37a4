use Rattle.std.proofs.Common.{◌≡◌, ◌++◌}
use Rattle.std.specs.List.{zip, enumerate_from, flat_map}
use Rattle.cov_report.specs.Dump.{numbered, function_dump}
use Rattle.cov_report.proofs.dump.push_functions.Given as goal

abbrev pub invariant-loop-i : goal.invariant-loop-i
invariant-loop-i l =
    l.text.items ++ flat_map function_dump (enumerate_from l.i-iterator.count (zip l.i-iterator.iter.a.rest.now l.i-iterator.iter.b.rest.now)) ≡ l.fn.text.items ++ flat_map function_dump (numbered l.functions l.counts)
