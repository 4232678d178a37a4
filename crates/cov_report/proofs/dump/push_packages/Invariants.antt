use Rattle.std.proofs.Common.{◌≡◌, ◌++◌}
use Rattle.std.specs.List.{zip, enumerate_from, flat_map}
use Rattle.cov_report.specs.Dump.{numbered, package_dump}
use Rattle.cov_report.proofs.dump.push_packages.Given as goal

abbrev pub invariant-loop-i : goal.invariant-loop-i
invariant-loop-i l =
    l.text.items ++ flat_map (package_dump l.filter.patterns) (enumerate_from l.i-iterator.count (zip l.i-iterator.iter.a.rest.now l.i-iterator.iter.b.rest.now)) ≡ l.fn.text.items ++ flat_map (package_dump l.filter.patterns) (numbered l.packages l.counts)
