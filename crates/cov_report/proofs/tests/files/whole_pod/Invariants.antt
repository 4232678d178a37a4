use Rattle.std.proofs.Common.{All}
use Rattle.std.specs.Str.{IsUtf8}
use Rattle.cov_report.proofs.tests.files.whole_pod.Given as goal

abbrev pub invariant-loop-path : goal.invariant-loop-path
invariant-loop-path l = All IsUtf8 l.counters
