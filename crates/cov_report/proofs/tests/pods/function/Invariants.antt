use Rattle.std.proofs.Common.{◌≡◌, length}
use Rattle.cov_report.proofs.tests.pods.function.Given as goal

abbrev pub invariant-loop-line : goal.invariant-loop-line
invariant-loop-line l = length l.counts ≡ length l.units
