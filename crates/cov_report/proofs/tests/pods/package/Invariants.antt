use Rattle.std.proofs.Common.{◌≡◌, length, map}
use Rattle.cov_report.proofs.tests.pods.package.Given as goal

abbrev pub invariant-loop-shown : goal.invariant-loop-shown
invariant-loop-shown l = map length l.counts ≡ map (λ f. length f.units) l.functions
