use Rattle.std.proofs.Common.{◌≡◌, List, ℕ, length, map}
use Rattle.cov_report.proofs.tests.pods.pod.Given as goal

abbrev pub invariant-loop-shown : goal.invariant-loop-shown
invariant-loop-shown l = map (λ (functions : List (List ℕ)). map length functions) l.counts ≡ map (λ p. map (λ f. length f.units) p.functions) l.packages
