use Rattle.std.proofs.Common.{◌≡◌, length, map, replicate, take}
use Rattle.cov_pods.proofs.counts.zeros.Given as goal

abbrev pub invariant-loop-package : goal.invariant-loop-package
invariant-loop-package l = l.counts ≡ map (λ p. map (λ f. replicate (length f.units) 0) p.functions) (take l.package-index l.meta.packages)
