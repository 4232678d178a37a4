use Rattle.std.proofs.Common.{◌≡◌, length, map, replicate, take}
use Rattle.cov_pods.proofs.counts.package_zeros.Given as goal

abbrev pub invariant-loop-function : goal.invariant-loop-function
invariant-loop-function l = l.counts ≡ map (λ f. replicate (length f.units) 0) (take l.function-index l.package.functions)
