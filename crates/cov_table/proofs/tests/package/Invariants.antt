use Rattle.std.proofs.Common.{◌≡◌, length, map}
use Rattle.cov_table.proofs.tests.package.Given as goal

abbrev pub invariant-loop-lines : goal.invariant-loop-lines
invariant-loop-lines l = map length l.by_function ≡ map (λ f. length f.units) l.functions
