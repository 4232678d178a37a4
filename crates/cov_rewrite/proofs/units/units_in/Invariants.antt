use Rattle.std.proofs.Common.{◌≡◌, ◌++◌, drop}
use Rattle.std.specs.List.{flat_map}
use Rattle.cov_rewrite.proofs.units.units_in.Given as goal

abbrev pub invariant-loop-function : goal.invariant-loop-function
invariant-loop-function l = l.units.items ++ flat_map (λ f. f.units) (drop l.function-index l.functions) ≡ flat_map (λ f. f.units) l.functions
