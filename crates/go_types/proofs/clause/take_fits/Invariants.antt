use Rattle.std.proofs.Common.{◌≡◌, drop}
use Rattle.go_types.specs.Bodies as spec
use Rattle.go_types.proofs.clause.take_fits.Given as goal

abbrev pub invariant-loop-target : goal.invariant-loop-target
invariant-loop-target l = spec.take_fits l.targets l.places l.types ≡ spec.take_fits (drop l.target-index l.targets) l.left l.kinds
