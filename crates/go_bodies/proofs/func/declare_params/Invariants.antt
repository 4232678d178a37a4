use Rattle.std.proofs.Common.{◌≡◌, drop}
use Rattle.go_bodies.specs.Functions as spec
use Rattle.go_bodies.proofs.func.declare_params.Given as goal

abbrev pub invariant-loop-param : goal.invariant-loop-param
invariant-loop-param l = spec.declare_params l.params l.types l.fn.walk ≡ spec.declare_params (drop l.param-index l.params) l.left l.walk
