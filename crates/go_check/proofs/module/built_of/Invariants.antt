use Rattle.std.proofs.Common.{◌≡◌, [], take, drop}
use Rattle.go_packages.specs.Modules as spec
use Rattle.go_check.proofs.module.built_of.Given as goal

abbrev pub invariant-loop-number : goal.invariant-loop-number
invariant-loop-number l =
    spec.built_behind [] l.packages spec.nothing ≡ spec.built_behind (take l.number l.packages) (drop l.number l.packages) l.built
