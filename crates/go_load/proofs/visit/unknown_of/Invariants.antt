use Rattle.std.proofs.Common.{◌≡◌, None, take}
use Rattle.std.specs.Prelude.{find, not}
use Rattle.go_load.specs.Packages as spec
use Rattle.go_load.specs.Paths as paths
use Rattle.go_load.proofs.visit.unknown_of.Given as goal

abbrev pub invariant-loop-source : goal.invariant-loop-source
invariant-loop-source l = find (λ p. not (paths.is_known l.home.path p)) (spec.imports_of (take l.source-index l.sources)) ≡ None
