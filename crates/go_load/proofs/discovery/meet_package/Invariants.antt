use Rattle.std.proofs.Common.{◌≡◌, take}
use Rattle.std.specs.Prelude.{filter}
use Rattle.go_load.specs.Packages.{imports_of, with_texts}
use Rattle.go_load.specs.Paths as paths
use Rattle.go_load.proofs.discovery.meet_package.Given as goal

abbrev pub invariant-loop-source : goal.invariant-loop-source
invariant-loop-source l = l.met ≡ with_texts l.initial.met (filter (paths.is_own l.home.path) (imports_of (take l.source-index l.found.sources)))
