use Rattle.std.proofs.Common.{◌≡◌, take, map}
use Rattle.std.specs.Prelude.{filter}
use Rattle.go_load.specs.Packages.{with_texts}
use Rattle.go_load.specs.Paths as paths
use Rattle.go_load.proofs.discovery.meet_imports.Given as goal

abbrev pub invariant-loop-import : goal.invariant-loop-import
invariant-loop-import l = l.met ≡ with_texts l.initial.met (filter (paths.is_own l.home.path) (map (λ i. i.path) (take l.import-index l.imports)))
