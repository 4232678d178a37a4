use Rattle.std.proofs.Common.{◌≡◌, None, take, map}
use Rattle.std.specs.Prelude.{find, not}
use Rattle.go_load.specs.Paths as paths
use Rattle.go_load.proofs.visit.unknown_in.Given as goal

abbrev pub invariant-loop-import : goal.invariant-loop-import
invariant-loop-import l = find (λ p. not (paths.is_known l.home.path p)) (map (λ i. i.path) (take l.import-index l.imports)) ≡ None
