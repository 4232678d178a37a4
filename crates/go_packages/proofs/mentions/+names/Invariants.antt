use Rattle.std.proofs.Common.{◌≡◌, ◌++◌, take}
use Rattle.std.specs.Prelude.{flat_map}
use Rattle.go_packages.specs.Mentions as spec
use Rattle.go_packages.proofs.mentions.+names.Given as goal

abbrev pub invariant-add_all_names-loop-e : goal.invariant-add_all_names-loop-e
invariant-add_all_names-loop-e l = l.all ≡ l.fn.all ++ flat_map spec.names_in (take l.e-index l.es)
