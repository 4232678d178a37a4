use Rattle.std.proofs.Common.{◌≡◌, map, take}
use Rattle.go_meaning.specs.Erasing.{drop_counts}
use Rattle.cov_erase.proofs.erasing.erased_lists.Given as goal

abbrev pub invariant-loop-list : goal.invariant-loop-list
invariant-loop-list l = l.erased ≡ map drop_counts (take l.list-index l.lists)
