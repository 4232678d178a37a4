use Rattle.std.proofs.Common.{◌≡◌, map, take}
use Rattle.go_load.specs.Loading.{with_numbers}
use Rattle.go_load.proofs.by_reader.paths_of.Given as goal

abbrev pub invariant-loop-number : goal.invariant-loop-number
invariant-loop-number l = l.paths ≡ map (λ f. f.path) (with_numbers l.founds (take l.number-index l.numbers))
