use Rattle.std.proofs.Common.{◌≡◌, ◌++◌, length, map, reverse}
use Rattle.go_load.specs.Loading as spec
use Rattle.go_load.proofs.loaded.apart.Given as goal

abbrev pub invariant-loop-source : goal.invariant-loop-source
invariant-loop-source l = record {
  files : map spec.file_of l.left ++ reverse l.files.items ≡ map spec.file_of l.fn.sources;
  texts : map (λ s. s.text) l.left ++ reverse l.texts.items ≡ map (λ s. s.text) l.fn.sources;
}

abbrev pub decreases-loop-source : goal.decreases-loop-source
decreases-loop-source l = length l.left
