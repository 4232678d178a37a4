use Rattle.std.proofs.Common.{◌≡◌, ◌∷◌, take}
use Rattle.cov_cells.proofs.closing.widened.Given as goal

abbrev pub invariant-loop-word : goal.invariant-loop-word
invariant-loop-word l = l.all.items ≡ 0 ∷ take l.word-index l.words
