use Rattle.std.proofs.Common.{◌≡◌, ◌++◌, length, reverse}
use Rattle.go_load.proofs.loaded.put_texts.Given as goal

abbrev pub invariant-loop-text : goal.invariant-loop-text
invariant-loop-text l = l.texts ++ reverse l.left.items ≡ l.fn.texts ++ reverse l.fn.held.items

abbrev pub decreases-loop-text : goal.decreases-loop-text
decreases-loop-text l = length l.left.items
