use Rattle.std.proofs.Common.{◌≡◌, ◌-◌, ◌++◌, map, drop, length}
use Rattle.go_meaning.specs.declared.item.Item.TheVariants.{Eval}
use Rattle.go_step.proofs.items.push_evals.Given as goal

abbrev pub invariant-loop-k : goal.invariant-loop-k
invariant-loop-k l = l.items ≡ map Eval (drop (length l.es - l.k) l.es) ++ l.fn.items
