use Rattle.std.proofs.Common.{◌≡◌, ℕ, ◌<◌, ◌≤◌, true}
use Rattle.go_load.specs.Graph.{imports}
use Rattle.go_load.specs.Marks.{is_marked}
use Rattle.go_load.proofs.order.awaited_from.Given as goal

abbrev pub invariant-loop-v : goal.invariant-loop-v
invariant-loop-v l = (v : ℕ) → l.from ≤ v → v < l.v → imports l.graph l.importer v ≡ true → is_marked l.marks v ≡ true
