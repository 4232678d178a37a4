use Rattle.std.proofs.Common.{◌≡◌, ◌≤◌, ◌<◌, ◌⊎◌, ℕ, true, ◌∷◌, [], ◌++◌, length}
use Rattle.std.specs.List.{Contains}
use Rattle.go_load.specs.Graph.{imports}
use Rattle.go_load.specs.Marks.{count_unmarked, IsDead, IsSearched}
use Rattle.go_load.proofs.cycle.+lead_back.Given as goal

abbrev pub decreases-lead_back : goal.decreases-lead_back
decreases-lead_back l = count_unmarked l.marks.now

abbrev pub invariant-loop-v : goal.invariant-loop-v
invariant-loop-v l = record {
  many : length l.marks ≡ length l.graph;
  fewer : count_unmarked l.marks ≤ count_unmarked l.initial.marks;
  path : l.path.items ≡ l.fn.path.items;
  searched : IsSearched l.graph l.start l.path.items l.marks;
  tried : (w : ℕ) → l.start < w → w < l.v → imports l.graph l.last w ≡ true → Contains l.path.items w ⊎ IsDead l.graph l.start (l.path.items ++ w ∷ []) w;
}
