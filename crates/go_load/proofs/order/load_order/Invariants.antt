use Rattle.std.proofs.Common.{◌≡◌, List, ℕ, [], ◌++◌, length}
use Rattle.go_load.specs.Graph.{ComeAfter}
use Rattle.go_load.specs.Marks.{AreMarked, Await, count_unmarked}
use Rattle.go_load.proofs.order.load_order.Given as goal

abbrev pub invariant-loop-u : goal.invariant-loop-u
invariant-loop-u l = record {
  many : length l.marks.items ≡ length l.graph;
  are : AreMarked l.marks.items l.order.items;
  awaits : Await l.graph l.marks.items l.awaited.items;
  so_far : (us : List ℕ) → ComeAfter l.graph l.order.items us → ComeAfter l.graph [] (l.order.items ++ us);
}

abbrev pub decreases-loop-u : goal.decreases-loop-u
decreases-loop-u l = count_unmarked l.marks.items
