use Rattle.std.proofs.Common.{◌<◌, ℕ}
use Rattle.go_load.specs.Marks.{Await, IsNotFree}
use Rattle.go_load.proofs.order.next_free.Given as goal

abbrev pub invariant-loop-u : goal.invariant-loop-u
invariant-loop-u l = record {
  awaits : Await l.graph l.marks l.awaited;
  before : (v : ℕ) → v < l.u → IsNotFree l.graph l.marks v;
}
