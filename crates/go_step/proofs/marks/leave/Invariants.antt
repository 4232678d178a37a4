use Rattle.std.proofs.Common.{◌≡◌, ◌<◌, length, drop}
use Rattle.go_meaning.specs.Moves.{cut_past}
use Rattle.go_step.proofs.marks.leave.Given as goal

abbrev pub invariant-loop-item : goal.invariant-loop-item
invariant-loop-item l = record {
  head : 0 < length l.control;
  control : (cut_past (drop 1 l.control) l.left).control ≡ (cut_past (drop 1 l.fn.control) l.fn.marks).control;
  values : drop (cut_past (drop 1 l.control) l.left).values l.stack ≡ drop (cut_past (drop 1 l.fn.control) l.fn.marks).values l.fn.stack;
}

abbrev pub decreases-loop-item : goal.decreases-loop-item
decreases-loop-item l = length l.control
