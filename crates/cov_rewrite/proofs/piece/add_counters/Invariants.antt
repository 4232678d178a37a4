use Rattle.std.proofs.Common.{◌≡◌, ◌++◌, map, drop}
use Rattle.std.specs.List.{enumerate_from}
use Rattle.cov_rewrite.specs.Additions.{counters, numbered_counter}
use Rattle.cov_rewrite.proofs.piece.add_counters.Given as goal

abbrev pub invariant-loop-i : goal.invariant-loop-i
invariant-loop-i l = l.pieces.items ++ map numbered_counter (enumerate_from l.i (drop l.i l.units)) ≡ l.fn.pieces.items ++ counters l.units
