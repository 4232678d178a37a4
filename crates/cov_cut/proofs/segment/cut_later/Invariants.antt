use Rattle.std.proofs.Common.{◌≡◌, ◌≤◌, ◌++◌, map, length}
use Rattle.std.specs.List.{flat_map}
use Rattle.cov_cut.specs.Layers.{mark}
use Rattle.cov_cut.specs.Units.{later_unit, segments}
use Rattle.cov_cut.proofs.segment.cut_later.Given as goal

abbrev pub invariant-loop-rest : goal.invariant-loop-rest
invariant-loop-rest l = record {
  left : l.units ++ flat_map later_unit (segments (map mark l.rest)) ≡ l.fn.units ++ flat_map later_unit (segments (map mark l.list));
  shorter : length l.rest ≤ length l.list;
}

abbrev pub decreases-loop-rest : goal.decreases-loop-rest
decreases-loop-rest l = length l.rest
