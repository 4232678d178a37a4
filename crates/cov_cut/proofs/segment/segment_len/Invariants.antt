use Rattle.std.proofs.Common.{◌≡◌, ◌+◌, map, drop}
use Rattle.cov_cut.specs.Layers.{mark, first_length}
use Rattle.cov_cut.proofs.segment.segment_len.Given as goal

abbrev pub invariant-loop-s : goal.invariant-loop-s
invariant-loop-s l = record {
  counted : l.len ≡ l.s-index;
  left : first_length (map mark l.list) ≡ l.len + first_length (map mark (drop l.s-index l.list));
}
