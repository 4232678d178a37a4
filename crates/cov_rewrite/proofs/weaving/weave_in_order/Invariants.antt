use Rattle.std.proofs.Common.{◌≡◌, ◌++◌, ◌≤◌, drop, length}
use Rattle.cov_rewrite.specs.Weaving.{text_at, woven_from, woven}
use Rattle.cov_rewrite.specs.Ascending.{Ascends}
use Rattle.cov_rewrite.proofs.weaving.weave_in_order.Given as goal

abbrev pub invariant-loop-piece : goal.invariant-loop-piece
invariant-loop-piece l = record {
  within : l.at ≤ length l.text;
  order : Ascends l.at (drop l.piece-index l.pieces);
  left : l.covered.items ++ woven_from (text_at l.var l.mode (drop l.piece-index l.pieces)) l.at (drop l.at l.text) ≡ l.fn.covered.items ++ woven l.var l.mode l.pieces l.text;
}
