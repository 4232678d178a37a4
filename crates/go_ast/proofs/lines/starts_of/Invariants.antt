use Rattle.std.proofs.Common.{◌≡◌, ◌+◌, ◌≤◌, ◌<◌, ◌++◌, ℕ, length, drop, get_or}
use Rattle.go_ast.specs.Places.{starts_from, line_starts}
use Rattle.go_ast.proofs.lines.starts_of.Given as goal

abbrev pub invariant-loop-at : goal.invariant-loop-at
invariant-loop-at l = record {
  so_far : l.starts.items ++ starts_from l.at (drop l.at l.text) ≡ line_starts l.text;
  some : 0 < length l.starts.items;
  few : length l.starts.items ≤ l.at + 1;
  first : get_or l.starts.items 0 0 ≡ 0;
  rise : (i j : ℕ) → i ≤ j → j < length l.starts.items → get_or l.starts.items i 0 ≤ get_or l.starts.items j 0;
  below : (i : ℕ) → i < length l.starts.items → get_or l.starts.items i 0 ≤ l.at;
}
