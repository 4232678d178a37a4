use Rattle.std.proofs.Common.{◌≡◌, ◌++◌, ◌≤◌, ℕ, List, drop, length}
use Rattle.std.specs.Prelude.{All}
use Rattle.std.specs.List.{flat_map, enumerate_from}
use Rattle.go_ast.specs.Places.{line_starts}
use Rattle.cov_rewrite.specs.Trailer.{unit_place_line}
use Rattle.cov_rewrite.proofs.trailer.push_place_lines.Given as goal

abbrev pub invariant-loop-i : goal.invariant-loop-i
invariant-loop-i l =
    (text : List ℕ) → l.lines ≡ line_starts text → All (λ u. (u.start ≤ length text) × (u.end ≤ length text)) l.units
    → l.covered.items ++ flat_map (unit_place_line text) (enumerate_from l.i (drop l.i l.units)) ≡ l.fn.covered.items ++ flat_map (unit_place_line text) (enumerate_from 0 l.units)
