use Rattle.std.proofs.Common.{◌≡◌, ◌++◌, drop}
use Rattle.cov_rewrite.specs.Additions.{left_braces}
use Rattle.cov_rewrite.proofs.piece.add_left_braces.Given as goal

abbrev pub invariant-loop-span : goal.invariant-loop-span
invariant-loop-span l = l.pieces.items ++ left_braces (drop l.span-index l.else_ifs) ≡ l.fn.pieces.items ++ left_braces l.else_ifs
