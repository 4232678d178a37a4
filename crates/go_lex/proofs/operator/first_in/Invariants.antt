use Rattle.std.proofs.Common.{◌≡◌, length, map}
use Rattle.go_lex.specs.Scan.{first_of}
use Rattle.go_lex.proofs.operator.first_in.Given as goal

abbrev pub decreases-loop-left : goal.decreases-loop-left
decreases-loop-left l = length l.left

abbrev pub invariant-loop-left : goal.invariant-loop-left
invariant-loop-left l = first_of (map (λ entry. (entry.0, entry.1.now)) l.left) l.bytes ≡ first_of (map (λ entry. (entry.0, entry.1.now)) l.table) l.bytes
