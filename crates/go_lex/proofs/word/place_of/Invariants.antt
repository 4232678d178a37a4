use Rattle.std.proofs.Common.{◌≡◌, ◌+◌, length, map}
use Rattle.go_ast.specs.Words.{place_from}
use Rattle.go_lex.proofs.word.place_of.Given as goal

abbrev pub decreases-loop-left : goal.decreases-loop-left
decreases-loop-left l = length l.left

abbrev pub invariant-loop-left : goal.invariant-loop-left
invariant-loop-left l = record { same : place_from l.place (map (λ w. w.now) l.left) l.word ≡ place_from 0 (map (λ w. w.now) l.words) l.word; place : l.place + length l.left ≡ length l.words }
