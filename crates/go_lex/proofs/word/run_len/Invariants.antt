use Rattle.std.proofs.Common.{◌≡◌, ◌+◌, length, drop}
use Rattle.go_lex.specs.Fronts.{FollowsLetters}
use Rattle.go_lex.proofs.word.run_len.Given as goal

abbrev pub decreases-loop-c : goal.decreases-loop-c
decreases-loop-c l = length l.rest

abbrev pub invariant-loop-c : goal.invariant-loop-c
invariant-loop-c l = record { follows : FollowsLetters l.bytes l.rest; same : l.rest ≡ drop l.len l.bytes; place : l.len + length l.rest ≡ length l.bytes }
