use Rattle.std.proofs.Common.{◌≡◌, ◌+◌, length}
use Rattle.go_lex.specs.Scan.{comment_close}
use Rattle.go_lex.proofs.comment.close_len.Given as goal

abbrev pub decreases-loop-rest : goal.decreases-loop-rest
decreases-loop-rest l = length l.rest

abbrev pub invariant-loop-rest : goal.invariant-loop-rest
invariant-loop-rest l = record { same : comment_close l.len l.rest ≡ comment_close 0 l.bytes; within : l.len + length l.rest ≡ length l.bytes }
