use Rattle.std.proofs.Common.{◌≡◌, ◌+◌, length}
use Rattle.go_lex.specs.Scan.{raw_close}
use Rattle.go_lex.proofs.quote.raw_len.Given as goal

abbrev pub decreases-loop-rest : goal.decreases-loop-rest
decreases-loop-rest l = length l.rest

abbrev pub invariant-loop-rest : goal.invariant-loop-rest
invariant-loop-rest l = record { same : raw_close l.len l.rest ≡ raw_close 0 l.bytes; within : l.len + length l.rest ≡ length l.bytes }
