use Rattle.std.proofs.Common.{◌≡◌, ◌+◌, length, false}
use Rattle.go_lex.specs.Scan.{quote_close}
use Rattle.go_lex.proofs.quote.close_len.Given as goal

abbrev pub decreases-loop-rest : goal.decreases-loop-rest
decreases-loop-rest l = length l.rest

abbrev pub invariant-loop-rest : goal.invariant-loop-rest
invariant-loop-rest l = record { same : quote_close l.quote l.escaped l.len l.rest ≡ quote_close l.quote false 0 l.bytes; within : l.len + length l.rest ≡ length l.bytes }
