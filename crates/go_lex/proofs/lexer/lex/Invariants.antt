use Rattle.std.proofs.Common.{◌≡◌, ◌+◌, length}
use Rattle.go_lex.specs.Verdicts.{IsReadTo}
use Rattle.go_lex.proofs.lexer.lex.Given as goal

abbrev pub decreases-loop-rest : goal.decreases-loop-rest
decreases-loop-rest l = length l.rest

abbrev pub invariant-loop-rest : goal.invariant-loop-rest
invariant-loop-rest l = record { read : IsReadTo l.text l.tokens.items l.rest l.start l.needed; place : l.start + length l.rest ≡ length l.text }
