use Rattle.std.proofs.Common.{◌≡◌, length, true}
use Rattle.go_ast.specs.Numbers.{are_digits}
use Rattle.go_lex.specs.Bases.{is_digit}
use Rattle.go_lex.proofs.number.are_digits.Given as goal

abbrev pub decreases-loop-rest : goal.decreases-loop-rest
decreases-loop-rest l = length l.rest

abbrev pub invariant-loop-rest : goal.invariant-loop-rest
invariant-loop-rest l = are_digits (is_digit l.base) l.may l.rest ≡ are_digits (is_digit l.base) true l.bytes
