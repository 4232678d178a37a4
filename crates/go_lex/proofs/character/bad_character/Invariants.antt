use Rattle.std.proofs.Common.{◌≡◌, ◌+◌, length}
use Rattle.go_lex.specs.Fronts.{FollowsCharacters}
use Rattle.go_lex.proofs.character.bad_character.Given as goal

abbrev pub decreases-loop-rest : goal.decreases-loop-rest
decreases-loop-rest l = length l.rest

abbrev pub invariant-loop-rest : goal.invariant-loop-rest
invariant-loop-rest l = record { follows : FollowsCharacters l.bytes l.rest; place : l.at + length l.rest ≡ length l.bytes }
