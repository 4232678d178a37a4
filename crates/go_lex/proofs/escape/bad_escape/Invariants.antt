use Rattle.std.proofs.Common.{◌≡◌, ◌+◌, List, ℕ, length}
use Rattle.go_ast.specs.Literals.{AreItems}
use Rattle.go_lex.proofs.escape.bad_escape.Given as goal

abbrev pub decreases-loop-rest : goal.decreases-loop-rest
decreases-loop-rest l = length l.rest

abbrev pub invariant-loop-rest : goal.invariant-loop-rest
invariant-loop-rest l = record { items : (items : List (List ℕ)) × AreItems 34 items l.body l.rest; place : l.at + length l.rest ≡ 1 + length l.body }
