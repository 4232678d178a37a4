use Rattle.std.proofs.Common.{◌≡◌, ◌+◌, ◌*◌, ◌≤◌, ◌∷◌, drop}
use Rattle.go_ast.specs.Numbers.{value_from}
use Rattle.go_lex.proofs.Values.{weight}
use Rattle.go_lex.proofs.escape.octal_value.Given as goal

abbrev pub invariant-loop-byte : goal.invariant-loop-byte
invariant-loop-byte l = record { same : value_from 8 l.value (drop l.byte-index l.digits) ≡ value_from 8 0 (l.first ∷ l.digits); small : (l.value + 1) * weight 8 (drop l.byte-index l.digits) ≤ 512 }
