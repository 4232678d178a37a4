use Rattle.std.proofs.Common.{◌≡◌, ◌+◌, ◌*◌, ◌≤◌, drop}
use Rattle.go_ast.specs.Numbers.{value_from}
use Rattle.go_lex.proofs.Values.{weight}
use Rattle.go_lex.proofs.escape.hex_value.Given as goal

abbrev pub invariant-loop-byte : goal.invariant-loop-byte
invariant-loop-byte l = record { same : value_from 16 l.value (drop l.byte-index l.digits) ≡ value_from 16 0 l.digits; small : (l.value + 1) * weight 16 (drop l.byte-index l.digits) ≤ 4294967296 }
