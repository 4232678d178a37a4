use Rattle.std.proofs.Common.{◌≡◌, take, map}
use Rattle.std.specs.List.{join_with_byte}
use Rattle.go_meaning.specs.Values.{shown}
use Rattle.go_step.proofs.Lines.{listed}
use Rattle.go_step.proofs.output.line_of.Given as goal

abbrev pub invariant-loop-k : goal.invariant-loop-k
invariant-loop-k l = l.line.items ≡ join_with_byte 32 (map shown (take l.k (listed l.stack l.count)))
