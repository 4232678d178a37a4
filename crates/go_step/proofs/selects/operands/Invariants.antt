use Rattle.std.proofs.Common.{◌≡◌, ◌+◌, ◌≤◌, drop}
use Rattle.go_meaning.specs.Channels.{pick_operands}
use Rattle.go_step.proofs.selects.operands.Given as goal

abbrev pub invariant-loop-clause : goal.invariant-loop-clause
invariant-loop-clause l = record {
  counted : l.sum + pick_operands (drop l.clause-index l.clauses) ≡ pick_operands l.clauses;
  within : l.sum ≤ l.values;
}
