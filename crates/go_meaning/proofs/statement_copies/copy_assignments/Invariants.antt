use Rattle.std.proofs.Common.{◌≡◌, take}
use Rattle.go_meaning.proofs.statement_copies.copy_assignments.Given as goal

abbrev pub invariant-loop-assignment : goal.invariant-loop-assignment
invariant-loop-assignment l = l.copies ≡ take l.assignment-index l.assignments
