use Rattle.std.proofs.Common.{◌≡◌, drop, slice_get}
use Rattle.go_meaning.specs.Acts.{cases}
use Rattle.go_step.proofs.choices.case_at.Given as goal

abbrev pub invariant-loop-clause : goal.invariant-loop-clause
invariant-loop-clause l = slice_get (cases (drop l.clause-index l.clauses)) l.left ≡ slice_get (cases l.clauses) l.number
