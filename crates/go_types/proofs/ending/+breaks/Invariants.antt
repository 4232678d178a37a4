use Rattle.std.proofs.Common.{◌≡◌, ◌+◌, ◌*◌, ◌-◌, drop}
use Rattle.go_types.specs.Endings as spec
use Rattle.go_types.proofs.ending.+breaks.Given as goal

abbrev pub decreases-list_breaks : goal.decreases-list_breaks
decreases-list_breaks l = 4 * l.depth

abbrev pub decreases-statements_break : goal.decreases-statements_break
decreases-statements_break l = 4 * l.depth + 3

abbrev pub decreases-form_breaks : goal.decreases-form_breaks
decreases-form_breaks l = 4 * l.depth + 2

abbrev pub decreases-cases_break : goal.decreases-cases_break
decreases-cases_break l = 4 * l.depth + 1

abbrev pub decreases-comms_break : goal.decreases-comms_break
decreases-comms_break l = 4 * l.depth + 1

abbrev pub invariant-statements_break-loop-s : goal.invariant-statements_break-loop-s
invariant-statements_break-loop-s l =
    spec.statements_break (spec.breaks l.lists l.depth) l.leaves l.list ≡ spec.statements_break (spec.breaks l.lists l.depth) l.leaves (drop l.s-index l.list)

abbrev pub invariant-cases_break-loop-clause : goal.invariant-cases_break-loop-clause
invariant-cases_break-loop-clause l =
    spec.cases_break (spec.breaks l.lists l.depth) l.leaves l.clauses ≡ spec.cases_break (spec.breaks l.lists l.depth) l.leaves (drop l.clause-index l.clauses)

abbrev pub invariant-comms_break-loop-clause : goal.invariant-comms_break-loop-clause
invariant-comms_break-loop-clause l =
    spec.comms_break (spec.breaks l.lists l.depth) l.leaves l.clauses ≡ spec.comms_break (spec.breaks l.lists l.depth) l.leaves (drop l.clause-index l.clauses)
