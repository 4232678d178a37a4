use Rattle.std.proofs.Common.{◌≡◌, ◌+◌, ◌*◌, drop}
use Rattle.go_types.specs.Endings as spec
use Rattle.go_types.proofs.ending.+ends.Given as goal

abbrev pub decreases-list_ends : goal.decreases-list_ends
decreases-list_ends l = 3 * l.depth

abbrev pub decreases-form_ends : goal.decreases-form_ends
decreases-form_ends l = 3 * l.depth + 2

abbrev pub decreases-cases_end : goal.decreases-cases_end
decreases-cases_end l = 3 * l.depth + 1

abbrev pub decreases-comms_end : goal.decreases-comms_end
decreases-comms_end l = 3 * l.depth + 1

abbrev pub invariant-cases_end-loop-clause : goal.invariant-cases_end-loop-clause
invariant-cases_end-loop-clause l =
    spec.cases_end l.lists (spec.ends l.lists l.depth) (spec.breaks l.lists l.depth 0) l.clauses ≡ spec.cases_end l.lists (spec.ends l.lists l.depth) (spec.breaks l.lists l.depth 0) (drop l.clause-index l.clauses)

abbrev pub invariant-comms_end-loop-clause : goal.invariant-comms_end-loop-clause
invariant-comms_end-loop-clause l =
    spec.comms_end (spec.ends l.lists l.depth) (spec.breaks l.lists l.depth 0) l.clauses ≡ spec.comms_end (spec.ends l.lists l.depth) (spec.breaks l.lists l.depth 0) (drop l.clause-index l.clauses)
