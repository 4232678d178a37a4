use Rattle.std.proofs.Common.{◌≡◌, ◌≤◌, ◌+◌, ◌-◌, ◌*◌, []}
use Rattle.go_reading.specs.Stmts as spec
use Rattle.go_parse.proofs.stmt.+stmt.Given as goal
use Rattle.go_grammar.specs.Blocks.{source}

abbrev pub decreases-block : goal.decreases-block
decreases-block l = 10 * l.depth

abbrev pub decreases-breakable : goal.decreases-breakable
decreases-breakable l = 10 * l.depth + 6

abbrev pub decreases-cases : goal.decreases-cases
decreases-cases l = 10 * l.depth + 4

abbrev pub decreases-comms : goal.decreases-comms
decreases-comms l = 10 * l.depth + 4

abbrev pub decreases-else_from : goal.decreases-else_from
decreases-else_from l = 10 * l.depth + 4

abbrev pub decreases-if_stmt : goal.decreases-if_stmt
decreases-if_stmt l = 10 * l.depth + 5

abbrev pub decreases-list : goal.decreases-list
decreases-list l = 10 * l.depth

abbrev pub decreases-plain_stmt : goal.decreases-plain_stmt
decreases-plain_stmt l = 10 * l.depth + 7

abbrev pub decreases-stmt : goal.decreases-stmt
decreases-stmt l = 10 * l.depth + 9

abbrev pub invariant-list-loop-turn : goal.invariant-list-loop-turn
invariant-list-loop-turn l = record {
  so_far : spec.stmts_from l.bounds.turns l.depth (spec.stmt source l.bounds.turns l.bounds.most l.depth) l.clause l.full (l.bounds.turns - l._turn) l.found l.height l.tokens
      ≡ spec.stmts_from l.bounds.turns l.depth (spec.stmt source l.bounds.turns l.bounds.most l.depth) l.clause l.full l.bounds.turns [] 0 l.fn.tokens;
  tall : l.height ≤ l.depth;
}

abbrev pub invariant-cases-loop-turn : goal.invariant-cases-loop-turn
invariant-cases-loop-turn l = record {
  so_far : spec.cases_from source l.bounds.turns l.depth (spec.stmt source l.bounds.turns l.bounds.most l.depth) (l.bounds.turns - l._turn) l.found l.height l.tokens
      ≡ spec.cases_from source l.bounds.turns l.depth (spec.stmt source l.bounds.turns l.bounds.most l.depth) l.bounds.turns [] 0 l.fn.tokens;
  tall : l.height ≤ l.depth;
}

abbrev pub invariant-comms-loop-turn : goal.invariant-comms-loop-turn
invariant-comms-loop-turn l = record {
  so_far : spec.comms_from source l.bounds.turns l.depth (spec.stmt source l.bounds.turns l.bounds.most l.depth) l.bounds.most (l.bounds.turns - l._turn) l.found l.height l.tokens
      ≡ spec.comms_from source l.bounds.turns l.depth (spec.stmt source l.bounds.turns l.bounds.most l.depth) l.bounds.most l.bounds.turns [] 0 l.fn.tokens;
  tall : l.height ≤ l.depth;
}
