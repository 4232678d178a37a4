use Rattle.std.proofs.Common.{◌≡◌, ◌≤◌, ◌+◌, ◌-◌, ◌*◌, []}
use Rattle.go_grammar.specs.Terminals as t
use Rattle.go_reading.specs.Lists.{list_from}
use Rattle.go_reading.specs.Exprs as spec
use Rattle.go_parse.proofs.expr.+expr.Given as goal

abbrev pub decreases-args : goal.decreases-args
decreases-args l = 8 * l.depth + 1

abbrev pub decreases-bound : goal.decreases-bound
decreases-bound l = 8 * l.depth + 1

abbrev pub decreases-bracket : goal.decreases-bracket
decreases-bracket l = 8 * l.depth + 3

abbrev pub decreases-call : goal.decreases-call
decreases-call l = 8 * l.depth + 2

abbrev pub decreases-climb : goal.decreases-climb
decreases-climb l = 8 * l.depth + 5

abbrev pub decreases-cut_from : goal.decreases-cut_from
decreases-cut_from l = 8 * l.depth + 2

abbrev pub decreases-expr : goal.decreases-expr
decreases-expr l = 8 * l.depth + 0

abbrev pub decreases-operand : goal.decreases-operand
decreases-operand l = 8 * l.depth + 2

abbrev pub decreases-paren : goal.decreases-paren
decreases-paren l = 8 * l.depth + 1

abbrev pub decreases-primary : goal.decreases-primary
decreases-primary l = 8 * l.depth + 4

abbrev pub decreases-unary : goal.decreases-unary
decreases-unary l = 8 * l.depth + 6

abbrev pub invariant-args-loop-turn : goal.invariant-args-loop-turn
invariant-args-loop-turn l = record {
  so_far : list_from t.comma t.right_parenthesis (spec.expr l.turns l.depth 1) (l.turns - l._turn) l.found l.height l.tokens
      ≡ list_from t.comma t.right_parenthesis (spec.expr l.turns l.depth 1) l.turns [] 0 l.fn.tokens;
  tall : l.height ≤ l.depth;
}

abbrev pub invariant-climb-loop-turn : goal.invariant-climb-loop-turn
invariant-climb-loop-turn l = record {
  so_far : spec.climb l.turns l.depth (spec.expr l.turns l.depth) l.least (l.turns - l._turn) l.most l.left l.height l.tokens
      ≡ spec.climb l.turns l.depth (spec.expr l.turns l.depth) l.least l.turns 6 l.fn.first l.fn.height l.fn.tokens;
  tall : l.height ≤ l.depth + 1;
}

abbrev pub invariant-primary-loop-turn : goal.invariant-primary-loop-turn
invariant-primary-loop-turn l = record {
  so_far : spec.suffixes_from l.turns l.depth (spec.expr l.turns l.depth) (l.turns - l._turn) l.of l.height l.tokens
      ≡ spec.primary l.turns l.depth (spec.expr l.turns l.depth) l.fn.tokens;
  tall : l.height ≤ l.depth + 1;
}
