use Rattle.std.proofs.Common.{◌≡◌, ◌≤◌, ◌-◌, []}
use Rattle.go_grammar.specs.Terminals as t
use Rattle.go_reading.specs.Lists.{row_from}
use Rattle.go_reading.specs.Exprs.{expr}
use Rattle.go_parse.proofs.expr.exprs.Given as goal

abbrev pub invariant-loop-turn : goal.invariant-loop-turn
invariant-loop-turn l = record {
  so_far : row_from t.comma (expr l.turns l.depth 1) (l.turns - l._turn) l.found l.height l.tokens
      ≡ row_from t.comma (expr l.turns l.depth 1) l.turns [] 0 l.fn.tokens;
  tall : l.height ≤ l.depth;
}
