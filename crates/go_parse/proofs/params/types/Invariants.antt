use Rattle.std.proofs.Common.{◌≡◌, ◌≤◌, ◌-◌, []}
use Rattle.go_grammar.specs.Terminals as t
use Rattle.go_reading.specs.Lists.{list_from}
use Rattle.go_reading.specs.Types.{type_}
use Rattle.go_parse.proofs.params.types.Given as goal

abbrev pub invariant-loop-turn : goal.invariant-loop-turn
invariant-loop-turn l = record {
  so_far : list_from t.comma t.right_parenthesis (type_ l.depth) (l.turns - l._turn) l.found l.height l.tokens
      ≡ list_from t.comma t.right_parenthesis (type_ l.depth) l.turns [] 0 l.fn.tokens;
  tall : l.height ≤ l.depth;
}
