use Rattle.std.proofs.Common.{◌≡◌, ◌≤◌, ◌-◌, []}
use Rattle.go_grammar.specs.Terminals as t
use Rattle.go_reading.specs.Lists.{list_from}
use Rattle.go_reading.specs.Specs.{var_spec}
use Rattle.go_parse.proofs.spec.var_list.Given as goal

abbrev pub invariant-loop-turn : goal.invariant-loop-turn
invariant-loop-turn l = record {
  so_far : list_from t.semicolon t.right_parenthesis (var_spec l.turns l.depth) (l.turns - l._turn) l.found l.height l.tokens
      ≡ list_from t.semicolon t.right_parenthesis (var_spec l.turns l.depth) l.turns [] 0 l.fn.tokens;
  tall : l.height ≤ l.depth;
}
