use Rattle.std.proofs.Common.{◌≡◌, ◌-◌, []}
use Rattle.go_grammar.specs.Terminals as t
use Rattle.go_reading.specs.Lists.{list_from}
use Rattle.go_reading.specs.Files.{path}
use Rattle.go_parse.proofs.file.path_list.Given as goal

abbrev pub invariant-loop-turn : goal.invariant-loop-turn
invariant-loop-turn l = list_from t.semicolon t.right_parenthesis path (l.turns - l._turn) l.found 0 l.tokens
    ≡ list_from t.semicolon t.right_parenthesis path l.turns [] 0 l.fn.tokens
