use Rattle.std.proofs.Common.{◌≡◌, ◌-◌, []}
use Rattle.go_grammar.specs.Terminals as t
use Rattle.go_reading.specs.Lists.{row_from}
use Rattle.go_reading.specs.Types.{name_item}
use Rattle.go_parse.proofs.names.names.Given as goal

abbrev pub invariant-loop-turn : goal.invariant-loop-turn
invariant-loop-turn l = row_from t.comma name_item (l.turns - l._turn) l.found 0 l.tokens ≡ row_from t.comma name_item l.turns [] 0 l.fn.tokens
