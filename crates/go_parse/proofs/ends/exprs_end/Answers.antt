use Rattle.std.proofs.Common.{◌∙◌, sym, ap}
use Rattle.go_grammar.specs.Trees.{expr_end}
use Rattle.go_parse.proofs.Endings.{exprs_end_last}
use Rattle.go_parse.proofs.ends.exprs_end.Goals as goal

pub returns-in-len1-up : goal.returns-in-len1-up
returns-in-len1-up c = ap expr_end c.last-item.is ∙ sym (exprs_end_last c.args.end c.args.values.now c.last-item.result c.in-len1-up.len_at_least)
