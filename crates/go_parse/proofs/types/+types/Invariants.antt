use Rattle.std.proofs.Common.{◌+◌, ◌*◌}
use Rattle.go_parse.proofs.types.+types.Given as goal

abbrev pub decreases-type_expr : goal.decreases-type_expr
decreases-type_expr l = 2 * l.depth

abbrev pub decreases-type_in : goal.decreases-type_in
decreases-type_in l = 2 * l.depth + 1
