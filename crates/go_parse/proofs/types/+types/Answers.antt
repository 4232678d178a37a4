use Rattle.go_parse.proofs.Steps.{type_inner}
use Rattle.go_parse.proofs.types.+types.Goals as goal

pub type_expr-returns-clause-reads : goal.type_expr-returns-clause-reads
type_expr-returns-clause-reads t c = rw (type_inner c.args.depth c.if-depth-eq0.false) c.type_in.ensures.reads
