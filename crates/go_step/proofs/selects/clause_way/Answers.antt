use Rattle.std.proofs.Common.{◌≤◌, sym, ◌∙◌, arith}
use Rattle.go_meaning.specs.Channels.{pick_operands, operands_of}
use Rattle.go_step.specs.Ways.{operands_on}
use Rattle.go_step.proofs.SelectWays.{way_left, operands_left, fewer_left, none_left}
use Rattle.go_step.proofs.selects.clause_way.Goals as goal

pub returns-in_default : goal.returns-in_default
returns-in_default c = none_left c.args.clauses.now c.later-clauses.result.now (operands_on c.args.clauses.now c.args.stack.now) c.args.number c.later-clauses.ensures (sym c.in_default.ensures.value)

pub unreachable-requires : goal.unreachable-requires
unreachable-requires c =
    let fewer = fewer_left c.args.clauses.now c.later-clauses.result.now c.args.number c.later-clauses.ensures in
    omega (arith, fewer, c.in_default-operands.ensures, c.len.ensures, c.requires)

pub comm_way-requires-clause-enough : goal.comm_way-requires-clause-enough
comm_way-requires-clause-enough c =
    let own : operands_of c.in-Some.clause.now.comm ≤ pick_operands c.later-clauses.result.now = operands_left c.args.clauses.now c.later-clauses.result.now c.args.number c.in-Some.clause.now c.later-clauses.ensures (sym c.in-Some.ensures.value) in
    omega (arith, own, c.in-Some-operands.ensures.0)

pub returns : goal.returns
returns c = c.comm_way.ensures ∙ way_left c.args.clauses.now c.later-clauses.result.now c.args.stack.now c.args.number c.in-Some-operands.left c.in-Some.clause.now c.later-clauses.ensures (sym c.in-Some.ensures.value) c.in-Some-operands.ensures.0 c.requires
