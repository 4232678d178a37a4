use Rattle.std.proofs.Common.{◌≡◌, ◌≤◌, length, drop, slice_get, Some, refl, ap, ◌∙◌, subst, arith}
use Rattle.std.specs.Result.{IfOk}
use Rattle.std.proofs.lemmas.Option.{slice_get_read}
use Rattle.go_meaning.specs.Channels.{pick_operands}
use Rattle.go_step.proofs.SelectWays.{fewer_operands}
use Rattle.go_step.proofs.Picks.{slice_rest, pick_found}
use Rattle.go_step.proofs.clauses.pick_part.Goals as goal

pub unreachable-requires : goal.unreachable-requires
unreachable-requires c =
    let cs = c.args.clauses.now in
    let rest = ap pick_operands (slice_rest cs c.args.number) in
    let fewer = fewer_operands cs c.args.number in
    omega (arith, rest, fewer, c.in_default-operands.ensures, c.in-Some.ensures)

pub returns : goal.returns
returns c =
    let cs = c.args.clauses.now in
    let k = c.args.number in
    let clause = c.index-clauses-number.result in
    let at : slice_get cs k ≡ Some clause = slice_get_read cs (length cs) k clause refl (omega arith) c.index-clauses-number.is in
    let all = c.in-Some.ensures in
    let left : c.in-Some-operands.left ≡ pick_operands (drop k cs) = c.in-Some-operands.ensures.0 ∙ ap pick_operands (slice_rest cs k) in
    let within : c.in-Some.pops ≤ length c.args.stack.now = omega (arith, all, c.len.ensures) in
    subst (λ p. IfOk c.comm_part.result (λ o. o ≡ p)) (pick_found cs k c.args.stack.now clause c.in-Some.pops c.in-Some-operands.left at all.0 within left) c.comm_part.ensures
