use Rattle.std.proofs.Common.{◌≡◌, ◌+◌, ◌-◌, ◌<◌, ◌≤◌, length, drop, slice_get, get_or, Some, refl, sym, ap, ◌∙◌, subst, arith}
use Rattle.std.proofs.lemmas.Option.{slice_get_read}
use Rattle.go_meaning.specs.Acts.{values_of, cases}
use Rattle.go_step.proofs.Cases.{case_found, case_later}
use Rattle.go_step.proofs.choices.case_at.Goals as goal

pub returns-then-left-count : goal.returns-then-left-count
returns-then-left-count c =
    let cs = c.args.clauses.now in
    let clause = c.clause-item.result in
    let at : slice_get cs c.loop-clause.clause-index ≡ Some clause = slice_get_read cs (length cs) c.loop-clause.clause-index clause refl (omega arith) c.clause-item.is in
    let read : slice_get c.values_of-values.result.now c.loop-clause.left ≡ Some c.index-values-left.result = slice_get_read c.values_of-values.result.now (length c.values_of-values.result.now) c.loop-clause.left c.index-values-left.result refl (omega arith) c.index-values-left.is in
    let here : slice_get (values_of clause.values) c.loop-clause.left ≡ Some c.index-values-left.result = sym (ap (λ l. slice_get l c.loop-clause.left) c.values_of-values.ensures) ∙ read in
    case_found cs c.loop-clause.clause-index c.loop-clause.left c.args.number clause c.index-values-left.result at here c.loop-clause.invariant

pub loop-clause-preserved : goal.loop-clause-preserved
loop-clause-preserved c =
    let cs = c.args.clauses.now in
    let clause = c.clause-item.result in
    let at : slice_get cs c.loop-clause.clause-index ≡ Some clause = slice_get_read cs (length cs) c.loop-clause.clause-index clause refl (omega arith) c.clause-item.is in
    let past : length (values_of clause.values) ≤ c.loop-clause.left = omega (arith, c.if-left-count.false, ap length c.values_of-values.ensures) in
    ap (λ n. slice_get (cases (drop (c.loop-clause.clause-index + 1) cs)) (c.loop-clause.left - n)) (ap length c.values_of-values.ensures)
    ∙ case_later cs c.loop-clause.clause-index c.loop-clause.left c.args.number clause at past c.loop-clause.invariant
