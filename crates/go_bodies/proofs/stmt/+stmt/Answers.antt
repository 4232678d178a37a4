use Rattle.std.proofs.Common.{rules, arith, ◌≡◌, Err}
use Rattle.std.proofs.lemmas.Grind.{common_steps}
use Rattle.go_ast.specs.declared.block.StmtForm.{out-StmtForm, the_lemmas as form_lemmas}
use Rattle.go_types.specs.Bodies as spec
use Rattle.go_types.specs.Walking.{Walks}
use Rattle.go_bodies.proofs.Filling.{fills_done, fills_failed}
use Rattle.go_bodies.proofs.stmt.+stmt.Goals as goal

pub check_for-returns-in_err-check_body : goal.check_for-returns-in_err-check_body
check_for-returns-in_err-check_body t c =
    let result : c.from_residual-in_err-check_body.result ≡ Err c.in_err-check_body.field-0.0 = first_of (search rules, grind (arith, common_steps)) in
    let failed : Walks (spec.repeated c.args.label (spec.block_parts c.in-For.body).list c.check_last.new.walk) (Err c.in_err-check_body.field-0.0) c.check_body.new.walk = first_of (search rules, grind (arith, common_steps)) in
    rw result (fills_failed c.args.label (out-StmtForm c.args.form.now) c.in-For.first c.in-For.test c.in-For.last c.in-For.body
    (search (rules, form_lemmas))
    c.args.walk.now c.check_first.new.walk c.condition_if.new.walk c.check_last.new.walk c.check_body.new.walk
    c.in_ok-check_first.field-0 c.in_ok-condition_if.field-0 c.in_ok-check_last.field-0 c.in_err-check_body.field-0.0 c.set_last.new.self
    (first_of (search rules, grind (arith, common_steps))) (first_of (search rules, grind (arith, common_steps))) (first_of (search rules, grind (arith, common_steps))) failed)

pub check_for-returns : goal.check_for-returns
check_for-returns t c =
    fills_done c.args.label (out-StmtForm c.args.form.now) c.in-For.first c.in-For.test c.in-For.last c.in-For.body
    (search (rules, form_lemmas))
    c.args.walk.now c.check_first.new.walk c.condition_if.new.walk c.check_last.new.walk c.check_body.new.walk
    c.in_ok-check_first.field-0 c.in_ok-condition_if.field-0 c.in_ok-check_last.field-0 c.in_ok-check_body.field-0 c.set_body.new.self
    (first_of (search rules, grind (arith, common_steps))) (first_of (search rules, grind (arith, common_steps))) (first_of (search rules, grind (arith, common_steps))) (first_of (search rules, grind (arith, common_steps))) (first_of (search rules, grind (arith, common_steps)))
