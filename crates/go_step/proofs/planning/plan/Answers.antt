use Rattle.std.proofs.Common.{◌≡◌, IfOk}
use Rattle.go_meaning.specs.Acts.{act_of}
use Rattle.go_step.proofs.planning.plan.Goals as goal

pub returns-in-Each : goal.returns-in-Each
unfolding act_of
returns-in-Each c = rw c.in-Each.is (simp c.form_at-in-Each.ensures.form at c.each.ensures)
