use Rattle.std.proofs.Common.{sym, subst}
use Rattle.go_meaning.specs.declared.event.Ready.{Ready}
use Rattle.go_meaning.specs.Readiness.{IsReady}
use Rattle.go_state.proofs.Activity.{over_idle, step_undue}
use Rattle.go_state.proofs.schedule.due.Goals as goal

pub returns-in-Count : goal.returns-in-Count
returns-in-Count c = let F : Ready → Type 0 = IsReady c.args.program.now c.args.config.now c.args.goroutine in sym (subst F c.in-Count.is c.ready.ensures)

pub returns-in-Step : goal.returns-in-Step
returns-in-Step c = let F : Ready → Type 0 = IsReady c.args.program.now c.args.config.now c.args.goroutine in let h = subst F c.in-Step.is c.ready.ensures in sym (step_undue c.args.program.now c.args.config.now c.args.goroutine h.0 h.1 h.2 h.3 h.4)

pub returns-in-Not : goal.returns-in-Not
returns-in-Not c = let F : Ready → Type 0 = IsReady c.args.program.now c.args.config.now c.args.goroutine in let h = subst F c.in-Not.is c.ready.ensures in sym h.1.due

pub returns-in-Over : goal.returns-in-Over
returns-in-Over c = let F : Ready → Type 0 = IsReady c.args.program.now c.args.config.now c.args.goroutine in sym (over_idle c.args.program.now c.args.config.now c.args.goroutine (subst F c.in-Over.is c.ready.ensures)).due
