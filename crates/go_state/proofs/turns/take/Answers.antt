use Rattle.std.proofs.Common.{ℕ, ◌+◌, Some, sym, subst, arith}
use Rattle.go_meaning.specs.Programs.{Parts}
use Rattle.go_meaning.specs.Readiness.{IsFirst}
use Rattle.go_state.specs.Schedule.{IsAt}
use Rattle.go_state.proofs.Scheduling.{many, can_take, taken, step_small}
use Rattle.go_state.proofs.turns.take.Goals as goal

pub first_event-requires-clause-few : goal.first_event-requires-clause-few
first_event-requires-clause-few c = let a = many c.args.run.now.program c.args.run.now.history c.config.result.now c.config.ensures in let b = c.known.ensures.few in omega (arith, a, b)

pub advance-requires-clause-can : goal.advance-requires-clause-can
advance-requires-clause-can c =
    let F : Parts → Type 0 = λ Q. IsFirst Q c.config.result.now c.args.now (Some c.in-Some.event) in
    can_take c.args.run.now c.args.now c.args.taken c.config.result.now c.in-Some.event c.requires.at c.config.ensures c.requires.goes c.requires.within (subst F c.requires.same c.in-Some.ensures) c.known.ensures.history

pub returns-in_ok-advance-in-Some-clause-idle : goal.returns-in_ok-advance-in-Some-clause-idle
returns-in_ok-advance-in-Some-clause-idle c =
    let F : Parts → Type 0 = λ Q. IsFirst Q c.config.result.now c.args.now (Some c.in-Some.event) in
    let a = many c.args.run.now.program c.args.run.now.history c.config.result.now c.config.ensures in
    let b = c.known.ensures.few in
    let t = taken c.args.run.now c.args.now c.args.taken c.config.result.now c.in-Some.event c.requires.at c.config.ensures c.requires.goes c.requires.within (subst F c.requires.same c.in-Some.ensures)
    c.advance.new.run c.in_ok-advance-in-Some.ensures.0 c.in_ok-advance-in-Some.ensures.1 c.requires.number (omega (arith, a, b)) c.goroutines.ensures.stay c.goroutines.ensures.few in
    let G : ℕ → Type 0 = λ n. IsAt c.advance.new.run c.args.now (c.args.taken + n) in
    let e = c.steps_of.ensures in
    let s = step_small c.in-Some.event in
    (subst G (sym e) t.at, omega (arith, e, s), t.less)

pub returns-in_ok-advance-in-Some-clause-number : goal.returns-in_ok-advance-in-Some-clause-number
returns-in_ok-advance-in-Some-clause-number c =
    let F : Parts → Type 0 = λ Q. IsFirst Q c.config.result.now c.args.now (Some c.in-Some.event) in
    let a = many c.args.run.now.program c.args.run.now.history c.config.result.now c.config.ensures in
    let b = c.known.ensures.few in
    (taken c.args.run.now c.args.now c.args.taken c.config.result.now c.in-Some.event c.requires.at c.config.ensures c.requires.goes c.requires.within (subst F c.requires.same c.in-Some.ensures)
    c.advance.new.run c.in_ok-advance-in-Some.ensures.0 c.in_ok-advance-in-Some.ensures.1 c.requires.number (omega (arith, a, b)) c.goroutines.ensures.stay c.goroutines.ensures.few).number
