use Rattle.std.proofs.Common.{ap, sym, subst, ◌∙◌, ◌++◌, ◌∷◌, [], List, Err}
use Rattle.std.proofs.lemmas.Result.{err_from_is_err_and}
use Rattle.go_meaning.specs.declared.event.Event.{Event}
use Rattle.go_meaning.specs.Histories.{IsHistory}
use Rattle.go_state.specs.Runs.{RunState}
use Rattle.go_state.proofs.Applying.{run_more, no_step, no_late}
use Rattle.go_state.proofs.run.Run.apply.Goals as goal

pub invariant_of-self-2 : goal.invariant_of-self-2
invariant_of-self-2 c =
    run_more c.self.inside.program.value c.self.inside.limits.steps c.self.inside.events.items c.self.inside.config c.self.inside.steps c.self.inside.end c.self.inside.served c.self.invariant c.args.event
    c.step.new.config c.args.program.now c.push_reserved.new.self.items c.steps_of-taken.result c.end_of.result
    (c.requires ∙ ap (λ (r : RunState). r.program) (sym c.self.view_is)) (c.push_reserved.ensures.items ∙ ap (λ (l : List Event). l ++ c.args.event ∷ []) c.make_room.ensures.items) c.steps_of-taken.ensures (c.can_come.ensures.yes c.if-not-can_come.false) c.in_ok-step.ensures.ok c.end_of.ensures c.goroutines.ensures.stay c.goroutines.ensures.few

pub returns-then-not-can_come-clause-not_ready : goal.returns-then-not-can_come-clause-not_ready
returns-then-not-can_come-clause-not_ready c e w =
    let F : RunState → Type 0 = λ r. IsHistory r.program r.limits.steps (r.history ++ c.args.event ∷ []) in
    let n = c.can_come.ensures.no c.if-not-can_come.true in
    no_late c.self.inside.program.value c.self.inside.limits.steps c.self.inside.events.items c.self.inside.config c.self.inside.steps c.self.inside.end c.self.inside.served c.self.invariant c.args.event
    c.steps_of-taken.result c.steps_of-taken.ensures n.0 n.1 (subst F (sym c.self.view_is) w)

pub returns-in_err-step-clause-not_ready : goal.returns-in_err-step-clause-not_ready
returns-in_err-step-clause-not_ready c e w =
    let F : RunState → Type 0 = λ r. IsHistory r.program r.limits.steps (r.history ++ c.args.event ∷ []) in
    let p = err_from_is_err_and c.from_residual.result c.from_residual.ensures.1 in
    no_step c.self.inside.program.value c.self.inside.limits.steps c.self.inside.events.items c.self.inside.config c.self.inside.steps c.self.inside.end c.self.inside.served c.self.invariant c.args.event
    c.args.program.now (c.requires ∙ ap (λ (r : RunState). r.program) (sym c.self.view_is)) (c.in_err-step.ensures.not_ready (sym (p.1 ∙ ap Err p.2) ∙ e)) (subst F (sym c.self.view_is) w)

pub returns-clause-ready : goal.returns-clause-ready
returns-clause-ready c =
    let F : RunState → Type 0 = λ r. IsHistory r.program r.limits.steps (r.history ++ c.args.event ∷ []) in
    let G : List Event → Type 0 = IsHistory c.self.inside.program.value c.self.inside.limits.steps in
    subst F c.self.view_is (subst G (c.push_reserved.ensures.items ∙ ap (λ (l : List Event). l ++ c.args.event ∷ []) c.make_room.ensures.items)
    (run_more c.self.inside.program.value c.self.inside.limits.steps c.self.inside.events.items c.self.inside.config c.self.inside.steps c.self.inside.end c.self.inside.served c.self.invariant c.args.event
    c.step.new.config c.args.program.now c.push_reserved.new.self.items c.steps_of-taken.result c.end_of.result
    (c.requires ∙ ap (λ (r : RunState). r.program) (sym c.self.view_is)) (c.push_reserved.ensures.items ∙ ap (λ (l : List Event). l ++ c.args.event ∷ []) c.make_room.ensures.items) c.steps_of-taken.ensures (c.can_come.ensures.yes c.if-not-can_come.false) c.in_ok-step.ensures.ok c.end_of.ensures c.goroutines.ensures.stay c.goroutines.ensures.few).history)
