use Rattle.std.proofs.Common.{◌≡◌, sym, ap, ◌∙◌, subst, inl, Some}
use Rattle.go_meaning.specs.declared.event.Event.{Event}
use Rattle.go_meaning.specs.Programs.{Parts}
use Rattle.go_meaning.specs.Steps.{due, numbered}
use Rattle.go_meaning.specs.Readiness.{IsFirst}
use Rattle.go_threads.proofs.Standing.{due_numbered}
use Rattle.go_threads.proofs.stepping.goes.Goals as goal

pub returns-in-Some-Count-clause-halts : goal.returns-in-Some-Count-clause-halts
returns-in-Some-Count-clause-halts c =
    let run = c.args.run.now in
    let F : Event → Type 0 = λ e. IsFirst c.args.program.now c.config.result.now c.args.goroutine (Some e) in
    let first = subst F c.in-Some-Count.field-0-is c.in-Some-Count.ensures in
    λ _ _. inl (c.in-Some-Count.field-0-1, due_numbered run.program run.history c.config.result.now c.args.goroutine c.config.ensures ∙ ap (λ (Q : Parts). due Q (numbered c.config.result.now c.args.goroutine)) (sym c.requires.program) ∙ first.1)
