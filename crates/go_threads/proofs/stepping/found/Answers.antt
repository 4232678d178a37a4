use Rattle.std.proofs.Common.{◌≡◌, sym, ap, ◌∙◌, subst, arith, ℕ, ◌≤◌, inr, length, Some, true}
use Rattle.go_meaning.specs.declared.config.Goroutine.{Goroutine}
use Rattle.go_meaning.specs.Steps.{numbered}
use Rattle.go_meaning.specs.Histories.{replay}
use Rattle.go_meaning.specs.Readiness.{is_over}
use Rattle.go_threads.proofs.Standing.{absent, after, many, not_due, there}
use Rattle.go_threads.proofs.stepping.found.Goals as goal

pub unreachable-requires : goal.unreachable-requires
unreachable-requires c = not_due c.args.run.now.program c.args.program.now c.args.run.now.history c.config.result.now c.args.goroutine c.in-Count.field-0 c.requires.program c.config.ensures (sym c.due_in.ensures ∙ absent c.due_in.result c.if-is_some.ensures) c.in-Count.ensures

pub returns-in-Over : goal.returns-in-Over
returns-in-Over c =
    let few : c.args.goroutine ≤ length c.config.result.now.goroutines = (let a = many c.args.run.now.program c.args.run.now.history c.config.result.now c.config.ensures in let b = c.requires.there in omega (arith, a, b)) in
    let go = there c.config.result.now c.args.goroutine c.requires.number few in (
      sym c.due_in.ensures ∙ absent c.due_in.result c.if-is_some.ensures,
      inr (after (λ d. (one : Goroutine) × (numbered d c.args.goroutine ≡ Some one) × (is_over (Some one) ≡ true)) (replay c.args.run.now.program c.args.run.now.history) c.config.result.now c.config.ensures (go.0, go.1, ap is_over (sym go.1) ∙ c.in-Over.ensures)),
    )
