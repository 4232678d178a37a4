use Rattle.std.proofs.Common.{◌≡◌, ◌∙◌, ap, Some, None, true}
use Rattle.std.specs.Prelude.{is_some}
use Rattle.std.specs.Option.{option_copied}
use Rattle.go_state.specs.Runs.{RunState}
use Rattle.go_state.proofs.Dues.{serial_run}
use Rattle.go_state.proofs.Scheduling.{at_start}
use Rattle.go_state.proofs.schedule.serial.Goals as goal

pub turn-requires-clause-at : goal.turn-requires-clause-at
turn-requires-clause-at c = at_start c.reserve.new.self (ap (λ (r : RunState). r.history) c.in_ok-reserve.ensures.same ∙ c.in_ok-run.ensures.events)

pub returns-clause-history : goal.returns-clause-history
returns-clause-history c =
    let some : option_copied c.end.result ≡ None → ⊥ = λ k. let t : is_some c.end.result ≡ true = c.loop-run-test.ensures in (elim c.end.result as (λ o. is_some o ≡ true → option_copied o ≡ None → ⊥) [ None ↦ λ x y. cc | Some b ↦ λ x y. cc ]) t k in
    serial_run c.loop-run.run c.count_rest.new.run c.loop-run.now c.loop-run.taken c.args.program.now c.args.limits (option_copied c.end.result) c.loop-run.invariant.started.program c.loop-run.invariant.started.limits
    c.loop-run.invariant.at c.end.ensures some c.in_ok-count_rest.ensures.events
