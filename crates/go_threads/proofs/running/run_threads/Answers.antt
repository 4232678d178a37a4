use Rattle.std.proofs.Common.{rules, ◌≡◌, [], subst}
use Rattle.std.specs.Prelude.{replicate, vec_len}
use Rattle.std.specs.Option.{option_copied}
use Rattle.go_meaning.specs.Histories.{EndAfter}
use Rattle.go_state.specs.Runs.{RunState}
use Rattle.go_threads.specs.Seats.{EndedBy, IsAlone}
use Rattle.go_threads.proofs.Closing.{outcome}
use Rattle.go_threads.proofs.running.run_threads.Goals as goal

pub returns : goal.returns
returns g c =
    let run = c.reserve.new.self in
    let closed = c.in_ok-closed.closed in
    let zeroed : c.as_slice.result.now ≡ replicate c.args.program.now.units 0 = search rules in
    let none : run.history ≡ [] = search rules in
    let program : run.program ≡ c.args.program.now = search rules in
    let limits : run.limits ≡ c.args.limits = search rules in
    let alone : IsAlone c.in_ok-cells.cells c.in_ok-seat.seat = search rules in
    let ended : EndedBy c.in_ok-cells.cells c.in_ok-seat.seat = search rules in
    let len : vec_len closed.words ≡ closed.run.program.units = search rules in
    outcome c.args.program.now c.args.limits c.args.mode c.in_ok-cells.cells c.in_ok-seat.seat closed c.as_slice.result.now run (option_copied c.end.result) c.shapes_run_alike.ensures c.erased.ensures.erasing c.in_ok-cells.ensures.origin zeroed none program limits
    alone ended c.in_ok-closed.ensures.start c.in_ok-closed.ensures.given c.in_ok-closed.ensures.covered len (subst (λ (r : RunState). EndAfter r.program r.limits.steps r.history (option_copied c.end.result)) c.run-2.ensures c.end.ensures)
