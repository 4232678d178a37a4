use Rattle.std.proofs.lemmas.Result.{IfOk-weaker}
use Rattle.go_threads.proofs.FirstSeat.{ended_by}
use Rattle.go_threads.proofs.running.all.Goals as goal

pub returns-in_ok-serve_all-in-Ok-clause-ended : goal.returns-in_ok-serve_all-in-Ok-clause-ended
returns-in_ok-serve_all-in-Ok-clause-ended g c = IfOk-weaker c.join_all.result _ _ (λ s h. ended_by c.args.cells.now c.start_all.new.seat s c.histories_grow.ensures.end c.in-Ok.ensures.finished h.0 h.1) c.join_all.ensures.given
