use Rattle.gocov_run.proofs.Ended.{serial_has_end}
use Rattle.gocov_run.proofs.running.ran_of.Goals as goal

pub unreachable-requires : goal.unreachable-requires
unreachable-requires c =
    let run = c.args.run.now in
    serial_has_end run.program run.limits.steps run.history c.output-output.result.now c.requires c.output-output.ensures (rw c.in_default.is at c.end.ensures)
