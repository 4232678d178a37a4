use Rattle.go_state.proofs.Applying.{run_start}
use Rattle.go_state.proofs.run.Run.start.Goals as goal

pub invariant_of-result : goal.invariant_of-result
invariant_of-result c = run_start c.args.program.now c.of.result.value c.args.limits.steps c.new.result.items c.in_ok-config.config c.end_of-end.result c.of.ensures c.new.ensures.items c.in_ok-config.ensures c.end_of-end.ensures
