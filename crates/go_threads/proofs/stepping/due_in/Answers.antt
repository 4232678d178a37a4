use Rattle.std.proofs.Common.{◌∙◌}
use Rattle.go_threads.proofs.Standing.{due_at}
use Rattle.go_threads.proofs.stepping.due_in.Goals as goal

pub returns : goal.returns
returns c = c.due_of.ensures ∙ due_at c.args.run.now.program c.args.program.now c.args.run.now.history c.config.result.now c.args.goroutine c.requires.program c.requires.number c.config.ensures
