use Rattle.go_step.proofs.LoneSteps.{enters, enter_back}
use Rattle.go_step.proofs.stepping.enter.Goals as goal

pub returns-in-Ok-clause-ok : goal.returns-in-Ok-clause-ok
returns-in-Ok-clause-ok c = enters c.args.config.now c.args.index c.args.entry c.replace-goroutine.result c.empty_goroutine.result c.replace-goroutine.new.self c.replace-hole.new.self c.enter_frames.new.frames c.replace-goroutine.ensures.old c.requires c.replace-goroutine.ensures.new c.in-Ok.ensures.ok c.replace-hole.ensures.new

pub returns-in-Err-clause-err : goal.returns-in-Err-clause-err
returns-in-Err-clause-err c = enter_back c.args.config.now c.args.index c.replace-goroutine.result c.empty_goroutine.result c.replace-goroutine.new.self c.replace-hole-in-Err.new.self c.enter_frames.new.frames c.replace-goroutine.ensures.old c.replace-goroutine.ensures.new c.in-Err.ensures.err c.replace-hole-in-Err.ensures.new
