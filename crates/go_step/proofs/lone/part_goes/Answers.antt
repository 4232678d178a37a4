use Rattle.go_step.proofs.Going.{goroutine_goes}
use Rattle.go_step.proofs.lone.part_goes.Goals as goal

pub returns : goal.returns
returns c = goroutine_goes c.args.part c.args.config.now c.args.index c.replace-goroutine.result c.empty_goroutine.result c.replace-goroutine.new.self c.replace-hole.new.self c.frames_go-done.new.channels c.frames_go-done.new.frames c.frames_go-done.result c.replace-goroutine.ensures.old c.requires c.replace-goroutine.ensures.new c.frames_go-done.ensures c.replace-hole.ensures.new
