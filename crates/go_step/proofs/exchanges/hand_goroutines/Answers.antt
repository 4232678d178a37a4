use Rattle.go_step.proofs.Exchanging.{goroutines_hand, goroutines_back}
use Rattle.go_step.proofs.exchanges.hand_goroutines.Goals as goal

pub returns-in-Ok-clause-ok : goal.returns-in-Ok-clause-ok
returns-in-Ok-clause-ok c = goroutines_hand c.args.goroutines.now c.replace-from.new.self c.replace-to.new.self c.replace-hole.new.self c.replace-hole-in-Ok.new.self c.args.sender c.args.receiver c.args.offer c.args.want c.replace-from.result c.replace-to.result c.empty_goroutine.result c.empty_goroutine-2.result c.hand_frames.new.senders c.hand_frames.new.receivers c.requires.others c.requires.offer c.requires.want c.replace-from.ensures.old c.replace-from.ensures.new c.replace-to.ensures.old c.replace-to.ensures.new c.in-Ok.ensures.sender c.in-Ok.ensures.receiver c.replace-hole.ensures.new c.replace-hole-in-Ok.ensures.new

pub returns-in-Err-clause-err : goal.returns-in-Err-clause-err
returns-in-Err-clause-err c = goroutines_back c.args.goroutines.now c.replace-from.new.self c.replace-to.new.self c.replace-hole-in-Err.new.self c.replace-hole-in-Err-2.new.self c.args.sender c.args.receiver c.replace-from.result c.replace-to.result c.empty_goroutine.result c.empty_goroutine-2.result c.hand_frames.new.senders c.hand_frames.new.receivers c.requires.others c.replace-from.ensures.old c.replace-from.ensures.new c.replace-to.ensures.old c.replace-to.ensures.new c.in-Err.ensures.same c.in-Err.ensures.err c.replace-hole-in-Err.ensures.new c.replace-hole-in-Err-2.ensures.new
