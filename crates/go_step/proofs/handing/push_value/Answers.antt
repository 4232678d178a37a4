use Rattle.go_step.proofs.Handed.{pushes, put_back}
use Rattle.go_step.proofs.handing.push_value.Goals as goal

pub returns-in-Ok-clause-ok : goal.returns-in-Ok-clause-ok
returns-in-Ok-clause-ok c = pushes c.args.channels.now c.replace-channel.new.self c.replace-hole.new.self c.args.at c.args.value c.replace-channel.result c.new_channel.result c.push.new.self c.replace-channel.ensures.old c.replace-channel.ensures.new c.in-Ok.ensures.ok c.replace-hole.ensures.new

pub returns-in-Err-clause-err : goal.returns-in-Err-clause-err
returns-in-Err-clause-err c = put_back c.args.channels.now c.replace-channel.new.self c.replace-hole-in-Err.new.self c.args.at c.replace-channel.result c.new_channel.result c.push.new.self c.replace-channel.ensures.old c.replace-channel.ensures.new c.in-Err.ensures.err c.replace-hole-in-Err.ensures.new
