use Rattle.go_meaning.specs.declared.item.Item.TheVariants.{Leave}
use Rattle.go_step.proofs.Handed.{untucks}
use Rattle.go_step.proofs.handing.untuck.Goals as goal

pub returns : goal.returns
returns c = untucks c.args.control.now c.swap_top-head.new.self c.cut.new.self c.swap_top-last.new.self c.args.count c.swap_top-head.result Leave c.swap_top-head.ensures.old c.swap_top-head.ensures.new c.cut.ensures c.swap_top-last.ensures.new
