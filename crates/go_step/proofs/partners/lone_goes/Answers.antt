use Rattle.std.proofs.Common.{not, sym, ap, ◌∙◌}
use Rattle.go_step.specs.Partners.{any_ready, lone_by}
use Rattle.go_step.proofs.Partnership.{lone_way, lone_other}
use Rattle.go_step.proofs.partners.lone_goes.Goals as goal

pub returns-in-Default : goal.returns-in-Default
returns-in-Default c =
    let P = c.args.program.now in
    let config = c.args.config.now in
    let i = c.args.index in
    ap not c.any_ready.ensures ∙ ap (lone_by config (any_ready P config i)) (sym c.in-Default.is ∙ c.way_of_head.ensures) ∙ lone_way P config i c.args.case

pub returns-in_default : goal.returns-in_default
returns-in_default c = c.goes_alone.ensures ∙ lone_other c.args.program.now c.args.config.now c.args.index c.args.case c.way_of_head.result c.way_of_head.ensures c.in_default.not-Default
