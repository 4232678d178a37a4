use Rattle.std.proofs.Common.{◌≡◌, ◌<◌, length, None, slice_get, slice_set, ap, sym, ◌∙◌, subst, arith, length-set}
use Rattle.std.proofs.lemmas.Option.{slice_get_within}
use Rattle.go_meaning.specs.declared.config.Config.{Config}
use Rattle.go_step.specs.Goroutines.{holed, put_at, Leads, JoinsFrames}
use Rattle.go_step.proofs.Joining.{act_answers, fits_begin, fits_holed, joins_length}
use Rattle.go_step.proofs.goroutines.act.Goals as goal

pub frames_act-done-requires : goal.frames_act-done-requires
frames_act-done-requires c =
    let config = c.args.config.now in
    let go = c.replace-goroutine.result in
    let fits = fits_begin c.args.act config (slice_get config.goroutines c.args.index) go c.replace-goroutine.ensures.old c.requires in
    fits_holed c.args.act config c.replace-goroutine.new.self go.frames fits.1

pub replace-hole-requires : goal.replace-hole-requires
replace-hole-requires c =
    let config = c.args.config.now in
    let go = c.replace-goroutine.result in
    let within : c.args.index < length config.goroutines = slice_get_within config.goroutines c.args.index go c.replace-goroutine.ensures.old in
    omega (arith, within, ap length c.replace-goroutine.ensures.new, length-set config.goroutines c.args.index c.empty_goroutine.result, joins_length c.args.program.now (holed c.replace-goroutine.new.self config) c.frames_act-done.new.config c.args.index c.args.act go.frames c.frames_act-done.new.frames c.frames_act-done.result c.frames_act-done.ensures)

pub returns : goal.returns
returns c =
    let config = c.args.config.now in
    let go = c.replace-goroutine.result in
    let i = c.args.index in
    let fits = fits_begin c.args.act config (slice_get config.goroutines i) go c.replace-goroutine.ensures.old c.requires in
    let new = c.frames_act-done.new.config in
    let joins = subst (λ gs. JoinsFrames c.args.program.now (holed gs config) i go.frames c.args.act c.frames_act-done.result new c.frames_act-done.new.frames) c.replace-goroutine.ensures.new c.frames_act-done.ensures in
    subst (λ gs. Leads (put_at c.args.program.now config i c.args.act) config c.frames_act-done.result (holed gs new)) (sym c.replace-hole.ensures.new) (act_answers c.args.program.now config new i c.args.act go c.empty_goroutine.result c.frames_act-done.new.frames c.frames_act-done.result c.replace-goroutine.ensures.old fits.0 joins)
