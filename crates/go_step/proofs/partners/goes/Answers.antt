use Rattle.std.proofs.Common.{ap, ◌∙◌, slice_get}
use Rattle.std.specs.Prelude.{◌||◌}
use Rattle.go_step.specs.Heads.{acts, flag_at_zero}
use Rattle.go_step.proofs.Partnership.{goes_is, goes_zero}
use Rattle.go_step.proofs.partners.goes.Goals as goal

pub returns-then-lone_goes : goal.returns-then-lone_goes
returns-then-lone_goes c =
    let P = c.args.program.now in
    let config = c.args.config.now in
    let i = c.args.index in
    ap (λ b. b || flag_at_zero c.args.case (acts P config (slice_get config.goroutines i))) c.if-lone_goes.ensures ∙ goes_is P config i c.args.case

pub returns-then-case-eq0 : goal.returns-then-case-eq0
returns-then-case-eq0 c = c.acts.ensures ∙ goes_zero c.args.program.now c.args.config.now c.args.index c.args.case c.if-case-eq0.true c.if-lone_goes.ensures
