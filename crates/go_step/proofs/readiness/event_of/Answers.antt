use Rattle.std.proofs.Common.{◌≡◌, ◌+◌, ◌-◌, suc, refl, sym, ap, ◌∙◌, subst, arith}
use Rattle.go_meaning.specs.declared.event.Event.TheVariants.{Step}
use Rattle.go_meaning.specs.Steps.{step}
use Rattle.go_step.specs.FirstSteps.{IsLeastOfCase}
use Rattle.go_step.proofs.FirstSteps.{alone_first, joined_first, no_first}
use Rattle.go_step.proofs.readiness.event_of.Goals as goal

pub returns-then-goes : goal.returns-then-goes
returns-then-goes c =
    let next : suc (c.args.g - 1) ≡ c.args.g = omega (arith, c.requires.some) in
    (refl, refl, subst (λ n. IsLeastOfCase c.args.program.now c.args.config.now n c.args.case 0 0) next (alone_first c.args.program.now c.args.config.now (c.args.g - 1) c.args.case (sym c.if-goes.ensures)))

pub returns-in-Some : goal.returns-in-Some
returns-in-Some c =
    let P = c.args.program.now in
    let config = c.args.config.now in
    let p = c.in-Some.partner in
    let next : suc (c.args.g - 1) ≡ c.args.g = omega (arith, c.requires.some) in
    let number : suc p.index ≡ p.index + 1 = omega arith in
    let least = joined_first P config (c.args.g - 1) c.args.case c.way_of_head-way.result p c.way_of_head-way.ensures (sym c.if-goes.ensures) c.in-Some.ensures.first in
    (refl, refl, subst (λ n. IsLeastOfCase P config c.args.g c.args.case n p.case) number (subst (λ n. IsLeastOfCase P config n c.args.case (suc p.index) p.case) next least))

pub returns-in-None : goal.returns-in-None
returns-in-None c p q =
    let P = c.args.program.now in
    let config = c.args.config.now in
    let next : c.args.g ≡ suc (c.args.g - 1) = omega (arith, c.requires.some) in
    ap (λ n. step P config (Step n c.args.case p q)) next
    ∙ no_first P config (c.args.g - 1) c.args.case c.way_of_head-way.result c.way_of_head-way.ensures (sym c.if-goes.ensures) c.in-None.ensures.first p q
