use Rattle.std.proofs.Common.{◌≡◌, ap, ◌∙◌}
use Rattle.std.specs.Prelude.{slice_set}
use Rattle.go_meaning.specs.declared.value.Value.TheVariants.{Flag}
use Rattle.std.proofs.Common.{false}
use Rattle.go_step.specs.Handing.{untucked, tucked}
use Rattle.go_step.proofs.Restored.{restored}
use Rattle.go_step.proofs.Handed.{untucked_is}
use Rattle.go_step.proofs.handing.hand_over.Goals as goal

pub returns-in-Err-clause-err : goal.returns-in-Err-clause-err
returns-in-Err-clause-err c =
    let f = c.args.frame.now in
    let a = c.args.offer in
    let stack : c.swap_at-hole.new.self ≡ f.stack =
    c.swap_at-hole.ensures.new ∙ ap (λ l. slice_set l a.below c.in-Err.value) c.swap_at-value.ensures.new
    ∙ ap (slice_set (slice_set f.stack a.below (Flag false)) a.below) c.in-Err.ensures.back
    ∙ restored f.stack a.below (Flag false) c.swap_at-value.result c.swap_at-value.ensures.old in
    let control : c.untuck.new.control ≡ f.control =
    c.untuck.ensures ∙ ap (untucked c.len-count.result) c.in_ok-tuck.ensures.ok ∙ untucked_is a.items f.control c.len-count.result c.requires.fits.2 c.len-count.ensures in
    ap (λ l. record f { stack = l; control = c.untuck.new.control }) stack ∙ ap (λ l. record f { control = l }) control
