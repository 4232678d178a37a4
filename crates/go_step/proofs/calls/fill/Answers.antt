use Rattle.std.proofs.Common.{◌≡◌, ◌<◌, ◌++◌, map, take, drop, length, slice_get, Some, false, sym, ap, ◌∙◌, arith, length-set}
use Rattle.std.specs.Prelude.{slice_set}
use Rattle.go_meaning.specs.declared.value.Value.TheVariants.{Flag}
use Rattle.go_step.proofs.Arguments.{one_filled, get_past_set}
use Rattle.go_step.proofs.calls.fill.Goals as goal

pub loop-at-preserved : goal.loop-at-preserved
loop-at-preserved c =
    let args = c.args.args in
    let slots = c.args.slots.now in
    let at = c.loop-at.at in
    let value = c.replace-value.result in
    let got : slice_get args at ≡ Some value = sym (c.loop-at.invariant.left at (omega arith)) ∙ c.replace-value.ensures.old in
    let within : at < length slots = omega (arith, c.requires, c.loop-at-test.true, c.len-at-end.ensures) in
    record {
      slots = c.set.ensures ∙ ap (λ l. slice_set l at (Some value)) c.loop-at.invariant.slots ∙ one_filled args slots at value within got;
      left = λ k h. ap (λ l. slice_get l k) c.replace-value.ensures.new ∙ get_past_set c.loop-at.left at k (Flag false) (omega arith) ∙ c.loop-at.invariant.left k (omega arith);
      same = ap length c.replace-value.ensures.new ∙ length-set c.loop-at.left at (Flag false) ∙ c.loop-at.invariant.same;
      length = ap length c.set.ensures ∙ length-set c.loop-at.slots at (Some value) ∙ c.loop-at.invariant.length;
    }
