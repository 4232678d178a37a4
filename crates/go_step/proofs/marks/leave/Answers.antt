use Rattle.std.proofs.Common.{◌≡◌, ◌<◌, ◌-◌, length, drop, Some, slice_get, sym, ap, ◌∙◌, arith, length-drop}
use Rattle.std.proofs.lemmas.Option.{slice_get_within}
use Rattle.go_meaning.specs.Moves.{mark, cut_past}
use Rattle.go_step.proofs.PastMarks.{past_one_control, past_one_values}
use Rattle.go_step.proofs.marks.leave.Goals as goal

pub loop-item-preserved : goal.loop-item-preserved
loop-item-preserved c =
    let is = c.loop-item.control in
    let item = c.in-Some.item.now in
    let left = c.loop-item.left in
    let v = c.in-Some-mark.values in
    let at : slice_get is 1 ≡ Some item = sym c.in-Some.ensures in
    let is_mark : mark item ≡ Some v = sym c.in-Some-mark.ensures in
    let some : 0 < left = omega (arith, c.if-left-eq0.false) in
    let cut : c.drop_top-in-Some-mark-2.new.self ≡ drop 1 is = c.drop_top-in-Some-mark-2.ensures in
    record {
      head = omega (arith, slice_get_within is 1 item at, length-drop 1 is, ap length cut);
      control = ap (λ l. (cut_past (drop 1 l) (left - 1)).control) cut ∙ sym (past_one_control is item left v at is_mark some) ∙ c.loop-item.invariant.control;
      values = ap (λ l. drop (cut_past (drop 1 l) (left - 1)).values c.drop_top-in-Some-mark.new.self) cut ∙ ap (drop (cut_past (drop 1 (drop 1 is)) (left - 1)).values) c.drop_top-in-Some-mark.ensures ∙ past_one_values is item left v c.loop-item.stack at is_mark some ∙ c.loop-item.invariant.values;
    }
