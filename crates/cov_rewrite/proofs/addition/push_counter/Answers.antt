use Rattle.std.specs.Prelude.{codes, decimal}
use Rattle.cov_rewrite.specs.Additions.{counter_begin, counter_end}
use Rattle.cov_rewrite.proofs.Parts.{by_name, five_parts}
use Rattle.cov_rewrite.proofs.addition.push_counter.Goals as goal

pub returns : goal.returns
returns c =
    five_parts c.args.text.now.items _ _ _ _ _ (counter_begin c.args.mode) c.args.var.now (codes ".Count[") (decimal c.args.i) (counter_end c.args.mode)
    (by_name _ _ _ (counter_begin c.args.mode) c.in_ok-extend_from_slice.ensures.items c.counter_begin.ensures)
    c.in_ok-extend_from_slice-2.ensures.items c.in_ok-extend_from_slice-3.ensures.items c.in_ok-push_number.ensures
    (by_name _ _ _ (counter_end c.args.mode) c.in_ok-extend_from_slice-4.ensures.items c.counter_end.ensures)
