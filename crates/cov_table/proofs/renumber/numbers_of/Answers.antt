use Rattle.std.proofs.Common.{◌≡◌, ◌∙◌, ap, rules}
use Rattle.cov_table.specs.Rows.{text_at}
use Rattle.cov_table.proofs.Pool.{extends_trans, renamed}
use Rattle.cov_table.proofs.Renumbering.{names_more}
use Rattle.cov_table.proofs.renumber.numbers_of.Goals as goal

pub loop-i-preserved : goal.loop-i-preserved
loop-i-preserved c =
    let same : c.in-Ok.i ≡ c.loop-i.i = search rules in
    let text = c.text_of.ensures ∙ ap (text_at c.args.from.now) same in
    record {
      kept = extends_trans _ _ _ c.loop-i.invariant.kept c.intern.ensures.kept;
      named = names_more c.loop-i.texts c.intern.new.texts c.loop-i.numbers.items _ c.args.from.now c.loop-i.i _ c.intern.ensures.kept (renamed _ _ _ _ text c.in_ok-intern.ensures.found) c.in_ok-push.ensures.items c.loop-i.invariant.named;
    }
