use Rattle.std.proofs.Common.{◌∙◌}
use Rattle.std.proofs.lemmas.Result.{err_from_is_err_and}
use Rattle.cov_bytes.specs.Many.{goes_on, ends, is_done}
use Rattle.cov_counter.specs.Entry.{number_at}
use Rattle.cov_counter.proofs.Loops.{Fails-further}
use Rattle.cov_counter.proofs.entry.read_counts.Goals as goal

pub returns-in_err-count : goal.returns-in_err-count
returns-in_err-count c =
    let p = err_from_is_err_and c.from_residual.result c.from_residual.ensures.1 in
    rw (p.1, p.2) (Fails-further c.in_err-count.field-0.0 _ _ c.in_err-count.ensures
    (λ f e. ends (number_at c.args.head.now c.args.source.now.file) c.loop.counts.items c.args.length c.loop.counter c.loop.source.at f _ c.loop-test.true (rw (← c.loop.invariant.same) e) c.loop.invariant.so_far))

pub loop-preserved : goal.loop-preserved
loop-preserved c = record {
  so_far = rw c.in_ok-push.ensures.items (goes_on (number_at c.args.head.now c.args.source.now.file) c.loop.counts.items c.args.length c.loop.counter c.loop.source.at c.in_ok-count.count c.read_number.new.source.at _ c.loop-test.true (rw (← c.loop.invariant.same) c.in_ok-count.ensures.0) c.loop.invariant.so_far);
  same = c.in_ok-count.ensures.1 ∙ c.loop.invariant.same;
}

pub returns : goal.returns
returns c = (is_done (number_at c.args.head.now c.args.source.now.file) c.loop.counts.items c.args.length c.loop.counter c.loop.source.at _ c.loop-test.false c.loop.invariant.so_far, c.loop.invariant.same)
