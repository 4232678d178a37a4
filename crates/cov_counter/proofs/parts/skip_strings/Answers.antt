use Rattle.std.proofs.Common.{◌∙◌}
use Rattle.std.proofs.lemmas.Result.{err_from_is_err_and}
use Rattle.cov_counter.proofs.Loops.{Fails-further, each-ends, each-goes_on, each-is_done}
use Rattle.cov_counter.specs.Parts.{behind_string}
use Rattle.cov_counter.proofs.parts.skip_strings.Goals as goal

pub returns-in_err-skip_string : goal.returns-in_err-skip_string
returns-in_err-skip_string c =
    let p = err_from_is_err_and c.from_residual.result c.from_residual.ensures.1 in
    rw (p.1, p.2) (Fails-further c.in_err-skip_string.field-0.0 _ _ c.in_err-skip_string.ensures
    (λ f e. each-ends (behind_string c.args.table.now.file) c.args.count c.loop.counter c.loop.table.at f _ c.loop-test.true (rw (← c.loop.invariant.same) e) c.loop.invariant.so_far))

pub loop-preserved : goal.loop-preserved
loop-preserved c = record {
  so_far = each-goes_on (behind_string c.args.table.now.file) c.args.count c.loop.counter c.loop.table.at c.skip_string.new.table.at _ c.loop-test.true (rw (← c.loop.invariant.same) c.in_ok-skip_string.ensures.0) c.loop.invariant.so_far;
  same = c.in_ok-skip_string.ensures.1 ∙ c.loop.invariant.same;
}

pub returns : goal.returns
returns c = (each-is_done (behind_string c.args.table.now.file) c.args.count c.loop.counter c.loop.table.at _ c.loop-test.false c.loop.invariant.so_far, c.loop.invariant.same)
