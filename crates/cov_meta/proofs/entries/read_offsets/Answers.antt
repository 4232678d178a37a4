use Rattle.std.proofs.Common.{◌∙◌}
use Rattle.std.proofs.lemmas.Result.{err_from_is_err_and}
use Rattle.cov_meta.specs.Fault.{Fails-further}
use Rattle.cov_meta.specs.Entries.{offset_at}
use Rattle.cov_bytes.specs.Many.{goes_on, ends, is_done}
use Rattle.cov_meta.proofs.entries.read_offsets.Goals as goal

pub returns-in_err-place : goal.returns-in_err-place
returns-in_err-place c =
    let p = err_from_is_err_and c.from_residual.result c.from_residual.ensures.1 in
    rw (p.1, p.2) (Fails-further c.in_err-place.field-0.0 _ _ c.in_err-place.ensures
    (λ f e. ends (offset_at c.args.width c.args.cursor.now.bytes) c.loop.places.items c.args.count c.loop.counter c.loop.cursor.at f _ c.loop-test.true (rw (← c.loop.invariant.same) e) c.loop.invariant.so_far))

pub loop-preserved : goal.loop-preserved
loop-preserved c = record {
  so_far = rw c.in_ok-push.ensures.items (goes_on (offset_at c.args.width c.args.cursor.now.bytes) c.loop.places.items c.args.count c.loop.counter c.loop.cursor.at c.in_ok-place.place c.read_offset.new.cursor.at _ c.loop-test.true (rw (← c.loop.invariant.same) c.in_ok-place.ensures.0) c.loop.invariant.so_far);
  same = c.in_ok-place.ensures.1 ∙ c.loop.invariant.same;
}

pub returns : goal.returns
returns c = (is_done (offset_at c.args.width c.args.cursor.now.bytes) c.loop.places.items c.args.count c.loop.counter c.loop.cursor.at _ c.loop-test.false c.loop.invariant.so_far, c.loop.invariant.same)
