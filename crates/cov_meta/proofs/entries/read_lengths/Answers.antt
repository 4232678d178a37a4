use Rattle.std.proofs.Common.{◌∙◌}
use Rattle.std.proofs.lemmas.Result.{err_from_is_err_and}
use Rattle.cov_meta.specs.Fault.{Fails-further}
use Rattle.cov_meta.specs.Entries.{length_at}
use Rattle.cov_meta.proofs.Loops.{goes_on, ends, is_done}
use Rattle.cov_meta.proofs.entries.read_lengths.Goals as goal

pub returns-in_err-entry : goal.returns-in_err-entry
returns-in_err-entry c =
    let p = err_from_is_err_and c.from_residual.result c.from_residual.ensures.1 in
    rw (p.1, p.2) (Fails-further c.in_err-entry.field-0.0 _ _ c.in_err-entry.ensures
    (λ f e. ends (length_at c.args.cursor.now.bytes) c.loop-place.entries.items c.args.places.now c.loop-place.place-index (record { at = 0; offset = 0 }) c.loop-place.cursor.at f _ c.loop-place-test.true (rw (← c.loop-place.invariant.same) e) c.loop-place.invariant.so_far))

pub loop-place-preserved : goal.loop-place-preserved
loop-place-preserved c = record {
  so_far = rw c.in_ok-push.ensures.items (goes_on (length_at c.args.cursor.now.bytes) c.loop-place.entries.items c.args.places.now c.loop-place.place-index (record { at = 0; offset = 0 }) c.loop-place.cursor.at c.in_ok-entry.entry c.read_length.new.cursor.at _ c.loop-place-test.true (rw (← c.loop-place.invariant.same) c.in_ok-entry.ensures.0) c.loop-place.invariant.so_far);
  same = c.in_ok-entry.ensures.1 ∙ c.loop-place.invariant.same;
}

pub returns : goal.returns
returns c = (is_done (length_at c.args.cursor.now.bytes) c.loop-place.entries.items c.args.places.now c.loop-place.place-index c.loop-place.cursor.at _ c.loop-place-test.false c.loop-place.invariant.so_far, c.loop-place.invariant.same)
