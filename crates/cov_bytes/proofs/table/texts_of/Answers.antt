use Rattle.std.proofs.Common.{◌≡◌, ◌∙◌, ap, length, refl, ◌+◌, Ok}
use Rattle.std.proofs.lemmas.Result.{err_from_is_err_and}
use Rattle.cov_bytes.specs.Table.{texts_at, next_text, Fails-further}
use Rattle.cov_bytes.specs.Many.{goes_on, ends, is_done}
use Rattle.cov_bytes.proofs.table.texts_of.Goals as goal

pub returns-in_err-text : goal.returns-in_err-text
unfolding texts_at next_text
returns-in_err-text c =
    let p = err_from_is_err_and c.from_residual.result c.from_residual.ensures.1 in
    rw (p.1, p.2) (Fails-further c.in_err-text.field-0.0 _ _ c.in_err-text.ensures.text
    (λ f e. rw (ends (next_text c.args.limits.now c.args.cursor.now.bytes) c.loop.texts.items c.args.count c.loop.counter (c.loop.all, c.loop.cursor.at) f _ c.loop-test.true (rw (← c.loop.invariant.same, e) refl) c.loop.invariant.so_far) refl))

pub loop-preserved : goal.loop-preserved
unfolding next_text
loop-preserved c =
    let len : length c.bytes.result.now ≡ length c.in_ok-text.text = ap length c.bytes.ensures in
    let same = c.in_ok-text.ensures.text.1 ∙ c.loop.invariant.same in
    let here : next_text c.args.limits.now c.args.cursor.now.bytes (c.loop.all, c.loop.cursor.at) ≡ Ok (c.in_ok-text.text, (c.loop.all + length c.in_ok-text.text, c.text_of.new.cursor.at)) = rw (← c.loop.invariant.same, c.in_ok-text.ensures.text.0) refl in
    record {
      so_far = rw (c.in_ok-push.ensures.items, len) (goes_on (next_text c.args.limits.now c.args.cursor.now.bytes) c.loop.texts.items c.args.count c.loop.counter (c.loop.all, c.loop.cursor.at) c.in_ok-text.text (c.loop.all + length c.in_ok-text.text, c.text_of.new.cursor.at) _ c.loop-test.true here c.loop.invariant.so_far);
      same = same;
      fits = rw len c.in_ok-text.ensures.fits;
    }

pub returns : goal.returns
unfolding texts_at
returns c = (rw (is_done (next_text c.args.limits.now c.args.cursor.now.bytes) c.loop.texts.items c.args.count c.loop.counter (c.loop.all, c.loop.cursor.at) _ c.loop-test.false c.loop.invariant.so_far) refl, c.loop.invariant.same)
