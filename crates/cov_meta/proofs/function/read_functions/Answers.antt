use Rattle.std.proofs.lemmas.Result.{err_from_is_err_and}
use Rattle.cov_meta.specs.Fault.{Fails-further}
use Rattle.cov_meta.specs.Function.{placed_function, functions_at}
use Rattle.cov_meta.proofs.Loops.{goes_on, ends, is_done}
use Rattle.cov_meta.proofs.function.read_functions.Goals as goal

pub returns-in_err-function : goal.returns-in_err-function
unfolding functions_at
returns-in_err-function c =
    let p = err_from_is_err_and c.from_residual.result c.from_residual.ensures.1 in
    rw (p.1, p.2) (Fails-further c.in_err-function.field-0.0 _ _ c.in_err-function.ensures
    (λ f e. ends (placed_function c.args.texts.now c.args.bytes.now c.args.start) c.loop-place.functions c.args.places.now c.loop-place.place-index _ c.loop-place.left f _ c.loop-place-test.true e c.loop-place.invariant))

pub loop-place-preserved : goal.loop-place-preserved
loop-place-preserved c =
    rw c.in_ok-push.ensures.ok (goes_on (placed_function c.args.texts.now c.args.bytes.now c.args.start) c.loop-place.functions c.args.places.now c.loop-place.place-index _ c.loop-place.left c.in_ok-function.function c.in_ok-function.behind _ c.loop-place-test.true c.in_ok-function.ensures c.loop-place.invariant)

pub returns : goal.returns
unfolding functions_at
returns c = is_done (placed_function c.args.texts.now c.args.bytes.now c.args.start) c.loop-place.functions c.args.places.now c.loop-place.place-index c.loop-place.left _ c.loop-place-test.false c.loop-place.invariant
