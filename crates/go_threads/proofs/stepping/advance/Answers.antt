use Rattle.std.proofs.Common.{◌≡◌, arith, length, length-append, ◌++◌, ◌∷◌, []}
use Rattle.go_meaning.specs.declared.event.Event.TheVariants.{Step}
use Rattle.go_threads.proofs.Giving.{grows_on, own_more}
use Rattle.go_threads.proofs.stepping.advance.Goals as goal

pub loop-preserved : goal.loop-preserved
loop-preserved c =
    let i = c.loop.invariant in
    let s = c.goes.ensures.yes c.if-not-goes.false in (
      i.0 ++ Step c.args.goroutine s.0 s.1 s.2 ∷ [],
      grows_on c.args.run.now c.loop.run c.goes.new.run i.0 (Step c.args.goroutine s.0 s.1 s.2 ∷ []) i.1 s.3,
      own_more c.args.goroutine i.0 s.0 s.1 s.2 i.2,
      (let n = length-append i.0 (Step c.args.goroutine s.0 s.1 s.2 ∷ []) in let m = i.3 in omega (arith, n, m)),
      c.goes.ensures.there,
    )
