use Rattle.std.proofs.Common.{◌≡◌, ◌+◌, ◌++◌, ap, subst, arith, Option}
use Rattle.std.specs.Prelude.{IfSome}
use Rattle.go_meaning.specs.declared.config.Config.{Config}
use Rattle.go_meaning.specs.Programs.{Parts}
use Rattle.go_meaning.specs.Entries.{count_at}
use Rattle.go_meaning.specs.Histories.{replay}
use Rattle.go_meaning.specs.Steps.{due, numbered}
use Rattle.go_state.specs.Runs.{RunState}
use Rattle.go_state.proofs.Dues.{counted_more}
use Rattle.go_state.proofs.Scheduling.{extends_on, many}
use Rattle.go_state.proofs.schedule.count_rest.Goals as goal

pub loop-i-preserved : goal.loop-i-preserved
loop-i-preserved c =
    let k = c.loop-i.invariant.counted in
    let p = ap (λ (r : RunState). r.program) c.loop-i.invariant.extends in
    let G : Parts → Type 0 = λ P. IfSome (replay P c.loop-i.run.history) (λ d. c.count.new.run.history ≡ c.loop-i.run.history ++ count_at (due P (numbered d (c.loop-i.i + 1))) (c.loop-i.i + 1)) in
    let F : Option Config → Type 0 = λ o. IfSome o (λ d. c.count.new.run.history ≡ c.loop-i.run.history ++ count_at (due c.args.run.now.program (numbered d (c.loop-i.i + 1))) (c.loop-i.i + 1)) in
    let e = c.goroutines-i-end.ensures in
    let m = many c.args.run.now.program c.args.run.now.history k.first k.before in
    let l = c.loop-i-test.true in
    record {
      extends = extends_on c.args.run.now c.loop-i.run c.count.new.run c.loop-i.invariant.extends c.in_ok-count.ensures.extends;
      counted = counted_more c.args.run.now.program c.args.run.now.history c.loop-i.run.history c.count.new.run.history k.last c.loop-i.i k (omega (arith, e, m, l)) k.after (subst F k.after (subst G p c.in_ok-count.ensures.events));
    }
