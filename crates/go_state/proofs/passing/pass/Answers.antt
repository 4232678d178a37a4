use Rattle.std.proofs.Common.{inl, sym, subst, arith, Option}
use Rattle.std.specs.Prelude.{IfSome}
use Rattle.go_meaning.specs.declared.config.Config.{Config}
use Rattle.go_meaning.specs.Programs.{Parts}
use Rattle.go_meaning.specs.Readiness.{IsIdle}
use Rattle.go_state.specs.Schedule.{IsIdleIn, CanPass}
use Rattle.go_state.proofs.Distances.{closer, idle_if, lives}
use Rattle.go_state.proofs.Scheduling.{many, pass_on}
use Rattle.go_state.proofs.passing.pass.Goals as goal

pub next-at-requires-clause-lives : goal.next-at-requires-clause-lives
next-at-requires-clause-lives c = (c.in-Some.target, lives c.args.program.now c.config-config.result.now c.in-Some.target c.in-Some.ensures.stirs)

pub loop-at-init : goal.loop-at-init
loop-at-init c = record {
  at = pass_on c.args.run.now c.args.now c.args.taken c.next-at.result c.config-config.result.now c.config-config.ensures c.requires.at c.requires.passes c.requires.goes c.next-at.ensures.next;
  some = c.next-at.ensures.number.0;
  there = c.next-at.ensures.number.1;
}

pub loop-at-smaller : goal.loop-at-smaller
loop-at-smaller c =
    let few = c.known.ensures.few in
    let a = many c.args.run.now.program c.args.run.now.history c.config-config.result.now c.config-config.ensures in
    let x = c.loop-at.invariant.there in
    let y = c.next-at-in-loop-at.ensures.number.1 in
    closer c.config-config.result.now c.loop-at.at c.next-at-in-loop-at.result c.in-Some.target c.next-at-in-loop-at.ensures.next (lives c.args.program.now c.config-config.result.now c.in-Some.target c.in-Some.ensures.stirs)
    c.loop-at-test.true (omega (arith, few, a, x)) (omega (arith, few, a, y)) c.next-at-in-loop-at.ensures.number.0

pub loop-at-preserved : goal.loop-at-preserved
loop-at-preserved c =
    let F : Parts → Type 0 = λ P. IsIdle P c.config-config.result.now c.loop-at.at in
    let G : Option Config → Type 0 = λ o. IfSome o (λ d. IsIdle c.args.run.now.program d c.loop-at.at) in
    let idle : IsIdleIn c.args.run.now c.loop-at.at = subst G (sym c.config-config.ensures) (subst F c.requires.same (idle_if c.args.program.now c.config-config.result.now c.loop-at.at c.first_event.result c.if-is_none.ensures c.first_event.ensures)) in
    let can : CanPass c.args.run.now c.loop-at.at 0 = inl idle in
    record {
      at = pass_on c.args.run.now c.loop-at.at 0 c.next-at-in-loop-at.result c.config-config.result.now c.config-config.ensures c.loop-at.invariant.at can c.requires.goes c.next-at-in-loop-at.ensures.next;
      some = c.next-at-in-loop-at.ensures.number.0;
      there = c.next-at-in-loop-at.ensures.number.1;
    }
