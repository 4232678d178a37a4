use Rattle.std.proofs.Common.{◌≡◌, ◌∙◌, sym, ap, subst, Err}
use Rattle.go_meaning.specs.Programs.{Parts}
use Rattle.go_meaning.specs.WellFormed.{IsProgram}
use Rattle.go_threads.specs.Runnable.{IsRunnable}
use Rattle.go_threads.proofs.Recording.{recorded, has_room}
use Rattle.go_threads.proofs.stepping.record.Goals as goal

pub unreachable-requires : goal.unreachable-requires
unreachable-requires c = let run = c.args.run.now in
    c.apply.ensures.not_ready (c.in-Err-NotReady.is ∙ ap Err c.in-Err-NotReady.field-0-is) (recorded run.program run.limits.steps run.history c.args.goroutine c.in-Some.unit c.histories_grow.ensures.grow c.known.ensures.history (c.requires.due c.in-Some.unit c.in-Some.is))

pub unreachable-requires-in-Err-NoMemory : goal.unreachable-requires-in-Err-NoMemory
unreachable-requires-in-Err-NoMemory c = let run = c.args.run.now in
    c.apply.ensures.count tt
    (has_room run.program run.limits.steps run.spare run.history c.args.goroutine c.in-Some.unit (subst IsRunnable c.requires.program c.requires.runnable) (subst IsProgram c.requires.program c.known-2.ensures) c.standing.ensures.units c.shapes_run_alike.ensures c.histories_are_short.ensures
    c.known.ensures.history (c.requires.due c.in-Some.unit c.in-Some.is) c.requires.room)
    (c.in-Err-NoMemory.is ∙ ap Err c.in-Err-NoMemory.field-0-is)
