use Rattle.std.proofs.Common.{◌++◌, ◌+◌, ◌∙◌, List, sym, ap, drop}
use Rattle.go_meaning.specs.declared.program.Global.{Global}
use Rattle.go_meaning.specs.Histories.{start_mutexes}
use Rattle.go_step.proofs.Undone.{next_undone, none_undone, append_none}
use Rattle.go_step.proofs.starting.mutexes.Goals as goal

pub loop-variable-preserved : goal.loop-variable-preserved
loop-variable-preserved c =
    c.in_ok-push_mutex.ensures (drop (c.loop-variable.variable-index + 1) c.args.variables.now)
    ∙ ap (λ (l : List Global). c.loop-variable.all ++ start_mutexes l) (sym (next_undone c.args.variables.now c.loop-variable.variable-index c.variable-item.result c.loop-variable-test.true c.variable-item.is))
    ∙ c.loop-variable.invariant

pub returns : goal.returns
returns c = sym (append_none c.loop-variable.all) ∙ ap (λ (l : List Global). c.loop-variable.all ++ start_mutexes l) (sym (none_undone c.args.variables.now c.loop-variable.variable-index c.loop-variable-test.false)) ∙ c.loop-variable.invariant
