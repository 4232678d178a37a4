use Rattle.std.proofs.Common.{sym, subst}
use Rattle.cov_rewrite.specs.Rewriting.{IsRewriting}
use Rattle.cov_rewrite.proofs.Telling.{rewriting, refused, only_memory}
use Rattle.cov_rewrite.proofs.rewriting.rewrite.Goals as goal

pub returns-in-Ok-clause-covered : goal.returns-in-Ok-clause-covered
returns-in-Ok-clause-covered c =
    subst (IsRewriting c.args.text.now c.args.name.now c.args.var.now c.args.mode) (sym c.into_vec.ensures) (rewriting c.args.text.now c.args.name.now c.args.var.now c.args.mode c.in-Ok.all c.in-Ok.ensures.told)

pub returns-in-Err-clause-fault : goal.returns-in-Err-clause-fault
returns-in-Err-clause-fault c = refused c.args.text.now c.args.name.now c.args.var.now c.args.mode c.in-Err.fault c.in-Err.ensures.told

pub returns-in-Err-clause-only : goal.returns-in-Err-clause-only
returns-in-Err-clause-only c =
    λ all r.
    only_memory c.args.text.now c.args.name.now c.args.var.now c.args.mode (λ x y h k. c.one_text_or_fault.ensures c.args.text.now c.args.name.now c.args.var.now c.args.mode x y h k) all r c.in-Err.fault c.in-Err.ensures.told
