use Rattle.std.proofs.Common.{length, subst, sym}
use Rattle.std.specs.Prelude.{Err}
use Rattle.go_parse.specs.Answers.{IsWithin}
use Rattle.cov_rewrite.specs.Coming.{ComesTo, Tells}
use Rattle.cov_rewrite.proofs.Telling.{lexical_told, lexical_within}
use Rattle.cov_rewrite.proofs.rewriting.rewrite_counted.Goals as goal

pub returns-in-Err-clause-told : goal.returns-in-Err-clause-told
returns-in-Err-clause-told c =
    subst (λ e. Tells (Err e) (ComesTo c.args.text.now c.args.name.now c.args.var.now c.args.mode)) (sym c.lexical.ensures)
    (lexical_told c.args.text.now c.args.name.now c.args.var.now c.args.mode c.in-Err.fault c.in-Err.ensures.fault)

pub returns-in-Err-clause-within : goal.returns-in-Err-clause-within
returns-in-Err-clause-within c =
    subst (IsWithin (length c.args.text.now)) (sym c.lexical.ensures)
    (lexical_within c.args.text.now c.args.name.now c.args.var.now c.args.mode c.faults_stand_in_text.ensures c.in-Err.fault c.in-Err.ensures.fault)
