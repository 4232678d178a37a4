use Rattle.std.proofs.Common.{Ok, Err}
use Rattle.std.proofs.lemmas.Result.{err_from_is_err_and}
use Rattle.gocov_words.specs.declared.heading.CommandName.TheVariants as commands
use Rattle.gocov_words.proofs.Verdicts.{usage_is, misplaced_is, refuses}
use Rattle.gocov_words.proofs.Requests.{checked_is, is_request, request_is}
use Rattle.gocov_words.proofs.data.read_data.Goals as goal

pub returns-in-Err : goal.returns-in-Err
returns-in-Err c = usage_is (commands.Covdata c.args.sub) c.args.words.now c.in-Err.at c.in-Err.ensures

pub returns-in-Some : goal.returns-in-Some
returns-in-Some c = misplaced_is (commands.Covdata c.args.sub) c.args.words.now c.in-Ok.flags c.in-Some.at c.in-Ok.ensures c.in-Some.ensures

pub returns-in_err-check : goal.returns-in_err-check
returns-in_err-check c =
    let p = err_from_is_err_and c.from_residual.result c.from_residual.ensures.1 in
    rw (p.1, p.2) (refuses c.in_err-check.field-0.0 _ (checked_is c.args.sub c.args.words.now c.in-Ok.flags (Err c.in_err-check.field-0.0) c.in-Ok.ensures c.in_default.ensures c.in_err-check.ensures))

pub invariant_of-result : goal.invariant_of-result
invariant_of-result c =
    is_request c.args.sub c.in-Ok.flags.values _ c.in_ok-list_of.field-0 c.in_ok-text_of.field-0 c.in_ok-list_of-2.field-0 c.in-Ok.ensures.values c.in_ok-check.ensures
    c.in_ok-list_of.ensures.pieces c.in_ok-text_of.ensures.text c.in_ok-list_of-2.ensures.pieces c.in_ok-list_of.ensures.utf8 c.in_ok-text_of.ensures.utf8 c.in_ok-list_of-2.ensures.utf8

pub returns : goal.returns
returns c =
    request_is _ c.args.sub c.in-Ok.flags.values c.in_ok-list_of.field-0 c.in_ok-text_of.field-0 c.in_ok-list_of-2.field-0
    (checked_is c.args.sub c.args.words.now c.in-Ok.flags (Ok tt) c.in-Ok.ensures c.in_default.ensures c.in_ok-check.ensures)
    c.in_ok-list_of.ensures.pieces c.in_ok-text_of.ensures.text c.in_ok-list_of-2.ensures.pieces
