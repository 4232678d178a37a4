use Rattle.std.proofs.Common.{Ok}
use Rattle.std.proofs.lemmas.Result.{err_from_is_err_and}
use Rattle.gocov_words.specs.declared.heading.CommandName.TheVariants as commands
use Rattle.gocov_words.specs.declared.command.Command.TheVariants as command
use Rattle.gocov_words.proofs.Verdicts.{no_heading, named_is, named_refuses}
use Rattle.gocov_words.proofs.read.read_words.Goals as goal

pub returns-in_err-read_heading : goal.returns-in_err-read_heading
returns-in_err-read_heading c =
    let p = err_from_is_err_and c.from_residual.result c.from_residual.ensures.1 in
    rw (p.1, p.2) (no_heading c.args.words.now c.in_err-read_heading.field-0.0 c.in_err-read_heading.ensures.command)

pub returns-in_err-read_cover-in-Cover : goal.returns-in_err-read_cover-in-Cover
returns-in_err-read_cover-in-Cover c =
    let p = err_from_is_err_and c.from_residual-in_err-read_cover-in-Cover.result c.from_residual-in_err-read_cover-in-Cover.ensures.1 in
    rw (p.1, p.2) (named_refuses c.args.words.now c.in_ok-read_heading.field-0 commands.Cover c.in_err-read_cover-in-Cover.field-0.0 c.in-Cover.is c.in_ok-read_heading.ensures.command c.in_err-read_cover-in-Cover.ensures)

pub returns-in_err-read_run-in-Run : goal.returns-in_err-read_run-in-Run
returns-in_err-read_run-in-Run c =
    let p = err_from_is_err_and c.from_residual-in_err-read_run-in-Run.result c.from_residual-in_err-read_run-in-Run.ensures.1 in
    rw (p.1, p.2) (named_refuses c.args.words.now c.in_ok-read_heading.field-0 commands.Run c.in_err-read_run-in-Run.field-0.0 c.in-Run.is c.in_ok-read_heading.ensures.command c.in_err-read_run-in-Run.ensures)

pub returns-in_err-read_data-in-Covdata : goal.returns-in_err-read_data-in-Covdata
returns-in_err-read_data-in-Covdata c =
    let p = err_from_is_err_and c.from_residual-in_err-read_data-in-Covdata.result c.from_residual-in_err-read_data-in-Covdata.ensures.1 in
    rw (p.1, p.2) (named_refuses c.args.words.now c.in_ok-read_heading.field-0 (commands.Covdata c.in-Covdata.sub) c.in_err-read_data-in-Covdata.field-0.0 c.in-Covdata.is c.in_ok-read_heading.ensures.command c.in_err-read_data-in-Covdata.ensures)

pub returns-in_ok-read_cover-in-Cover : goal.returns-in_ok-read_cover-in-Cover
returns-in_ok-read_cover-in-Cover c = named_is c.args.words.now c.in_ok-read_heading.field-0 commands.Cover (Ok (command.Cover c.in_ok-read_cover-in-Cover.field-0)) c.in-Cover.is c.in_ok-read_heading.ensures.command c.in_ok-read_cover-in-Cover.ensures

pub returns-in_ok-read_run-in-Run : goal.returns-in_ok-read_run-in-Run
returns-in_ok-read_run-in-Run c = named_is c.args.words.now c.in_ok-read_heading.field-0 commands.Run (Ok (command.Run c.in_ok-read_run-in-Run.field-0)) c.in-Run.is c.in_ok-read_heading.ensures.command c.in_ok-read_run-in-Run.ensures

pub returns-in_ok-read_data-in-Covdata : goal.returns-in_ok-read_data-in-Covdata
returns-in_ok-read_data-in-Covdata c = named_is c.args.words.now c.in_ok-read_heading.field-0 (commands.Covdata c.in-Covdata.sub) (Ok (command.Covdata c.in_ok-read_data-in-Covdata.field-0)) c.in-Covdata.is c.in_ok-read_heading.ensures.command c.in_ok-read_data-in-Covdata.ensures
