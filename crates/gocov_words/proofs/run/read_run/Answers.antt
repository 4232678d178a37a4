use Rattle.std.proofs.Common.{◌∙◌, List, ℕ, Option, unwrap_or, ap, sym, subst}
use Rattle.std.specs.Str.{IsUtf8}
use Rattle.cov_outside.specs.declared.mode.Mode.{Mode}
use Rattle.cov_outside.specs.declared.mode.Mode.TheVariants.{Set}
use Rattle.gocov_words.specs.declared.heading.CommandName.TheVariants as commands
use Rattle.gocov_words.proofs.Verdicts.{usage_is, misplaced_is}
use Rattle.gocov_words.proofs.Runs.{no_dir, clashes, run_is, is_run}
use Rattle.gocov_words.proofs.run.read_run.Goals as goal

pub returns-in-Err : goal.returns-in-Err
returns-in-Err c = usage_is commands.Run c.args.words.now c.in-Err.at c.in-Err.ensures

pub returns-in-Some : goal.returns-in-Some
returns-in-Some c = misplaced_is commands.Run c.args.words.now c.in-Ok.flags c.in-Some.at c.in-Ok.ensures c.in-Some.ensures

pub returns-in_default-word_at : goal.returns-in_default-word_at
returns-in_default-word_at c = no_dir c.args.words.now c.in-Ok.flags c.in-Ok.ensures c.in_default.ensures c.in_default-word_at.ensures

pub returns-in-Some-clash : goal.returns-in-Some-clash
returns-in-Some-clash c = clashes c.args.words.now c.in-Ok.flags c.in-Some-word_at.dir.now c.in-Some-clash.at c.in-Ok.ensures c.in_default.ensures c.in-Some-word_at.ensures c.in-Some-clash.ensures

pub invariant_of-result : goal.invariant_of-result
invariant_of-result c =
    let IsText : List ℕ → Type 0 = λ t. IsUtf8 t in
    is_run c.args.words.now c.in-Ok.flags c.unwrap_or.result c.in_ok-text_of.field-0 c.is_serial.result c.max_steps.result c.in_ok-of.field-0 c.in-Ok.ensures c.in_default-clash.ensures
    (c.unwrap_or.ensures ∙ ap (λ (m : Option Mode). unwrap_or m Set) c.mode_of.ensures) c.in_ok-text_of.ensures.text c.is_serial.ensures c.max_steps.ensures c.in_ok-text_of.ensures.utf8 (subst IsText (sym c.in_ok-of.ensures) c.as_bytes.ensures.utf8)

pub returns : goal.returns
returns c =
    run_is c.args.words.now c.in-Ok.flags c.in-Some-word_at.dir.now c.unwrap_or.result c.in_ok-text_of.field-0 c.is_serial.result c.max_steps.result c.in_ok-of.field-0 c.in-Ok.ensures c.in_default.ensures
    c.in-Some-word_at.ensures c.in_default-clash.ensures
    (c.unwrap_or.ensures ∙ ap (λ (m : Option Mode). unwrap_or m Set) c.mode_of.ensures) c.in_ok-text_of.ensures.text c.is_serial.ensures c.max_steps.ensures (c.in_ok-of.ensures ∙ c.as_bytes.ensures.value)
