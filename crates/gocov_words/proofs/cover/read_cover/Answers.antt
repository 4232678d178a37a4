use Rattle.std.proofs.Common.{◌∙◌, List, ℕ, sym, subst}
use Rattle.std.specs.Str.{IsUtf8}
use Rattle.gocov_words.specs.declared.heading.CommandName.TheVariants as commands
use Rattle.gocov_words.proofs.Verdicts.{usage_is, misplaced_is}
use Rattle.gocov_words.proofs.Covers.{no_mode, no_output, no_file, cover_is, is_cover}
use Rattle.gocov_words.proofs.cover.read_cover.Goals as goal

pub returns-in-Err : goal.returns-in-Err
returns-in-Err c = usage_is commands.Cover c.args.words.now c.in-Err.at c.in-Err.ensures

pub returns-in-Some : goal.returns-in-Some
returns-in-Some c = misplaced_is commands.Cover c.args.words.now c.in-Ok.flags c.in-Some.at c.in-Ok.ensures c.in-Some.ensures

pub returns-in_default-mode : goal.returns-in_default-mode
returns-in_default-mode c = no_mode c.args.words.now c.in-Ok.flags c.in-Ok.ensures c.in_default.ensures c.in_default-mode.is

pub returns-in_default-output : goal.returns-in_default-output
returns-in_default-output c = no_output c.args.words.now c.in-Ok.flags c.in-Some-mode.mode c.in-Ok.ensures c.in_default.ensures c.in-Some-mode.is c.in_default-output.is

pub returns-in_default-word_at : goal.returns-in_default-word_at
returns-in_default-word_at c = no_file c.args.words.now c.in-Ok.flags c.in-Some-mode.mode c.in-Some-output.out c.in-Ok.ensures c.in_default.ensures c.in-Some-mode.is c.in-Some-output.is c.in_default-word_at.ensures

pub invariant_of-result : goal.invariant_of-result
invariant_of-result c =
    let IsText : List ℕ → Type 0 = λ t. IsUtf8 t in
    is_cover c.args.words.now c.in-Ok.flags c.in-Some-output.out c.in-Some-word_at.file.now c.mode_of.result c.in_ok-of.field-0 c.in_ok-of-2.field-0 c.in_ok-of-3.field-0 c.in-Ok.ensures c.in_default.ensures
    c.in-Some-output.is c.in-Some-word_at.ensures (c.in_ok-of.ensures ∙ (c.as_bytes.ensures.value ∙ c.variable_of.ensures)) (c.in_ok-of-2.ensures ∙ c.as_bytes-2.ensures.value) (c.in_ok-of-3.ensures ∙ c.as_bytes-3.ensures.value)
    (subst IsText (sym c.in_ok-of.ensures) c.as_bytes.ensures.utf8) (subst IsText (sym c.in_ok-of-2.ensures) c.as_bytes-2.ensures.utf8) (subst IsText (sym c.in_ok-of-3.ensures) c.as_bytes-3.ensures.utf8)

pub returns : goal.returns
returns c =
    cover_is c.args.words.now c.in-Ok.flags c.in-Some-mode.mode c.in-Some-output.out c.in-Some-word_at.file.now c.mode_of.result c.in_ok-of.field-0 c.in_ok-of-2.field-0 c.in_ok-of-3.field-0 c.in-Ok.ensures c.in_default.ensures
    c.in-Some-mode.is c.in-Some-output.is c.in-Some-word_at.ensures c.mode_of.ensures (c.in_ok-of.ensures ∙ (c.as_bytes.ensures.value ∙ c.variable_of.ensures)) (c.in_ok-of-2.ensures ∙ c.as_bytes-2.ensures.value) (c.in_ok-of-3.ensures ∙ c.as_bytes-3.ensures.value)
