use Rattle.std.proofs.Common.{◌∙◌, ap, sym, refl}
use Rattle.std.specs.Option.{option_copied}
use Rattle.gocov_words.proofs.Dashes.{stripped, no_dash, dashes}
use Rattle.gocov_words.proofs.word.flag_text.Goals as goal

pub returns-in_err-text : goal.returns-in_err-text
returns-in_err-text c =
    ap option_copied c.from_residual.ensures ∙ no_dash c.args.word.now c.strip_prefix.result (stripped c.args.word.now c.strip_prefix.result c.strip_prefix.ensures.cases) c.in_err-text.was

pub returns : goal.returns
returns c =
    let text = c.in_ok-text.text in
    dashes c.args.word.now text.now c.strip_prefix-2.result c.unwrap_or.result text
    (sym (ap option_copied c.in_ok-text.was) ∙ stripped c.args.word.now c.strip_prefix.result c.strip_prefix.ensures.cases)
    refl
    (sym c.if-is_empty.ensures)
    (stripped text.now c.strip_prefix-2.result c.strip_prefix-2.ensures.cases)
    c.unwrap_or.ensures
