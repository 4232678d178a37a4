use Rattle.std.proofs.Common.{sym, ap, ◌∙◌}
use Rattle.cov_report.proofs.Prefixes.{goes_on, under, not_under, goes_on_nowhere, goes_on_by}
use Rattle.cov_report.proofs.filter.is_under.Goals as goal

pub returns-in-None : goal.returns-in-None
returns-in-None c = sym (not_under c.args.above.now c.args.path.now c.in-None.ensures.cases)

pub returns-in-Some-empty : goal.returns-in-Some-empty
returns-in-Some-empty c =
    let rest = c.in-Some-empty.ensures.cases in
    sym (under c.args.above.now c.args.path.now rest.0 ∙ ap goes_on (sym rest.1) ∙ goes_on_nowhere c.in-Some-empty.field-0.now c.in-Some-empty.len_below)

pub returns-in-Some-len1-up : goal.returns-in-Some-len1-up
returns-in-Some-len1-up c =
    let rest = c.in-Some-len1-up.ensures.cases in
    sym (under c.args.above.now c.args.path.now rest.0 ∙ ap goes_on (sym rest.1) ∙ goes_on_by c.in-Some-len1-up.field-0.now c.in-Some-len1-up.len_at_least)
