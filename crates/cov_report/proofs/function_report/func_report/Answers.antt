use Rattle.std.proofs.Common.{ap, subst, ◌∙◌, ◌<◌, ◌^◌}
use Rattle.cov_report.specs.FunctionLines.{func_text}
use Rattle.cov_report.specs.TextProfile.{kept_units}
use Rattle.cov_report.proofs.FunctionText.{small_sums, text_of_sums}
use Rattle.cov_report.proofs.function_report.func_report.Goals as goal

pub push_functions-requires : goal.push_functions-requires
push_functions-requires c =
    let units = kept_units c.args.filter.now.patterns c.in_ok-units.units in
    let total = c.total_of-total.ensures in
    small_sums units c.in_ok-functions.functions.entries c.in_ok-functions.ensures
    (subst (λ n. n < 2 ^ 100) total.statements total.small.0, subst (λ n. n < 2 ^ 100) total.covered total.small.1)

pub returns : goal.returns
returns c =
    let patterns = c.args.filter.now.patterns in
    let total = c.total_of-total.ensures in
    text_of_sums (kept_units patterns c.in_ok-units.units) c.in_ok-functions.functions.entries _ _ _ _ _ c.in_ok-functions.ensures total.covered total.statements c.new-text.ensures.items c.in_ok-push_functions.ensures c.in_ok-push_total.ensures
    ∙ ap (λ us. func_text (kept_units patterns us)) c.in_ok-units.ensures
