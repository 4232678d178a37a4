use Rattle.std.proofs.Common.{◌≡◌, ◌≤◌, arith, subst, sym, ◌∙◌}
use Rattle.std.specs.Prelude.{unwrap_or}
use Rattle.cov_table.specs.Unit.{unit_entry}
use Rattle.cov_report.specs.declared.function_sums.FunctionSum.{FunctionSum}
use Rattle.cov_report.specs.Shares.{statements_of, covered_of}
use Rattle.cov_report.specs.FunctionLines.{first_units}
use Rattle.cov_report.specs.FunctionSums.{function_of, function_sums, sum_among}
use Rattle.cov_report.proofs.FunctionSumming.{new_sum, sum_found_within, add_one}
use Rattle.cov_report.proofs.function_sums.add_unit.Goals as goal

pub with_unit-share-requires : goal.with_unit-share-requires
with_unit-share-requires c =
    let u = unit_entry c.args.unit.now in
    let units = c.requires.units in
    let found : c.sum_before-start_line.result ≡ unwrap_or (sum_among (function_of u.0) (function_sums units)) (new_sum u) =
    c.sum_before-start_line.ensures ∙ (λ i. unwrap_or (sum_among (c.name_of-name.ensures i) (c.requires.are.sums i)) (new_sum u)) in
    let within = sum_found_within units u (first_units units) in
    let covered : c.sum_before-start_line.result.share.covered ≤ covered_of units = subst (λ (s : FunctionSum). s.share.covered ≤ covered_of units) (sym found) within.1 in
    let statements : c.sum_before-start_line.result.share.statements ≤ statements_of units = subst (λ (s : FunctionSum). s.share.statements ≤ statements_of units) (sym found) within.0 in
    record { covered = omega (arith, covered, c.requires.few_covered); statements = omega (arith, statements, c.requires.few_statements) }

pub returns : goal.returns
returns c = λ units are.
    add_one units (unit_entry c.args.unit.now) c.args.functions.now.entries _ c.name_of-name.result c.sum_before-start_line.result c.with_unit-share.result are c.name_of-name.ensures c.sum_before-start_line.ensures c.with_unit-share.ensures.covered c.with_unit-share.ensures.statements c.in_ok-insert.ensures.entries
