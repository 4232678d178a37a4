use Rattle.std.proofs.Common.{ℕ, ◌≤◌, ◌∙◌, ap, length, arith, sym}
use Rattle.std.specs.Prelude.{◌==◌, if◌then◌else◌}
use Rattle.std.specs.Option.{option_map}
use Rattle.cov_table.specs.Key.{Key}
use Rattle.cov_table.specs.Unit.{unit_entry}
use Rattle.cov_report.specs.Filter.{keeps}
use Rattle.cov_report.proofs.Lines.{none_past}
use Rattle.cov_report.proofs.KeptUnits.{sum_more}
use Rattle.cov_report.proofs.function_sums.total_of.Goals.{in-Some, in_default}
use Rattle.cov_report.proofs.function_sums.total_of.Goals as goal

pub loop-i-preserved : goal.loop-i-preserved
loop-i-preserved c =
    elim c.match-get.branch [
      | in-Some w ↦
          let keep = λ (u : Key × ℕ). keeps c.args.filter.now.patterns u.0.package_path in
          let i = c.loop-i.invariant in
          let more = w.with_kept-total.ensures in
          rw w.total-is (record {
            statements = sum_more keep (λ u. u.0.statements) c.args.units.now c.loop-i.i (unit_entry w.in-Some.unit) _ c.loop-i.total.statements _ w.in-Some.ensures more.statements i.statements;
            covered = sum_more keep (λ u. if u.1 == 0 then 0 else u.0.statements) c.args.units.now c.loop-i.i (unit_entry w.in-Some.unit) _ c.loop-i.total.covered _ w.in-Some.ensures more.covered i.covered;
            few_statements = omega (arith, more.small.0, i.few_statements);
            few_covered = omega (arith, more.small.1, i.few_covered);
          })
      | in_default w ↦ let past : length c.args.units.now ≤ c.loop-i.i = none_past c.args.units.now c.loop-i.i (ap (option_map unit_entry) (sym w.in_default.is) ∙ c.get.ensures) in absurd (omega arith)
    ]
