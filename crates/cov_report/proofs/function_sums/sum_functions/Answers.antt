use Rattle.std.proofs.Common.{ℕ, ◌≤◌, ◌∙◌, ap, length, take, arith, subst, sym}
use Rattle.std.specs.Prelude.{◌==◌, if◌then◌else◌}
use Rattle.std.specs.Option.{option_map}
use Rattle.cov_table.specs.Key.{Key}
use Rattle.cov_table.specs.Unit.{unit_entry}
use Rattle.cov_report.specs.Filter.{keeps}
use Rattle.cov_report.specs.TextProfile.{kept_units}
use Rattle.cov_report.specs.FunctionSums.{AreSums}
use Rattle.cov_report.proofs.Lines.{none_past}
use Rattle.cov_report.proofs.KeptUnits.{kept_more, sum_before}
use Rattle.cov_report.proofs.function_sums.sum_functions.Goals.{in-Some+in_ok-add_kept, in_default}
use Rattle.cov_report.proofs.function_sums.sum_functions.Goals as goal

pub add_kept-requires : goal.add_kept-requires
add_kept-requires c =
    let keep = λ (u : Key × ℕ). keeps c.args.filter.now.patterns u.0.package_path in
    let statements = sum_before keep (λ u. u.0.statements) c.args.units.now c.loop-i.i in
    let covered = sum_before keep (λ u. if u.1 == 0 then 0 else u.0.statements) c.args.units.now c.loop-i.i in
    record {
      units = kept_units c.args.filter.now.patterns (take c.loop-i.i c.args.units.now);
      are = c.loop-i.invariant;
      few_statements = omega (arith, statements, c.requires.statements);
      few_covered = omega (arith, covered, c.requires.covered);
    }

pub loop-i-preserved : goal.loop-i-preserved
loop-i-preserved c =
    let patterns = c.args.filter.now.patterns in
    let units = c.args.units.now in
    elim c.match-get.branch [
      | in-Some+in_ok-add_kept w ↦
          let more = kept_more (λ (u : Key × ℕ). keeps patterns u.0.package_path) units c.loop-i.i (unit_entry w.in-Some.unit) w.in-Some.ensures in
          rw w.functions-is (subst (λ us. AreSums us w.add_kept.new.functions.entries) (sym more) (w.in_ok-add_kept.ensures (kept_units patterns (take c.loop-i.i units)) c.loop-i.invariant))
      | in_default w ↦ let past : length units ≤ c.loop-i.i = none_past units c.loop-i.i (ap (option_map unit_entry) (sym w.in_default.is) ∙ c.get.ensures) in absurd (omega arith)
    ]
